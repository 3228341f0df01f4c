-- The order of demand 3 in rows and columns, as the scheme's theory sees it: by groups as read.
use mathlib.Core.Path.{◌≡◌, refl, sym, ap, ap₂, subst, ◌∙◌}
use mathlib.Core.Logic.{◌⊎◌, inl, inr}
use mathlib.Core.Bool.{false}
use mathlib.Core.List.{List, [], ◌∷◌}
use Prim.Native.Nat.{ℕ, ◌/◌, ◌%◌, ◌≤◌, ◌<◌}
use native.Mathlib.Omega.{arith}
use lib.ListN.{length, get_or}
use Rattle.gf2.specs.Word.{Word, ◌⊕◌, distance}
use Rattle.scheme.specs.Layer.{Promises}
use Rattle.scheme.specs.Visit.{Group}
use Rattle.scheme.specs.Parity.{as_read}
use Rattle.scheme.specs.Demand3.{◌∈◌}
use Rattle.scheme.specs.Demand3 as Scheme
use Rattle.scheme.proofs.Lists.{in_map}
use Rattle.rectangle.specs.Store.{line_layer, lines_in, row, column, groups}
use Rattle.rectangle.specs.Repair.{used_groups}
use Rattle.demands.specs.Demands.{Rectangle, count, groups_of, Written, Distinct, damage, damaged_at, row_damage, column_damage, Turn, Turns, WithinBounds, Order}
use Rattle.rectangle.proofs.Buffer.{length-places_at, length-lines_in, lines_in-at, holds-length}
use Rattle.rectangle.proofs.Groups.{in_row, row_number, row_below, in-column, column-number, column-below, row_listed, column-listed}
use Rattle.rectangle.proofs.Tests.{tables-lengths}
use Rattle.demands.proofs.Written.{words_of, some-columns, rows_written, columns-written}
use Rattle.demands.proofs.Damaged.{TableDamaged, counts}

-- what is received, with the rows and columns of the rectangle written
abbrev pub received : Rectangle → List ℕ → List ℕ → List ℕ → Rectangle
received w lines row_table column_table =
    record { rows = w.rows; columns = w.columns; lines = lines; row_table = row_table; column_table = column_table }

-- ---- the bounds: the tables are damaged within them, in either direction, and the lines as the scheme bounds them
module _ (promises : Promises line_layer) (w : Rectangle) (written : Written w) (lines row_table column_table : List ℕ)
    (bounds : WithinBounds w (received w lines row_table column_table)) where
  some : 0 < w.columns
  some = some-columns promises w written

  pub rows-damaged : TableDamaged w (row w.columns) w.rows w.row_table row_table
  rows-damaged =
      record {
        written = rows_written promises w written;
        whole = (tables-lengths w.rows w.columns row_table column_table bounds.shape.table_bytes).0;
        six = λ k h. omega (arith, bounds.row_five k h);
      }

  pub columns-damaged : TableDamaged w (column w.rows w.columns) w.columns w.column_table column_table
  columns-damaged =
      record {
        written = columns-written promises w written;
        whole = (tables-lengths w.rows w.columns row_table column_table bounds.shape.table_bytes).1;
        six = λ k h. omega (arith, bounds.column_five k h);
      }

  gs : List Group
  gs = groups_of (received w lines row_table column_table)

  ws : List Word
  ws = words_of w

  rs : List Word
  rs = lines_in (count w) lines

  r : Rectangle
  r = received w lines row_table column_table

  pub same-damage : (n : ℕ) → n < count w
      → Scheme.damage (words_of w) (lines_in (count w) lines) n ≡ damage w (received w lines row_table column_table) n
  same-damage n h = ap₂ distance (lines_in-at (count w) w.lines n h) (lines_in-at (count w) lines n h)

  same-places : (n : ℕ) → n < count w → (p : ℕ) → Scheme.damaged_at ws rs n p ≡ damaged_at w r n p
  unfolding ws rs r
  same-places n h p =
      ap₂ (λ (x y : Word). get_or (x ⊕ y) p false) (lines_in-at (count w) w.lines n h) (lines_in-at (count w) lines n h)

  within : (n : ℕ) → n < length (words_of w) → n < count w
  within n h = omega (arith, length-lines_in (count w) w.lines)

  -- the bounds in bytes are the scheme's
  pub bounded : Scheme.WithinBounds (words_of w) (lines_in (count w) lines) line_layer
  bounded =
      record {
        lines = length-lines_in (count w) lines ∙ sym (length-lines_in (count w) w.lines);
        places = λ n h.
            ap length (lines_in-at (count w) lines n (within n h))
            ∙ length-places_at (count w) lines (holds-length (count w) lines bounds.shape.line_bytes) n (within n h);
        five = λ n h. omega (arith, same-damage n (within n h), bounds.five n (within n h));
      }

  -- ---- a line's turn in a group that holds just the lines with its number
  module _ (n : ℕ) (later : List ℕ) (inside : n < count w) (insides : (m : ℕ) → m ∈ later → m < count w)
      (group_of : ℕ → ℕ) (g : Group) (listed : g ∈ gs) (holds : n ∈ g.members)
      (number : (m : ℕ) → m ∈ g.members → group_of m ≡ group_of n)
      (member : (m : ℕ) → m < count w → group_of m ≡ group_of n → m ∈ g.members) where
    turn : Turn w r group_of n later → Scheme.Alone ws rs gs n later ⊎ Scheme.Paired ws rs gs n later
    unfolding ws rs r
    turn (inl a) = inl (record { group = g; listed = listed; holds = holds; no_other = λ m i j. a m j (number m i) })
    turn (inr p) =
        let within : p.other < count w = insides p.other p.left in
        inr
        (record {
          two = same-damage n inside ∙ p.two;
          group = g;
          listed = listed;
          holds = holds;
          other = p.other;
          left = p.left;
          holds_other = member p.other within p.together;
          no_third = λ m i j. p.no_third m j (number m i);
          four = omega (arith, same-damage p.other within, p.four);
          place = p.place;
          hurt = same-places n inside p.place ∙ p.hurt;
          unhurt = same-places p.other within p.place ∙ p.unhurt;
        })

  -- a group that is used as written is among the groups as read
  listed-read : (g h : Group) → g ∈ groups w.rows w.columns row_table column_table → as_read line_layer g ≡ h → h ∈ gs
  unfolding gs used_groups
  listed-read g h i e =
      subst (λ (x : Group). x ∈ gs) e (in_map (as_read line_layer) (groups w.rows w.columns row_table column_table) g i)

  module _ (n : ℕ) (later : List ℕ) (inside : n < count w) (insides : (m : ℕ) → m ∈ later → m < count w) where
    row-turn : row_damage w r (n / w.columns) ≤ 1 → Turn w r (λ m. m / w.columns) n later
        → Scheme.Alone ws rs gs n later ⊎ Scheme.Paired ws rs gs n later
    unfolding r
    row-turn few =
        turn n later inside insides (λ m. m / w.columns) _
        (listed-read _ _ (row_listed w.rows w.columns some row_table column_table _ below) (counts promises rows-damaged _ below few))
        (in_row w.rows w.columns some n) (λ m i. row_number w.rows w.columns some _ m i)
        (λ m h e. subst (λ (k : ℕ). m ∈ row w.columns k) e (in_row w.rows w.columns some m))
      where
        below : n / w.columns < w.rows
        below = row_below w.rows w.columns some n inside

    column-turn : column_damage w r (n % w.columns) ≤ 1 → Turn w r (λ m. m % w.columns) n later
        → Scheme.Alone ws rs gs n later ⊎ Scheme.Paired ws rs gs n later
    unfolding r
    column-turn few =
        turn n later inside insides (λ m. m % w.columns) _
        (listed-read _ _ (column-listed w.rows w.columns some row_table column_table _ below)
        (counts promises columns-damaged _ below few))
        (in-column w.rows w.columns some n inside) (λ m i. column-number w.rows w.columns some _ m below i)
        (λ m h e. subst (λ (k : ℕ). m ∈ column w.rows w.columns k) e (in-column w.rows w.columns some m h))
      where
        below : n % w.columns < w.columns
        below = column-below w.rows w.columns some n

    either : ((row_damage w r (n / w.columns) ≤ 1) × Turn w r (λ m. m / w.columns) n later)
        ⊎ ((column_damage w r (n % w.columns) ≤ 1) × Turn w r (λ m. m % w.columns) n later)
        → Scheme.Alone ws rs gs n later ⊎ Scheme.Paired ws rs gs n later
    either (inl t) = row-turn t.0 t.1
    either (inr t) = column-turn t.0 t.1

  turns : (order : List ℕ) → Distinct order → ((m : ℕ) → m ∈ order → m < count w) → Turns w r order → Scheme.Turns ws rs gs order
  turns [] d h t = tt
  turns (n ∷ later) d h t =
      (d.0, either n later (h n (inl refl)) (λ m i. h m (inr i)) t.0, turns later d.1 (λ m i. h m (inr i)) t.1)

  -- damage as demand 3 words it is damage that the scheme mends
  pub mendable : (o : Order w (received w lines row_table column_table) (Turns w (received w lines row_table column_table)))
      → Scheme.Mendable (words_of w) (lines_in (count w) lines) line_layer (groups_of (received w lines row_table column_table)) o.order
  unfolding gs ws rs r
  mendable o =
      record {
        bounds = bounded;
        each = λ n h e. o.each n (within n h) (omega (arith, same-damage n (within n h)));
        no_other = λ n i.
            let inside : n < count w = (o.no_other n i).0 in
            (omega (arith, length-lines_in (count w) w.lines), omega (arith, same-damage n inside, (o.no_other n i).1));
        turns = turns o.order o.once (λ m i. (o.no_other m i).0) o.turns;
      }
