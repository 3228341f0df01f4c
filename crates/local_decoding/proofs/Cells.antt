-- One line of repair: what it is after the first reading, after its row's visit and at the end, and how repair hands it over.
use mathlib.Core.Path.{◌≡◌, refl, sym, ap, ◌∙◌}
use mathlib.Core.Bool.{Bool, true, false}
use mathlib.Core.List.{List, ◌∷◌, ◌++◌, map, map-append, map-map, append_assoc}
use Prim.Native.Nat.{ℕ, suc, ◌+◌, ◌-◌, ◌*◌, ◌/◌, ◌<◌}
use native.Mathlib.Nat.{zero-add}
use native.Mathlib.Omega.{arith}
use lib.ListN.{length, get_or}
use Rattle.linecode.specs.Places.{line_of}
use Rattle.linecode.specs.Code.{up_from}
use Rattle.scheme.specs.Layer.{Cell, read_line}
use Rattle.scheme.specs.Visit.{Group, State, cell_at, visit}
use Rattle.scheme.specs.Repair.{read_all, repair}
use Rattle.scheme.specs.Parity.{unusable, as_read}
use Rattle.scheme.specs.Demand3.{◌∈◌}
use Rattle.scheme.specs.OneLine.{AlikeIn, SharesNone}
use Rattle.scheme.proofs.Lists.{map-from}
use Rattle.scheme.proofs.Stays.{never_altered, read_all-length, repair-length}
use Rattle.scheme.proofs.Parity.{without-lines, unusable-idle}
use Rattle.scheme.proofs.Used.{usable}
use Rattle.scheme.proofs.OneLine.{visit-local, stops-early}
use Rattle.rectangle.specs.Store.{line_layer, bytes_at, lines_in, alone_at, row, row_group, row_groups, column_groups, groups}
use Rattle.rectangle.specs.Refusals.{sides_fit, repair_refusal}
use Rattle.rectangle.specs.Repair.{used_groups, repaired_by, repaired, Buffers, handed_over}
use Rattle.rectangle.proofs.Alone.{first-at}
use Rattle.rectangle.proofs.Buffer.{length-lines_in}
use Rattle.rectangle.proofs.Groups.{sides, in_row, row_number, row_inside, row_below}
use Rattle.rectangle.proofs.Members.{up_from-bounds, up_from-split}
use Rattle.rectangle.proofs.Runs.{repair-runs}
use Rattle.demands.proofs.Handed.{line-handed, mark-handed}
use Rattle.local_decoding.specs.Lookup.{after_row, repair_in}

-- the lines of a group as read are among its lines
read-members : (g : Group) (n : ℕ) → n ∈ (as_read line_layer g).members → n ∈ g.members
read-members g n = go (unusable line_layer g) refl
  where
    go : (b : Bool) → unusable line_layer g ≡ b → n ∈ (as_read line_layer g).members → n ∈ g.members
    go true e i = absurd (rw (without-lines line_layer g e) at i)
    go false e i = rw (usable line_layer g e) at i

-- an image of numbers counted upward, split at one of them
split_at : {A : Type 0} (f : ℕ → A) (r k : ℕ) → r < k
    → map f (up_from 0 k) ≡ map f (up_from 0 r) ++ f r ∷ map f (up_from (suc r) (k - suc r))
split_at f r k h =
    let e : k ≡ r + suc (k - suc r) = omega arith in
    ap (λ (j : ℕ). map f (up_from 0 j)) e
    ∙ ap (map f) (up_from-split 0 r (suc (k - suc r)))
    ∙ map-append f (up_from 0 r) (up_from (0 + r) (suc (k - suc r)))
    ∙ ap (λ (j : ℕ). map f (up_from 0 r) ++ map f (up_from j (suc (k - suc r)))) (zero-add r)

module _ (rows columns : ℕ) (lines row_table column_table : List ℕ) (fit : sides_fit rows columns ≡ true) (n : ℕ)
    (inside : n < rows * columns) where
  first : State
  first = read_all (read_line line_layer) 0 (lines_in (rows * columns) lines)

  row_of : ℕ → Group
  row_of r = as_read line_layer (row_group columns row_table r)

  before : List Group
  before = map row_of (up_from 0 (n / columns))

  after : List Group
  after =
      map row_of (up_from (suc (n / columns)) (rows - suc (n / columns)))
      ++ map (as_read line_layer) (column_groups rows columns column_table)

  some : 0 < columns
  some = omega (arith, (sides rows columns fit).columns_low)

  pub alone-is : cell_at (read_all (read_line line_layer) 0 (lines_in (rows * columns) lines)) n ≡ alone_at lines n
  alone-is = first-at (rows * columns) lines n inside

  pub alone-final : ((alone_at lines n).mark ≡ 4 → ⊥)
      → cell_at (repaired rows columns lines row_table column_table).cells n ≡ alone_at lines n
  unfolding repaired_by repair
  alone-final d = stops-early.alone (read_line line_layer) _ _ n (λ e. d (rw alone-is at e)) ∙ alone-is

  -- its row's visit leaves it so
  pub alone-visited : ((alone_at lines n).mark ≡ 4 → ⊥) → cell_at (after_row rows columns lines row_table (n / columns)) n ≡ alone_at lines n
  unfolding after_row
  alone-visited d =
      (never_altered.by_visit (read_line line_layer) _ _).accepted n (λ e. d (rw alone-is at e)) ∙ alone-is

  -- ---- its row among the groups as used
  used-split : used_groups line_layer rows columns row_table column_table ≡ before ++ row_of (n / columns) ∷ after
  unfolding used_groups groups before after row_of
  used-split =
      map-append (as_read line_layer) (row_groups rows columns row_table) (column_groups rows columns column_table)
      ∙ ap (λ (l : List Group). l ++ map (as_read line_layer) (column_groups rows columns column_table))
      (map-map (as_read line_layer) (row_group columns row_table) (up_from 0 rows)
      ∙ split_at row_of (n / columns) rows (row_below rows columns some n inside))
      ∙ append_assoc before (row_of (n / columns) ∷ map row_of (up_from (suc (n / columns)) (rows - suc (n / columns)))) _

  -- rows share no line
  shares-none : SharesNone (row_of (n / columns)) before
  unfolding before row_of
  shares-none h i m j k =
      let q = map-from row_of (up_from 0 (n / columns)) h i in
      let other : m ∈ (row_of q.0).members = rw q.2 at k in
      omega (
        arith,
        (up_from-bounds 0 (n / columns) q.0 q.1).1,
        row_number rows columns some (n / columns) m (read-members _ m j),
        row_number rows columns some q.0 m (read-members _ m other),
      )

  -- an unusable row's visit does nothing
  idle-row : unusable line_layer (row_group columns row_table (n / columns)) ≡ true
      → cell_at (after_row rows columns lines row_table (n / columns)) n ≡ alone_at lines n
  unfolding after_row
  idle-row e =
      ap (λ (s : State). cell_at s n) (unusable-idle.by_visit line_layer _ e (read_line line_layer) _) ∙ alone-is

  -- a usable one holds the line
  in-used : unusable line_layer (row_group columns row_table (n / columns)) ≡ false → n ∈ (row_of (n / columns)).members
  unfolding row_of
  in-used e = rw (usable line_layer (row_group columns row_table (n / columns)) e) (in_row rows columns some n)

  used-final : unusable line_layer (row_group columns row_table (n / columns)) ≡ false
      → ((cell_at (after_row rows columns lines row_table (n / columns)) n).mark ≡ 4 → ⊥)
      → cell_at (repaired rows columns lines row_table column_table).cells n ≡ cell_at (after_row rows columns lines row_table (n / columns)) n
  unfolding repaired_by repair after_row first row_of
  used-final e d =
      rw used-split
      (stops-early.by_visit (read_line line_layer) before (row_of (n / columns)) after first n shares-none (in-used e) d)

  pub row-final : ((cell_at (after_row rows columns lines row_table (n / columns)) n).mark ≡ 4 → ⊥)
      → cell_at (repaired rows columns lines row_table column_table).cells n ≡ cell_at (after_row rows columns lines row_table (n / columns)) n
  row-final d = go (unusable line_layer (row_group columns row_table (n / columns))) refl
    where
      go : (b : Bool) → unusable line_layer (row_group columns row_table (n / columns)) ≡ b
          → cell_at (repaired rows columns lines row_table column_table).cells n
          ≡ cell_at (after_row rows columns lines row_table (n / columns)) n
      go true e = alone-final (λ f. d (ap (λ (c : Cell). c.mark) (idle-row e) ∙ f)) ∙ sym (idle-row e)
      go false e = used-final e d

  -- the row's visit from a store that has the row's lines as read, whatever else it holds
  module _ (s : State) (count : length s ≡ rows * columns)
      (has : (m : ℕ) → m ∈ row columns (n / columns) → cell_at s m ≡ alone_at lines m) where
    alike : AlikeIn (row_of (n / columns)) s first
    unfolding first row_of
    alike =
        record {
          count =
              count
              ∙ sym (read_all-length (read_line line_layer) 0 (lines_in (rows * columns) lines) ∙ length-lines_in (rows * columns) lines);
          cells = λ m i.
              let member = read-members (row_group columns row_table (n / columns)) m i in
              let below = row_inside rows columns some (n / columns) m (row_below rows columns some n inside) member in
              has m member ∙ sym (first-at (rows * columns) lines m below);
        }

    pub row-visited : cell_at (visit (read_line line_layer) (as_read line_layer (row_group columns row_table (n / columns))) s) n
        ≡ cell_at (after_row rows columns lines row_table (n / columns)) n
    unfolding after_row first row_of
    row-visited = go (unusable line_layer (row_group columns row_table (n / columns))) refl
      where
        go : (b : Bool) → unusable line_layer (row_group columns row_table (n / columns)) ≡ b
            → cell_at (visit (read_line line_layer) (row_of (n / columns)) s) n ≡ cell_at (after_row rows columns lines row_table (n / columns)) n
        go true e =
            ap (λ (t : State). cell_at t n) (unusable-idle.by_visit line_layer _ e (read_line line_layer) s)
            ∙ has n (in_row rows columns some n)
            ∙ sym (idle-row e)
        go false e = (visit-local.own (read_line line_layer) (row_of (n / columns)) s first alike).cells n (in-used e)

-- ---- line n as repair hands it over
module _ (rows columns : ℕ) (lines row_table column_table : List ℕ) (work : Buffers)
    (passes : repair_refusal rows columns lines row_table column_table work.lines work.marks work.row_table work.column_table ≡ 0)
    (n : ℕ) (inside : n < rows * columns) where
  end : State
  end = (repaired rows columns lines row_table column_table).cells

  runs : repair_in rows columns lines row_table column_table work
      ≡ handed_over line_layer rows columns row_table column_table (repaired rows columns lines row_table column_table)
  runs =
      repair-runs rows columns lines row_table column_table line_layer work.lines work.marks work.row_table work.column_table 0
      passes refl

  within : n < length end
  unfolding end repaired_by
  within =
      omega (
        arith,
        repair-length (read_line line_layer) (used_groups line_layer rows columns row_table column_table) (lines_in (rows * columns) lines),
        length-lines_in (rows * columns) lines,
      )

  pub repaired-line : bytes_at (repair_in rows columns lines row_table column_table work).lines n
      ≡ line_of (cell_at (repaired rows columns lines row_table column_table).cells n).line
  unfolding end handed_over
  repaired-line = rw runs (line-handed end n within)

  -- its mark, whatever stands past the end
  pub repaired-mark-or : (d : ℕ) → get_or (repair_in rows columns lines row_table column_table work).marks n d
      ≡ (cell_at (repaired rows columns lines row_table column_table).cells n).mark
  unfolding end handed_over
  repaired-mark-or d = rw runs (mark-handed end n within d)

  pub repaired-mark : get_or (repair_in rows columns lines row_table column_table work).marks n 0
      ≡ (cell_at (repaired rows columns lines row_table column_table).cells n).mark
  repaired-mark = repaired-mark-or 0
