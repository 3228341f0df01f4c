-- Whatever was damaged as demand 3 asked before request Q-3, both tables undamaged, is damaged so as it asks now.
use mathlib.Core.Path.{◌≡◌, refl, sym, ap, ◌∙◌}
use mathlib.Core.Logic.{inl, inr}
use mathlib.Core.List.{List, [], ◌∷◌}
use Prim.Native.Nat.{ℕ, zero, suc, ◌*◌, ◌/◌, ◌%◌, ◌≤◌, ◌<◌}
use native.Mathlib.Nat.{mul-zero, not-suc-le-zero}
use native.Mathlib.Omega.{arith}
use Rattle.gf2.specs.Word.{distance}
use Rattle.gf2.proofs.Weight.{distance_self}
use Rattle.scheme.specs.Demand3.{◌∈◌}
use Rattle.rectangle.specs.Store.{places_at, lines_in}
use Rattle.demands.specs.Demands.{Rectangle, count, row_damage, column_damage, TurnsAmong, Turns}
use Rattle.demands.specs.Cells.{DamagedBefore, BeforeImplies}
use Rattle.rectangle.proofs.Buffer.{lines_in-equal}
use Rattle.rectangle.proofs.Groups.{row_below, column-below}

-- a table whose places all agree has no damaged bit, in either direction
none-damaged : (total others : ℕ) (table received : List ℕ) → others ≡ total → lines_in others received ≡ lines_in total table
    → (k : ℕ) → k < total → distance (places_at table k) (places_at received k) ≡ 0
none-damaged total others table received e same k h =
    ap (distance (places_at table k))
    (lines_in-equal total received table (ap (λ (m : ℕ). lines_in m received) (sym e) ∙ same) k h)
    ∙ distance_self (places_at table k)

some-columns : (rows columns n : ℕ) → n < rows * columns → 0 < columns
some-columns rows zero n h = absurd (not-suc-le-zero (rw (mul-zero rows) at h))
some-columns rows (suc columns) n h = omega arith

none-at-most : (n m : ℕ) → n ≡ 0 → n ≤ m
none-at-most n m e = omega arith

module _ (w r : Rectangle) where
  -- turns in all rows and columns are turns in those that count, where no parity line has a damaged bit
  turns : ((k : ℕ) → k < w.rows → row_damage w r k ≡ 0) → ((k : ℕ) → k < w.columns → column_damage w r k ≡ 0)
      → (order : List ℕ) → ((n : ℕ) → n ∈ order → n < count w) → TurnsAmong w r (λ k. Unit {0}) (λ k. Unit {0}) order
      → Turns w r order
  turns rows columns [] inside t = tt
  turns rows columns (n ∷ later) inside t = (
    elim t.0 [
      | inl u ↦ inl (none-at-most _ _ (rows (n / w.columns) (row_below w.rows w.columns some n h)), u.1)
      | inr u ↦ inr (none-at-most _ _ (columns (n % w.columns) (column-below w.rows w.columns some n)), u.1)
    ],
    turns rows columns later (λ m i. inside m (inr i)) t.1,
  )
    where
      h : n < count w
      h = inside n (inl refl)

      some : 0 < w.columns
      some = some-columns w.rows w.columns n h

  module _ (before : DamagedBefore w r) where
    rows_whole : (k : ℕ) → k < w.rows → row_damage w r k ≡ 0
    rows_whole = none-damaged w.rows r.rows w.row_table r.row_table before.shape.rows before.tables.row_table

    columns-whole : (k : ℕ) → k < w.columns → column_damage w r k ≡ 0
    columns-whole =
        none-damaged w.columns r.columns w.column_table r.column_table before.shape.columns before.tables.column_table

pub before_implies : BeforeImplies
before_implies w r before =
    record {
      bounds = record {
        shape = before.shape;
        five = λ n h. omega (arith, before.five n h);
        row_five = λ k h. omega (arith, rows_whole w r before k h);
        column_five = λ k h. omega (arith, columns-whole w r before k h);
      };
      ordered = record {
        order = before.ordered.order;
        once = before.ordered.once;
        each = before.ordered.each;
        no_other = before.ordered.no_other;
        turns =
            turns w r (rows_whole w r before) (columns-whole w r before) before.ordered.order
            (λ n i. (before.ordered.no_other n i).0) before.ordered.turns;
      };
    }
