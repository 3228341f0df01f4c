-- What the entry points refuse: the tests of the sizes, which they share.
use mathlib.Core.Path.{◌≡◌, sym, ◌∙◌}
use mathlib.Core.Bool.{true, ◌&&◌, and-eq-true_iff}
use mathlib.Core.List.{List, [], ◌∷◌}
use Prim.Native.Nat.{ℕ, ◌*◌, ◌≤◌}
use native.Mathlib.Omega.{arith}
use borrow.Author.Tests.{eqb-true, eq-eqb}
use lib.Dec.{eqb}
use lib.ListN.{length}
use Rattle.linecode.specs.Places.{line_bytes}
use Rattle.rectangle.specs.Refusals.{unless, sides_fit, holds, tables_fit}
use Rattle.rectangle.proofs.Tests.{passed, refused-there}

module _ (rows columns : ℕ) (lines row_table column_table : List ℕ) where
  -- the tests of the sizes, as the code makes them on the lengths
  abbrev pub size_tests : ℕ
  size_tests =
      unless (sides_fit rows columns) 2
      (unless (eqb (length lines) (rows * columns * 70)) 5
      (unless (eqb (length row_table) (rows * 70) && eqb (length column_table) (columns * 70)) 6 0))

  -- and as the definitions have them, with what is tested next
  abbrev pub sizes_then : ℕ → ℕ
  sizes_then next =
      unless (sides_fit rows columns) 2
      (unless (holds (rows * columns) lines) 5
      (unless (tables_fit rows columns row_table column_table) 6 next))

  pub sizes-refused : (r next : ℕ) → r ≡ size_tests → (r ≡ 0 → ⊥) → sizes_then next ≡ r
  unfolding holds tables_fit line_bytes
  sizes-refused r next e d =
      refused-there
      ((sides_fit rows columns, 2)
      ∷ (eqb (length lines) (rows * columns * 70), 5)
      ∷ (eqb (length row_table) (rows * 70) && eqb (length column_table) (columns * 70), 6)
      ∷ []) r next e d

  pub record SizesPass : Type 0 where
    pub sides : sides_fit rows columns ≡ true
    pub line_bytes : length lines ≡ rows * columns * 70
    pub row_bytes : length row_table ≡ rows * 70
    pub column_bytes : length column_table ≡ columns * 70

  -- an answer other than their refusals comes past them
  pub sizes-past : (answer next : ℕ) → ((k : ℕ) → 2 ≤ k → k ≤ 6 → k ≡ answer → ⊥) → sizes_then next ≡ answer
      → SizesPass × (next ≡ answer)
  unfolding holds tables_fit line_bytes
  sizes-past answer next other e =
      let two = passed (sides_fit rows columns) 2 _ (other 2 (omega arith) (omega arith)) e in
      let five = passed (holds (rows * columns) lines) 5 _ (other 5 (omega arith) (omega arith)) two.1 in
      let six = passed (tables_fit rows columns row_table column_table) 6 _ (other 6 (omega arith) (omega arith)) five.1 in
      let both = (and-eq-true_iff (holds rows row_table) (holds columns column_table)).0 six.0 in (
        record {
          sides = two.0;
          line_bytes = eqb-true _ _ five.0;
          row_bytes = eqb-true _ _ both.0;
          column_bytes = eqb-true _ _ both.1;
        },
        six.1,
      )

  pub sizes-then : (next : ℕ) → sizes_then next ≡ 0 → SizesPass × (next ≡ 0)
  sizes-then next e = sizes-past 0 next (λ k l h z. omega arith) e

  pub sizes-passed : (r : ℕ) → r ≡ size_tests → r ≡ 0 → SizesPass
  unfolding holds tables_fit line_bytes
  sizes-passed r e z = (sizes-then 0 (sym e ∙ z)).0

  pub sizes-next : SizesPass → (next : ℕ) → sizes_then next ≡ next
  unfolding holds tables_fit line_bytes
  sizes-next p next = rw (p.sides, eq-eqb _ _ p.line_bytes, eq-eqb _ _ p.row_bytes, eq-eqb _ _ p.column_bytes)
