-- What making tables refuses, past the tests of the sizes, and what it leaves.
use mathlib.Core.Path.{◌≡◌, ap, ap₂, ◌∙◌}
use mathlib.Core.Bool.{Bool, true, false}
use mathlib.Core.List.{List}
use Prim.Native.Nat.{ℕ, ◌*◌}
use borrow.Author.Tests.{ne_eqb}
use Rattle.linecode.specs.Code.{up_from}
use Rattle.rectangle.specs.Refusals.{unless, every, accepted_at, tables_refusal}
use Rattle.rectangle.specs.Tables.{row_table_of, column_table_of, TablesMade, make_tables}
use Rattle.rectangle.proofs.Refusing.{size_tests, sizes-refused, sizes-next, SizesPass}

module _ (rows columns : ℕ) (lines row_table column_table : List ℕ) where
  -- a refusal writes nothing
  pub tables-refused : (r : ℕ) → tables_refusal rows columns lines row_table column_table ≡ r → (r ≡ 0 → ⊥)
      → ◌≡◌ {A = TablesMade} (record { answer = r; row_table = row_table; column_table = column_table })
      (make_tables rows columns lines row_table column_table)
  unfolding make_tables
  tables-refused r e d = rw (e, ne_eqb r 0 d)

  pub tables-sizes : (r : ℕ) → r ≡ size_tests rows columns lines row_table column_table → (r ≡ 0 → ⊥)
      → tables_refusal rows columns lines row_table column_table ≡ r
  unfolding tables_refusal
  tables-sizes r e d = sizes-refused rows columns lines row_table column_table r _ e d

  -- a faulty line
  pub tables-faulty : SizesPass rows columns lines row_table column_table → every (accepted_at lines) (up_from 0 (rows * columns)) ≡ false
      → tables_refusal rows columns lines row_table column_table ≡ 10
  unfolding tables_refusal
  tables-faulty p e = sizes-next rows columns lines row_table column_table p _ ∙ ap (λ (b : Bool). unless b 10 0) e

  -- nothing refused: both tables as they are made
  pub tables-made : (new_rows new_columns : List ℕ) → SizesPass rows columns lines row_table column_table
      → every (accepted_at lines) (up_from 0 (rows * columns)) ≡ true
      → new_rows ≡ row_table_of rows columns lines → new_columns ≡ column_table_of rows columns lines
      → ◌≡◌ {A = TablesMade} (record { answer = 0; row_table = new_rows; column_table = new_columns })
      (make_tables rows columns lines row_table column_table)
  unfolding make_tables tables_refusal
  tables-made new_rows new_columns p e f g =
      ap₂ (λ (a b : List ℕ). record { answer = 0; row_table = a; column_table = b }) f g
      ∙ rw (sizes-next rows columns lines row_table column_table p _ ∙ ap (λ (b : Bool). unless b 10 0) e)
