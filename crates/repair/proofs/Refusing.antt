-- What repair refuses.
use mathlib.Core.Path.{◌≡◌, sym}
use mathlib.Core.Bool.{◌&&◌, and-eq-true_iff}
use mathlib.Core.List.{List}
use Prim.Native.Nat.{ℕ, ◌*◌}
use native.Mathlib.Omega.{arith}
use borrow.Author.Tests.{eqb-true}
use lib.Dec.{eqb}
use lib.ListN.{length}
use Rattle.linecode.specs.Places.{line_bytes}
use Rattle.rectangle.specs.Refusals.{unless, holds, tables_fit, repair_refusal}
use Rattle.rectangle.proofs.Groups.{sides}
use Rattle.rectangle.proofs.Refusing.{size_tests, sizes-refused, sizes-then, SizesPass}
use Rattle.rectangle.proofs.Tests.{passed}
use Rattle.groups.specs.Lent.{Rectangular}

module _ (rows columns : ℕ) (lines rt ct out marks ro co : List ℕ) where
  -- the tests after the sizes
  abbrev last_tests : ℕ
  last_tests = unless (holds (rows * columns) out && eqb (length marks) (rows * columns)) 7 0

  abbrev repair_tests : ℕ
  repair_tests = unless (tables_fit rows columns ro co) 6 last_tests

  pub refused-sizes : (r : ℕ) → r ≡ size_tests rows columns lines rt ct → (r ≡ 0 → ⊥) → r ≡ repair_refusal rows columns lines rt ct out marks ro co
  unfolding repair_refusal
  refused-sizes r e d = sym (sizes-refused rows columns lines rt ct r repair_tests e d)

  -- not refused: the buffers have the lengths that they need
  pub record RepairPass : Type 0 where
    pub sizes : SizesPass rows columns lines rt ct
    pub row_bytes : length ro ≡ rows * 70
    pub column_bytes : length co ≡ columns * 70
    pub rect : Rectangular rows columns out marks

  pub repair-passes : repair_refusal rows columns lines rt ct out marks ro co ≡ 0 → RepairPass
  unfolding repair_refusal holds tables_fit line_bytes
  repair-passes e =
      let q = sizes-then rows columns lines rt ct repair_tests e in
      let t = passed (tables_fit rows columns ro co) 6 _ (λ y. omega arith) q.1 in
      let r = passed (holds (rows * columns) out && eqb (length marks) (rows * columns)) 7 _ (λ y. omega arith) t.1 in
      let a = (and-eq-true_iff (holds rows ro) (holds columns co)).0 t.0 in
      let b = (and-eq-true_iff (holds (rows * columns) out) (eqb (length marks) (rows * columns))).0 r.0 in
      let s = sides rows columns q.0.sides in
      record {
        sizes = q.0;
        row_bytes = eqb-true (length ro) (rows * 70) a.0;
        column_bytes = eqb-true (length co) (columns * 70) a.1;
        rect =
            record {
              rows_low = s.rows_low;
              rows_high = s.rows_high;
              columns_low = s.columns_low;
              columns_high = s.columns_high;
              out_bytes = eqb-true (length out) (rows * columns * 70) b.0;
              mark_bytes = eqb-true (length marks) (rows * columns) b.1;
            };
      }
