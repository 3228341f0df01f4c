-- What a read of one line refuses, and what it has to work with where it refuses nothing.
use mathlib.Core.Path.{◌≡◌, refl, sym}
use mathlib.Core.Bool.{Bool, true, false}
use mathlib.Core.List.{List}
use Prim.Native.Nat.{ℕ, ◌*◌, ◌<◌}
use native.Mathlib.Omega.{arith}
use borrow.Author.Tests.{eq-eqb, ne_eqb, eqb-true, eqb-false, lt-ltb, ltb-true}
use lib.Dec.{eqb, ltb}
use lib.ListN.{length}
use Rattle.linecode.specs.Places.{line_bytes}
use Rattle.rectangle.specs.Refusals.{unless, repair_refusal}
use Rattle.rectangle.specs.Repair.{Buffers}
use Rattle.rectangle.proofs.Tests.{passed}
use Rattle.local_decoding.specs.Lookup.{one_refusal, OneRead, read_one}

module _ (rows columns : ℕ) (lines row_table column_table : List ℕ) (n : ℕ) (work : Buffers) (line : List ℕ) where
  -- ---- no test fails
  module _ (r : ℕ)
      (is : r ≡ repair_refusal rows columns lines row_table column_table work.lines work.marks work.row_table
      work.column_table) where
    module _ (none : r ≡ 0) where
      pub nothing-refused : length line ≡ 70 → n < rows * columns → 0 ≡ one_refusal rows columns lines row_table column_table n work line
      unfolding one_refusal line_bytes
      nothing-refused e h = rw (sym is, none, eq-eqb (length line) 70 e, lt-ltb n (rows * columns) h)

  -- ---- nothing is refused
  pub record OnePass : Type 0 where
    pub of_repair : repair_refusal rows columns lines row_table column_table work.lines work.marks work.row_table
        work.column_table ≡ 0
    pub line_bytes : length line ≡ 70
    pub inside : n < rows * columns

  pub one_passes : one_refusal rows columns lines row_table column_table n work line ≡ 0 → OnePass
  unfolding one_refusal line_bytes
  one_passes e = go (eqb of_repair 0) refl e
    where
      of_repair : ℕ
      of_repair = repair_refusal rows columns lines row_table column_table work.lines work.marks work.row_table work.column_table

      go : (b : Bool) → eqb of_repair 0 ≡ b
          → unless b of_repair (unless (eqb (length line) 70) 7 (unless (ltb n (rows * columns)) 8 0)) ≡ 0 → OnePass
      go false p q = absurd (eqb-false of_repair 0 p q)
      go true p q =
          let s = passed (eqb (length line) 70) 7 _ (λ y. omega arith) q in
          let u = passed (ltb n (rows * columns)) 8 _ (λ y. omega arith) s.1 in
          record {
            of_repair = eqb-true of_repair 0 p;
            line_bytes = eqb-true (length line) 70 s.0;
            inside = ltb-true n (rows * columns) u.0;
          }

-- a refusal writes nothing
pub one-refused : (rows columns : ℕ) (lines row_table column_table : List ℕ) (n : ℕ) (work : Buffers) (line : List ℕ) (answer : ℕ)
    → answer ≡ one_refusal rows columns lines row_table column_table n work line → (answer ≡ 0 → ⊥)
    → ◌≡◌ {A = OneRead} (record { answer = answer; step = 0; mark = 0; line = line; work = work })
    (read_one rows columns lines row_table column_table n work line)
unfolding read_one
one-refused rows columns lines row_table column_table n work line answer e d = rw (sym e, ne_eqb answer 0 d)
