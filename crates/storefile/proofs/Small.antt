-- Rows and columns of 2 to 512, and where the bodies of such a store stand.
use mathlib.Core.Path.{◌≡◌, refl, sym}
use mathlib.Core.Bool.{Bool, true, false}
use Prim.Native.Nat.{ℕ, ◌*◌, ◌≤◌}
use native.Mathlib.Nat.{mul-le-mul}
use native.Mathlib.Omega.{arith}
use Rattle.linecode.specs.Places.{line_bytes}
use Rattle.rectangle.specs.Answers.{number_of}
use Rattle.rectangle.specs.Refusals.{unless, sides_fit}
use Rattle.rectangle.specs.declared.answers.Refusal.{Refusal}
use Rattle.rectangle.proofs.Numbers.{number-not-zero}
use Rattle.rectangle.proofs.Tests.{passed}
use Rattle.storefile.specs.Header.{header_bytes, lines_part, row_table_part, column_table_part, file_length}

-- no store has more than 512 × 512 lines
pub few_lines : (rows columns : ℕ) → rows ≤ 512 → columns ≤ 512 → rows * columns ≤ 262144
few_lines rows columns h k = mul-le-mul h k

-- nor a file more bytes than this
pub file_small : (rows columns : ℕ) → rows ≤ 512 → columns ≤ 512 → file_length rows columns ≤ 20000000
unfolding file_length column_table_part row_table_part lines_part header_bytes line_bytes
file_small rows columns h k = let lines = few_lines rows columns h k in omega arith

-- what testing them tells
pub sides_given : (rows columns : ℕ) → 0 ≡ unless (sides_fit rows columns) 2 0 → sides_fit rows columns ≡ true
sides_given rows columns e = (passed (sides_fit rows columns) 2 0 (λ z. omega arith) (sym e)).0

pub sides_refused : (rows columns : ℕ) (refusal : Refusal) → number_of refusal ≡ unless (sides_fit rows columns) 2 0
    → (sides_fit rows columns ≡ false) × (number_of refusal ≡ 2)
sides_refused rows columns refusal e = go (sides_fit rows columns) e
  where
    go : (b : Bool) → number_of refusal ≡ unless b 2 0 → (b ≡ false) × (number_of refusal ≡ 2)
    go true f = absurd (number-not-zero refusal f)
    go false f = (refl, f)
