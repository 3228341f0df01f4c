-- Tests made in turn, until one fails or none is left.
use mathlib.Core.Path.{◌≡◌, sym, ap, ◌∙◌}
use mathlib.Core.Logic.{◌⊎◌, inl, inr}
use mathlib.Core.Bool.{Bool, true, false}
use Prim.Native.Nat.{ℕ, ◌+◌, ◌≤◌, ◌<◌, zero-le}
use native.Mathlib.Nat.{not-suc-le-zero, eq-or-lt_of_le}
use native.Mathlib.Omega.{arith}
use Rattle.linecode.specs.Code.{up_from}
use Rattle.rectangle.specs.Refusals.{every}
use Rattle.rectangle.proofs.Tests.{every-below, fails-below}

-- ---- r of so many have passed
pub record Passed (test : ℕ → Bool) (total r : ℕ) : Type 0 where
  pub few : r ≤ total
  pub before : (k : ℕ) → k < r → test k ≡ true

pub passed_none : (test : ℕ → Bool) (total : ℕ) → Passed test total 0
passed_none test total = record { few = zero-le; before = λ k h. absurd (not-suc-le-zero h) }

pub passed-next : (test : ℕ → Bool) (total r : ℕ) → Passed test total r → r < total → test r ≡ true → Passed test total (r + 1)
passed-next test total r p h e = record { few = omega arith; before = λ k less. go k (eq-or-lt_of_le (at_most k less)) }
  where
    at_most : (k : ℕ) → k < r + 1 → k ≤ r
    at_most k less = omega arith

    go : (k : ℕ) → (k ≡ r) ⊎ (k < r) → test k ≡ true
    go k (inl same) = ap test same ∙ e
    go k (inr less) = p.before k less

-- the next one fails, or none is left
module _ (test : ℕ → Bool) (total r : ℕ) (p : Passed test total r) where
  pub not-every : r < total → test r ≡ false → false ≡ every test (up_from 0 total)
  not-every h e = sym (fails-below test total r h e)

  pub every_one : total ≤ r → true ≡ every test (up_from 0 total)
  every_one h = sym (every-below test total (λ k less. p.before k (omega arith)))
