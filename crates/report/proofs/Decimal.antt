-- Decimal digits: the definition without its bound on digits.
use mathlib.Core.Path.{◌≡◌, refl, sym, ap, ◌∙◌}
use mathlib.Core.Bool.{Bool, true, false}
use mathlib.Core.List.{List, [], ◌∷◌, ◌++◌}
use Prim.Native.Nat.{ℕ, zero, suc, ◌/◌, ◌%◌, ◌≤◌, ◌<◌}
use native.Mathlib.Omega.{arith}
use borrow.Author.Tests.{lt-ltb, le-ltb, ltb-false}
use lib.Dec.{ltb}
use Rattle.report.specs.Report.{digit, decimal_up_to, decimal}

-- a number below ten has one digit, whatever the bound
up-to-small : (k n : ℕ) → n < 10 → decimal_up_to k n ≡ digit n ∷ []
up-to-small zero n h = refl
up-to-small (suc k) n h = rw (lt-ltb n 10 h)

up-to-more : (k n : ℕ) → 10 ≤ n → decimal_up_to (suc k) n ≡ decimal_up_to k (n / 10) ++ (digit (n % 10) ∷ [])
up-to-more k n h = rw (le-ltb n 10 h)

-- any bound that is large enough will do
enough : (k m n : ℕ) → n ≤ k → n ≤ m → decimal_up_to k n ≡ decimal_up_to m n
enough zero m n h i = sym (up-to-small m n (omega arith))
enough (suc k) zero n h i = up-to-small (suc k) n (omega arith)
enough (suc k) (suc m) n h i = go (ltb n 10) refl (λ l. enough k m (n / 10) (omega arith) (omega arith))
  where
    go : (b : Bool) → ltb n 10 ≡ b → (10 ≤ n → decimal_up_to k (n / 10) ≡ decimal_up_to m (n / 10))
        → decimal_up_to (suc k) n ≡ decimal_up_to (suc m) n
    go true e higher = rw e
    go false e higher =
        let more = ltb-false n 10 e in
        up-to-more k n more
        ∙ ap (λ (l : List ℕ). l ++ (digit (n % 10) ∷ [])) (higher more)
        ∙ sym (up-to-more m n more)

pub decimal-small : (n : ℕ) → n < 10 → decimal n ≡ digit n ∷ []
unfolding decimal
decimal-small n h = up-to-small n n h

pub decimal-more : (n : ℕ) → 10 ≤ n → decimal n ≡ decimal (n / 10) ++ (digit (n % 10) ∷ [])
unfolding decimal
decimal-more zero h = let z : ⊥ = omega arith in absurd z
decimal-more (suc n) h =
    up-to-more n (suc n) h
    ∙ ap (λ (l : List ℕ). l ++ (digit (suc n % 10) ∷ [])) (enough n (suc n / 10) (suc n / 10) (omega arith) (omega arith))
