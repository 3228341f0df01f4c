-- The roots of the generator: a is a root of its polynomial and has order 1023, and its powers 0 to 6 are roots of the generator.
-- Each is one computed test.
use mathlib.Core.Path.{◌≡◌, sym, ap, ◌∙◌, subst}
use mathlib.Core.Bool.{Bool, true, false, not, ◌&&◌}
use mathlib.Core.List.{reverse}
use Prim.Native.Nat.{ℕ, zero, suc, ◌-◌, ◌≤◌, ◌<◌}
use native.Mathlib.Nat.{not-suc-le-zero, le_of_suc-le-suc}
use native.Mathlib.Decide.{dec_le}
use native.Mathlib.Omega.{arith}
use lib.Dec.{T}
use lib.ListN.{take}
use Rattle.gf2.specs.Word.{Word, zeros, same}
use Rattle.gf2.specs.Polynomial.{divide_step, divide}
use Rattle.gf2.specs.Generator.{generator_polynomial}
use Rattle.gf2.specs.Roots.{field_polynomial, root_power, value_at, RootAt, HasOrder}
use Rattle.gf2.specs.Roots.{RootOfItsPolynomial, OrderIs1023, RootsOfTheGenerator}
use Rattle.gf2.proofs.Same.{same_refl, same-equal}
use Rattle.gf2.proofs.Listing.{and_left, and_right}

-- ---- roots
abbrev root_test : Word → ℕ → Bool
root_test p j = same (value_at j 0 p) (zeros 10)

pub root-of-its-polynomial : RootOfItsPolynomial
unfolding root_power field_polynomial
root-of-its-polynomial = same-equal (value_at 1 0 field_polynomial) (zeros 10) tt

abbrev roots_test : Word → ℕ → Bool
roots_test p zero = root_test p zero
roots_test p (suc n) = root_test p (suc n) && roots_test p n

roots-to : (p : Word) (n : ℕ) → T (roots_test p n) → (j : ℕ) → j ≤ n → RootAt j p
roots-to p zero t j h =
    let e : j ≡ zero = omega arith in
    subst (λ (i : ℕ). RootAt i p) (sym e) (same-equal (value_at zero 0 p) (zeros 10) t)
roots-to p (suc n) t j h = go (dec_le j n) (roots-to p n (and_right (root_test p (suc n)) (roots_test p n) t) j)
  where
    go : Dec (j ≤ n) → (j ≤ n → RootAt j p) → RootAt j p
    go (yes l) below = below l
    go (no l) below =
        let e : j ≡ suc n = omega arith in
        subst (λ (i : ℕ). RootAt i p) (sym e)
        (same-equal (value_at (suc n) 0 p) (zeros 10) (and_left (root_test p (suc n)) (roots_test p n) t))

pub roots-of-the-generator : RootsOfTheGenerator
unfolding root_power generator_polynomial
roots-of-the-generator = roots-to generator_polynomial _ tt

-- ---- the order
lower : Word
lower = reverse (take 10 field_polynomial)

one : Word
one = divide_step lower (zeros 10) true

-- none of k elements, each a times the one before, is 1
abbrev never_one : ℕ → Word → Bool
never_one zero r = true
never_one (suc k) r = not (same r one) && never_one k (divide_step lower r false)

never-one : (k i : ℕ) (r : Word) → T (never_one k r) → i < k → divide lower r (zeros i) ≡ one → ⊥
never-one zero i r t h e = not-suc-le-zero h
never-one (suc k) zero r t h e =
    subst (λ (b : Bool). T (not b)) (ap (λ (x : Word). same x one) e ∙ same_refl one)
    (and_left (not (same r one)) (never_one k (divide_step lower r false)) t)
never-one (suc k) (suc i) r t h e =
    never-one k i (divide_step lower r false) (and_right (not (same r one)) (never_one k (divide_step lower r false)) t)
    (le_of_suc-le-suc h) e

has-order : (n : ℕ) → T (same (root_power n) (root_power 0)) → T (never_one (n - 1) (divide_step lower one false)) → HasOrder n
unfolding root_power lower one
has-order n s t = (same-equal (root_power n) (root_power 0) s, smaller)
  where
    smaller : (k : ℕ) → 0 < k → k < n → root_power k ≡ root_power 0 → ⊥
    smaller zero l h e = not-suc-le-zero l
    smaller (suc k) l h e = never-one (n - 1) k (divide_step lower one false) t (omega arith) e

pub order-is-1023 : OrderIs1023
unfolding root_power field_polynomial lower one
order-is-1023 = has-order _ tt tt
