-- Weight and distance: parts of words, a place turned over, words that differ in one place.
use mathlib.Core.Path.{◌≡◌, refl, ap, ◌∙◌, subst}
use mathlib.Core.Bool.{Bool, true, false, not}
use mathlib.Core.List.{[], ◌∷◌, ◌++◌}
use mathlib.Core.Logic.{◌⊎◌, inl, inr}
use Prim.Native.Nat.{ℕ, zero, suc, ◌+◌, ◌≤◌, ◌<◌}
use native.Mathlib.Nat.{suc_inj, le_refl, le_of_suc-le-suc, not-suc-le-zero, zero-lt-suc, zero-add, suc-add}
use native.Mathlib.Omega.{arith}
use lib.ListN.{length, take, drop}
use Rattle.gf2.specs.Word.{Word, ◌⊕◌, zeros, weight, distance, flip}
use Rattle.gf2.proofs.Xor.{xor_self, take-xor}

weight-zeros : (n : ℕ) → weight (zeros n) ≡ 0
weight-zeros zero = refl
weight-zeros (suc n) = weight-zeros n

pub distance_self : (x : Word) → distance x x ≡ 0
distance_self x = ap weight (xor_self x) ∙ weight-zeros (length x)

weight-take : (n : ℕ) (x : Word) → weight (take n x) ≤ weight x
weight-take zero x = omega arith
weight-take (suc n) [] = omega arith
weight-take (suc n) (false ∷ x) = weight-take n x
weight-take (suc n) (true ∷ x) = let h = weight-take n x in omega arith

pub distance-take : (n : ℕ) (x y : Word) → distance (take n x) (take n y) ≤ distance x y
distance-take n x y = subst (λ (z : Word). weight z ≤ distance x y) (take-xor n x y) (weight-take n (x ⊕ y))

-- a flip adds at most one damaged place
pub distance-flip : (w x : Word) (p : ℕ) → distance w (flip p x) ≤ suc (distance w x)
distance-flip w [] p = omega arith
distance-flip [] (false ∷ x) zero = le_refl _
distance-flip [] (true ∷ x) zero = omega arith
distance-flip [] (false ∷ x) (suc p) = distance-flip [] x p
distance-flip [] (true ∷ x) (suc p) = omega (arith, distance-flip [] x p)
distance-flip (false ∷ w) (false ∷ x) zero = omega arith
distance-flip (false ∷ w) (true ∷ x) zero = omega arith
distance-flip (true ∷ w) (false ∷ x) zero = omega arith
distance-flip (true ∷ w) (true ∷ x) zero = omega arith
distance-flip (false ∷ w) (false ∷ x) (suc p) = distance-flip w x p
distance-flip (false ∷ w) (true ∷ x) (suc p) = omega (arith, distance-flip w x p)
distance-flip (true ∷ w) (false ∷ x) (suc p) = omega (arith, distance-flip w x p)
distance-flip (true ∷ w) (true ∷ x) (suc p) = distance-flip w x p

pub length-flip : (i : ℕ) (x : Word) → length (flip i x) ≡ length x
length-flip i [] = refl
length-flip zero (a ∷ x) = refl
length-flip (suc i) (a ∷ x) = ap suc (length-flip i x)

not-not : (a : Bool) → not (not a) ≡ a
not-not false = refl
not-not true = refl

pub flip-flip : (i : ℕ) (x : Word) → flip i (flip i x) ≡ x
flip-flip i [] = refl
flip-flip zero (a ∷ x) = ap (λ (b : Bool). b ∷ x) (not-not a)
flip-flip (suc i) (a ∷ x) = ap (λ (z : Word). a ∷ z) (flip-flip i x)

-- a place turned over in a part, and before or after one
pub take-flip : (n i : ℕ) (x : Word) → take n (flip i x) ≡ flip i (take n x)
take-flip zero i x = refl
take-flip (suc n) i [] = refl
take-flip (suc n) zero (a ∷ x) = refl
take-flip (suc n) (suc i) (a ∷ x) = ap (λ (z : Word). a ∷ z) (take-flip n i x)

pub flip-past : (i : ℕ) (x : Word) → length x ≤ i → flip i x ≡ x
flip-past i [] h = refl
flip-past zero (a ∷ x) h = absurd (not-suc-le-zero h)
flip-past (suc i) (a ∷ x) h = ap (λ (z : Word). a ∷ z) (flip-past i x (le_of_suc-le-suc h))

pub drop-flip : (n i : ℕ) (x : Word) → i < n → drop n (flip i x) ≡ drop n x
drop-flip zero i x h = absurd (not-suc-le-zero h)
drop-flip (suc n) i [] h = refl
drop-flip (suc n) zero (a ∷ x) h = refl
drop-flip (suc n) (suc i) (a ∷ x) h = drop-flip n i x (le_of_suc-le-suc h)

pub drop-flip-add : (n i : ℕ) (x : Word) → drop n (flip (n + i) x) ≡ flip i (drop n x)
drop-flip-add zero i x = ap (λ (j : ℕ). flip j x) (zero-add i)
drop-flip-add (suc n) i [] = refl
drop-flip-add (suc n) i (a ∷ x) =
    ap (λ (j : ℕ). drop (suc n) (flip j (a ∷ x))) (suc-add n i) ∙ drop-flip-add n i x

pub flip-append : (i : ℕ) (x y : Word) → i < length x → flip i (x ++ y) ≡ flip i x ++ y
flip-append i [] y h = absurd (not-suc-le-zero h)
flip-append zero (a ∷ x) y h = refl
flip-append (suc i) (a ∷ x) y h = ap (λ (z : Word). a ∷ z) (flip-append i x y (le_of_suc-le-suc h))

pub flip-append-add : (i : ℕ) (x y : Word) → flip (length x + i) (x ++ y) ≡ x ++ flip i y
flip-append-add i [] y = ap (λ (j : ℕ). flip j y) (zero-add i)
flip-append-add i (a ∷ x) y =
    ap (λ (j : ℕ). flip j (a ∷ (x ++ y))) (suc-add (length x) i) ∙ ap (λ (z : Word). a ∷ z) (flip-append-add i x y)

-- words of one length that differ nowhere are equal; those that differ in one place are a place turned over apart
pub distance-zero : (x y : Word) → length x ≡ length y → distance x y ≤ 0 → x ≡ y
distance-zero [] [] e h = refl
distance-zero [] (b ∷ y) e h = let z : ⊥ = omega arith in absurd z
distance-zero (a ∷ x) [] e h = let z : ⊥ = omega arith in absurd z
distance-zero (false ∷ x) (false ∷ y) e h = ap (λ (z : Word). false ∷ z) (distance-zero x y (suc_inj e) h)
distance-zero (false ∷ x) (true ∷ y) e h = absurd (not-suc-le-zero h)
distance-zero (true ∷ x) (false ∷ y) e h = absurd (not-suc-le-zero h)
distance-zero (true ∷ x) (true ∷ y) e h = ap (λ (z : Word). true ∷ z) (distance-zero x y (suc_inj e) h)

abbrev pub OneFlip : Word → Word → Type 0
OneFlip x y = (x ≡ y) ⊎ ((i : ℕ) × (i < length y) × (x ≡ flip i y))

keep : (a : Bool) (x y : Word) → OneFlip x y → OneFlip (a ∷ x) (a ∷ y)
keep a x y (inl e) = inl (ap (λ (z : Word). a ∷ z) e)
keep a x y (inr p) = inr (suc p.0, omega (arith, p.1), ap (λ (z : Word). a ∷ z) p.2)

turn : (a : Bool) (x y : Word) → length x ≡ length y → distance x y ≤ 0 → OneFlip (not a ∷ x) (a ∷ y)
turn a x y e h = inr (zero, zero-lt-suc (length y), ap (λ (z : Word). not a ∷ z) (distance-zero x y e h))

pub one-flip : (x y : Word) → length x ≡ length y → distance x y ≤ 1 → OneFlip x y
one-flip [] [] e h = inl refl
one-flip [] (b ∷ y) e h = let z : ⊥ = omega arith in absurd z
one-flip (a ∷ x) [] e h = let z : ⊥ = omega arith in absurd z
one-flip (false ∷ x) (false ∷ y) e h = keep false x y (one-flip x y (suc_inj e) h)
one-flip (true ∷ x) (true ∷ y) e h = keep true x y (one-flip x y (suc_inj e) h)
one-flip (true ∷ x) (false ∷ y) e h = turn false x y (suc_inj e) (le_of_suc-le-suc h)
one-flip (false ∷ x) (true ∷ y) e h = turn true x y (suc_inj e) (le_of_suc-le-suc h)
