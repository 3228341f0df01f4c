-- Weight, distance and single places of words, and the places of a mismatch.
use mathlib.Core.Path.{◌≡◌, refl, sym, ap, ◌∙◌, subst}
use mathlib.Core.Logic.{inl, inr}
use mathlib.Core.Bool.{true, false, false≢true}
use mathlib.Core.List.{List, [], ◌∷◌}
use Prim.Native.Nat.{ℕ, zero, suc, ◌+◌, ◌≤◌}
use native.Mathlib.Nat.{add-zero, add-suc, suc-add, suc_inj}
use native.Mathlib.Omega.{arith}
use lib.ListN.{length, get_or}
use Rattle.gf2.specs.Word.{Word, ◌⊻◌, ◌⊕◌, zeros, weight, distance, is_zero, flip}
use Rattle.gf2.proofs.Xor.{bit-zero-l, xor_self}
use Rattle.scheme.specs.Visit.{set_places}
use Rattle.scheme.specs.Demand3.{◌∈◌}

pub weight-xor : (x y : Word) → weight (x ⊕ y) ≤ weight x + weight y
weight-xor [] y = omega arith
weight-xor (a ∷ x) [] = omega arith
weight-xor (false ∷ x) (false ∷ y) = weight-xor x y
weight-xor (false ∷ x) (true ∷ y) = omega (arith, weight-xor x y)
weight-xor (true ∷ x) (false ∷ y) = omega (arith, weight-xor x y)
weight-xor (true ∷ x) (true ∷ y) = omega (arith, weight-xor x y)

pub place-xor : (x y : Word) (p : ℕ) → get_or (x ⊕ y) p false ≡ get_or x p false ⊻ get_or y p false
place-xor [] y p = sym (bit-zero-l (get_or y p false))
place-xor (a ∷ x) [] p = refl
place-xor (a ∷ x) (b ∷ y) zero = refl
place-xor (a ∷ x) (b ∷ y) (suc p) = place-xor x y p

-- a word without weight is set nowhere
pub place-light : (x : Word) (p : ℕ) → weight x ≡ 0 → get_or x p false ≡ false
place-light [] p h = refl
place-light (false ∷ x) zero h = refl
place-light (false ∷ x) (suc p) h = place-light x p h
place-light (true ∷ x) p h = let z : ⊥ = omega arith in absurd z

pub is_zero-zeros : (n : ℕ) → is_zero (zeros n) ≡ true
is_zero-zeros zero = refl
is_zero-zeros (suc n) = is_zero-zeros n

pub is_zero-self : (x : Word) → is_zero (x ⊕ x) ≡ true
is_zero-self x = ap is_zero (xor_self x) ∙ is_zero-zeros (length x)

-- a flip at a damaged place takes one away
pub distance-mend : (w x : Word) (p : ℕ) → length w ≡ length x → get_or (w ⊕ x) p false ≡ true
    → suc (distance w (flip p x)) ≡ distance w x
distance-mend [] [] p h e = absurd (false≢true e)
distance-mend [] (b ∷ x) p h e = let z : ⊥ = omega arith in absurd z
distance-mend (a ∷ w) [] p h e = let z : ⊥ = omega arith in absurd z
distance-mend (false ∷ w) (false ∷ x) zero h e = absurd (false≢true e)
distance-mend (false ∷ w) (true ∷ x) zero h e = refl
distance-mend (true ∷ w) (false ∷ x) zero h e = refl
distance-mend (true ∷ w) (true ∷ x) zero h e = absurd (false≢true e)
distance-mend (false ∷ w) (false ∷ x) (suc p) h e = distance-mend w x p (suc_inj h) e
distance-mend (false ∷ w) (true ∷ x) (suc p) h e = ap suc (distance-mend w x p (suc_inj h) e)
distance-mend (true ∷ w) (false ∷ x) (suc p) h e = ap suc (distance-mend w x p (suc_inj h) e)
distance-mend (true ∷ w) (true ∷ x) (suc p) h e = distance-mend w x p (suc_inj h) e

pub length-set_places : (i : ℕ) (w : Word) → length (set_places i w) ≡ weight w
length-set_places i [] = refl
length-set_places i (false ∷ w) = length-set_places (suc i) w
length-set_places i (true ∷ w) = ap suc (length-set_places (suc i) w)

next-place : (i p : ℕ) (l : List ℕ) → (suc i + p) ∈ l → (i + suc p) ∈ l
next-place i p l = subst (λ k. k ∈ l) (suc-add i p ∙ sym (add-suc i p))

pub in-set_places : (i : ℕ) (w : Word) (p : ℕ) → get_or w p false ≡ true → (i + p) ∈ set_places i w
in-set_places i [] p e = absurd (false≢true e)
in-set_places i (false ∷ w) zero e = absurd (false≢true e)
in-set_places i (true ∷ w) zero e = inl (add-zero i)
in-set_places i (false ∷ w) (suc p) e = next-place i p (set_places (suc i) w) (in-set_places (suc i) w p e)
in-set_places i (true ∷ w) (suc p) e = inr (next-place i p (set_places (suc i) w) (in-set_places (suc i) w p e))
