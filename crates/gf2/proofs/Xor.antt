-- Exclusive or of bits and of words: the laws of a group in which each element is its own inverse.
use mathlib.Core.Path.{◌≡◌, refl, sym, ap, ap₂, ◌∙◌}
use mathlib.Core.Bool.{Bool, true, false}
use mathlib.Core.List.{[], ◌∷◌, ◌++◌}
use Prim.Native.Nat.{ℕ, zero, suc, ◌≤◌, max}
use native.Mathlib.Nat.{le_of_suc-le-suc, not-suc-le-zero, zero-max, max-zero, suc-max-suc, suc_inj}
use native.Mathlib.Omega.{arith}
use lib.ListN.{length, take, drop}
use Rattle.gf2.specs.Word.{Word, ◌⊻◌, ◌⊕◌, zeros}

pub bit-zero-l : (a : Bool) → false ⊻ a ≡ a
bit-zero-l false = refl
bit-zero-l true = refl

pub bit-comm : (a b : Bool) → a ⊻ b ≡ b ⊻ a
bit-comm false false = refl
bit-comm false true = refl
bit-comm true false = refl
bit-comm true true = refl

pub bit-assoc : (a b c : Bool) → a ⊻ b ⊻ c ≡ a ⊻ (b ⊻ c)
bit-assoc a b false = refl
bit-assoc a false true = refl
bit-assoc false true true = refl
bit-assoc true true true = refl

pub bit-self : (a : Bool) → a ⊻ a ≡ false
bit-self false = refl
bit-self true = refl

pub bit-equal : (a b : Bool) → a ⊻ b ≡ false → a ≡ b
bit-equal a false e = e
bit-equal false true e = sym e
bit-equal true true e = refl

-- (a + b) + (c + d) is (a + c) + (b + d)
pub bit-swap : (a b c d : Bool) → a ⊻ b ⊻ (c ⊻ d) ≡ a ⊻ c ⊻ (b ⊻ d)
bit-swap a b c d =
    bit-assoc a b (c ⊻ d)
    ∙ ap (λ (x : Bool). a ⊻ x) (sym (bit-assoc b c d) ∙ ap (λ (x : Bool). x ⊻ d) (bit-comm b c) ∙ bit-assoc c b d)
    ∙ sym (bit-assoc a c (b ⊻ d))

pub xor-nil : (x : Word) → x ⊕ [] ≡ x
xor-nil [] = refl
xor-nil (a ∷ x) = refl

pub xor_comm : (x y : Word) → x ⊕ y ≡ y ⊕ x
xor_comm [] y = sym (xor-nil y)
xor_comm (a ∷ x) [] = refl
xor_comm (a ∷ x) (b ∷ y) = ap₂ (λ (c : Bool) (z : Word). c ∷ z) (bit-comm a b) (xor_comm x y)

pub xor_assoc : (x y z : Word) → x ⊕ y ⊕ z ≡ x ⊕ (y ⊕ z)
xor_assoc [] y z = refl
xor_assoc (a ∷ x) [] z = refl
xor_assoc (a ∷ x) (b ∷ y) [] = refl
xor_assoc (a ∷ x) (b ∷ y) (c ∷ z) = ap₂ (λ (d : Bool) (w : Word). d ∷ w) (bit-assoc a b c) (xor_assoc x y z)

pub xor-swap : (x y z w : Word) → x ⊕ y ⊕ (z ⊕ w) ≡ x ⊕ z ⊕ (y ⊕ w)
xor-swap x y z w =
    xor_assoc x y (z ⊕ w)
    ∙ ap (λ (u : Word). x ⊕ u) (sym (xor_assoc y z w) ∙ ap (λ (u : Word). u ⊕ w) (xor_comm y z) ∙ xor_assoc z y w)
    ∙ sym (xor_assoc x z (y ⊕ w))

pub xor_self : (x : Word) → x ⊕ x ≡ zeros (length x)
xor_self [] = refl
xor_self (a ∷ x) = ap₂ (λ (c : Bool) (z : Word). c ∷ z) (bit-self a) (xor_self x)

pub xor-zeros : (k : ℕ) (x : Word) → k ≤ length x → x ⊕ zeros k ≡ x
xor-zeros zero x h = xor-nil x
xor-zeros (suc k) [] h = absurd (not-suc-le-zero h)
xor-zeros (suc k) (a ∷ x) h = ap (λ (z : Word). a ∷ z) (xor-zeros k x (le_of_suc-le-suc h))

pub length-xor : (x y : Word) → length (x ⊕ y) ≡ max (length x) (length y)
length-xor [] y = sym (zero-max (length y))
length-xor (a ∷ x) [] = sym (max-zero (suc (length x)))
length-xor (a ∷ x) (b ∷ y) = ap suc (length-xor x y) ∙ sym (suc-max-suc (length x) (length y))

pub length-xor-same : (x y : Word) → length x ≡ length y → length (x ⊕ y) ≡ length x
length-xor-same x y e = length-xor x y ∙ omega arith

-- the sum taken twice is gone
pub xor-cancel : (x y : Word) → length y ≤ length x → x ⊕ y ⊕ y ≡ x
xor-cancel x y h =
    xor_assoc x y y ∙ ap (λ (u : Word). x ⊕ u) (xor_self y) ∙ xor-zeros (length y) x h

-- two words of one length whose sum is zero are equal
pub xor-equal : (x y : Word) → length x ≡ length y → x ⊕ y ≡ zeros (length x) → x ≡ y
xor-equal x y e z =
    sym (xor-cancel x y (omega arith)) ∙ ap (λ (u : Word). u ⊕ y) z ∙ xor_comm (zeros (length x)) y
    ∙ xor-zeros (length x) y (omega arith)

pub xor-append : (x y u v : Word) → length x ≡ length y → (x ++ u) ⊕ (y ++ v) ≡ (x ⊕ y) ++ (u ⊕ v)
xor-append [] [] u v e = refl
xor-append [] (b ∷ y) u v e = let z : ⊥ = omega arith in absurd z
xor-append (a ∷ x) [] u v e = let z : ⊥ = omega arith in absurd z
xor-append (a ∷ x) (b ∷ y) u v e = ap (λ (z : Word). (a ⊻ b) ∷ z) (xor-append x y u v (suc_inj e))

pub take-xor : (n : ℕ) (x y : Word) → take n (x ⊕ y) ≡ take n x ⊕ take n y
take-xor zero x y = refl
take-xor (suc n) [] y = refl
take-xor (suc n) (a ∷ x) [] = refl
take-xor (suc n) (a ∷ x) (b ∷ y) = ap (λ (z : Word). (a ⊻ b) ∷ z) (take-xor n x y)

pub drop-xor : (n : ℕ) (x y : Word) → drop n (x ⊕ y) ≡ drop n x ⊕ drop n y
drop-xor zero x y = refl
drop-xor (suc n) [] y = refl
drop-xor (suc n) (a ∷ x) [] = sym (xor-nil (drop n x))
drop-xor (suc n) (a ∷ x) (b ∷ y) = drop-xor n x y
