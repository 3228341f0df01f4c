-- The test that two words are the same.
use mathlib.Core.Path.{◌≡◌, refl, sym, ap, ap₂, ◌∙◌, subst}
use mathlib.Core.Bool.{Bool, true, false, not, ◌&&◌, true≢false}
use mathlib.Core.List.{[], ◌∷◌, ◌++◌}
use native.Mathlib.Nat.{suc_inj}
use native.Mathlib.Omega.{arith}
use lib.Dec.{T, eqb}
use borrow.Author.Tests.{eq-eqb, ne_eqb}
use lib.ListN.{length}
use Rattle.gf2.specs.Word.{Word, ◌⊻◌, ◌⊕◌, is_zero, same, digits, number}
use Rattle.gf2.proofs.Xor.{bit-comm}
use Rattle.gf2.proofs.Digits.{digits_number}

pub same_refl : (x : Word) → same x x ≡ true
same_refl [] = refl
same_refl (false ∷ x) = same_refl x
same_refl (true ∷ x) = same_refl x

pub same-equal : (x y : Word) → T (same x y) → x ≡ y
same-equal [] [] t = refl
same-equal [] (b ∷ y) t = absurd t
same-equal (a ∷ x) [] t = absurd t
same-equal (false ∷ x) (false ∷ y) t = ap (λ (z : Word). false ∷ z) (same-equal x y t)
same-equal (false ∷ x) (true ∷ y) t = absurd t
same-equal (true ∷ x) (false ∷ y) t = absurd t
same-equal (true ∷ x) (true ∷ y) t = ap (λ (z : Word). true ∷ z) (same-equal x y t)

-- words of one length are the same exactly where their sum is zero
pub is_zero-xor : (x y : Word) → length x ≡ length y → is_zero (x ⊕ y) ≡ same x y
is_zero-xor [] [] e = refl
is_zero-xor [] (b ∷ y) e = let z : ⊥ = omega arith in absurd z
is_zero-xor (a ∷ x) [] e = let z : ⊥ = omega arith in absurd z
is_zero-xor (a ∷ x) (b ∷ y) e = ap (λ (t : Bool). not (a ⊻ b) && t) (is_zero-xor x y (suc_inj e))

and_assoc : (a b c : Bool) → a && (b && c) ≡ a && b && c
and_assoc true b c = refl
and_assoc false b c = refl

pub same-append : (x y u v : Word) → length x ≡ length y → same (x ++ u) (y ++ v) ≡ same x y && same u v
same-append [] [] u v e = refl
same-append [] (b ∷ y) u v e = let z : ⊥ = omega arith in absurd z
same-append (a ∷ x) [] u v e = let z : ⊥ = omega arith in absurd z
same-append (a ∷ x) (b ∷ y) u v e =
    ap (λ (t : Bool). not (a ⊻ b) && t) (same-append x y u v (suc_inj e)) ∙ and_assoc (not (a ⊻ b)) (same x y) (same u v)

pub same-comm : (x y : Word) → same x y ≡ same y x
same-comm [] [] = refl
same-comm [] (b ∷ y) = refl
same-comm (a ∷ x) [] = refl
same-comm (a ∷ x) (b ∷ y) = ap₂ (λ (c t : Bool). not c && t) (bit-comm a b) (same-comm x y)

-- words of one length are the same exactly where their numbers are equal
pub same_number : (x y : Word) → length x ≡ length y → eqb (number x) (number y) ≡ same x y
same_number x y e = go (same x y) refl
  where
    go : (t : Bool) → same x y ≡ t → eqb (number x) (number y) ≡ same x y
    go true s = eq-eqb (number x) (number y) (ap number (same-equal x y (subst T (sym s) tt))) ∙ sym s
    go false s =
        ne_eqb (number x) (number y)
        (λ (h : number x ≡ number y).
        let z : x ≡ y = sym (digits_number x) ∙ ap₂ digits e h ∙ digits_number y in
        true≢false (sym (same_refl x) ∙ ap (same x) z ∙ s))
        ∙ sym s
