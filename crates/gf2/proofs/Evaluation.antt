-- A word's value: the sum of f over the exponents of its set places, the last place having exponent 0.
-- If f satisfies the recurrence of a generator, a word has the value of its remainder.
use mathlib.Core.Path.{◌≡◌, refl, sym, ap, ap₂, ◌∙◌}
use mathlib.Core.Bool.{Bool, true, false, ◌&&◌}
use mathlib.Core.List.{[], ◌∷◌, ◌++◌, append-nil}
use Prim.Native.Nat.{ℕ, zero, suc, ◌+◌, ◌<◌}
use native.Mathlib.Nat.{suc_inj}
use native.Mathlib.Omega.{arith}
use lib.Dec.{T}
use lib.ListN.{length, length-append, length-map, length-replicate}
use lib.Seq.{append_snoc}
use Rattle.gf2.specs.Word.{Word, ◌⊕◌, zeros}
use Rattle.gf2.specs.Polynomial.{◌·◌, divide_step, divide, remainder}
use Rattle.gf2.specs.Check.{divisible}
use Rattle.gf2.proofs.Xor.{length-xor-same}
use Rattle.gf2.proofs.Linear.{length-divide_step, is_zero-zeros}
use Rattle.gf2.proofs.Space.{Space, unit_left, swap, times, times-xor, times-origin, times-sum}
use Rattle.gf2.proofs.Space.{Additive, map-origin, map-times}

module _ (S : Space) where
  open S use {carrier as C, origin as o, sum as ◌⊞◌, comm, assoc, unit, self}

  infixl 60 ◌⊞◌
  abbrev pub value : (ℕ → C) → Word → C
  value f [] = o
  value f (d ∷ w) = times S d (f (length w)) ⊞ value f w

  pub value-xor : (f : ℕ → C) (x y : Word) → length x ≡ length y → value f (x ⊕ y) ≡ value f x ⊞ value f y
  value-xor f [] [] e = sym (unit o)
  value-xor f [] (b ∷ y) e = let z : ⊥ = omega arith in absurd z
  value-xor f (a ∷ x) [] e = let z : ⊥ = omega arith in absurd z
  value-xor f (a ∷ x) (b ∷ y) e =
      let h : length x ≡ length y = suc_inj e in
      ap₂ ◌⊞◌
      (times-xor S a b (f (length (x ⊕ y)))
      ∙ ap₂ (λ (m n : ℕ). times S a (f m) ⊞ times S b (f n)) (length-xor-same x y h) (length-xor-same x y h ∙ h))
      (value-xor f x y h)
      ∙ swap S (times S a (f (length x))) (times S b (f (length y))) (value f x) (value f y)

  pub value-scale : (f : ℕ → C) (t : Bool) (x : Word) → value f (t · x) ≡ times S t (value f x)
  value-scale f t [] = sym (times-origin S t)
  value-scale f t (a ∷ x) =
      ap₂ ◌⊞◌ (ap (λ (n : ℕ). times S (t && a) (f n)) (length-map x (λ b. t && b)) ∙ both t a (f (length x)))
      (value-scale f t x)
      ∙ sym (times-sum S t (times S a (f (length x))) (value f x))
    where
      both : (t a : Bool) (x : C) → times S (t && a) x ≡ times S t (times S a x)
      both false a x = refl
      both true a x = refl

  pub value-zeros : (f : ℕ → C) (n : ℕ) → value f (zeros n) ≡ o
  value-zeros f zero = refl
  value-zeros f (suc n) = unit_left S (value f (zeros n)) ∙ value-zeros f n

  pub value-append : (f : ℕ → C) (x w : Word) → value f (x ++ w) ≡ value (λ e. f (e + length w)) x ⊞ value f w
  value-append f [] w = sym (unit_left S (value f w))
  value-append f (a ∷ x) w =
      ap₂ (λ (n : ℕ) (y : C). times S a (f n) ⊞ y) (length-append x w) (value-append f x w)
      ∙ sym (assoc (times S a (f (length x + length w))) (value (λ e. f (e + length w)) x) (value f w))

  pub value-sum : (f h : ℕ → C) (w : Word) → value (λ e. f e ⊞ h e) w ≡ value f w ⊞ value h w
  value-sum f h [] = sym (unit o)
  value-sum f h (d ∷ w) =
      ap₂ ◌⊞◌ (times-sum S d (f (length w)) (h (length w))) (value-sum f h w)
      ∙ swap S (times S d (f (length w))) (times S d (h (length w))) (value f w) (value h w)

  pub value-map : (A : C → C) → Additive S A → (f : ℕ → C) (w : Word) → value (λ e. A (f e)) w ≡ A (value f w)
  value-map A additive f [] = sym (map-origin S A additive)
  value-map A additive f (d ∷ w) =
      ap₂ ◌⊞◌ (sym (map-times S A additive d (f (length w)))) (value-map A additive f w)
      ∙ sym (additive (times S d (f (length w))) (value f w))

  -- f satisfies the recurrence of the generator g
  abbrev pub Recurs : Word → (ℕ → C) → Type 0
  Recurs g f = (k : ℕ) → f (length g + k) ≡ value (λ e. f (e + k)) g

  module _ (g : Word) (f : ℕ → C) (recurs : Recurs g f) (some : 0 < length g) where
    value-step : (t : Bool) (r : Word) (d : Bool) (w : Word) → suc (length r) ≡ length g
        → value f (divide_step g (t ∷ r) d ++ w) ≡ value f (t ∷ r ++ d ∷ w)
    value-step t r d w e =
        let s : length (r ++ (d ∷ [])) ≡ length g = length-append r (d ∷ []) ∙ omega arith in
        let n : length g + length w ≡ length (r ++ d ∷ w) = omega (arith, length-append r (d ∷ w)) in
        value-append f (divide_step g (t ∷ r) d) w
        ∙ ap (λ (x : C). x ⊞ value f w)
        (value-xor h (r ++ (d ∷ [])) (t · g) (s ∙ sym (length-map g (λ b. t && b)))
        ∙ comm (value h (r ++ (d ∷ []))) (value h (t · g)))
        ∙ assoc (value h (t · g)) (value h (r ++ (d ∷ []))) (value f w)
        ∙ ap₂ ◌⊞◌ (value-scale h t g ∙ ap (times S t) (sym (recurs (length w)) ∙ ap f n))
        (sym (value-append f (r ++ (d ∷ [])) w) ∙ ap (value f) (append_snoc r d w))
      where
        h : ℕ → C
        h e = f (e + length w)

    value-divide : (r w : Word) → length r ≡ length g → value f (divide g r w) ≡ value f (r ++ w)
    value-divide r [] e = ap (value f) (sym (append-nil r))
    value-divide [] (d ∷ w) e = let z : ⊥ = omega arith in absurd z
    value-divide (t ∷ r) (d ∷ w) e =
        value-divide (divide_step g (t ∷ r) d) w (length-divide_step g r d t ∙ omega arith) ∙ value-step t r d w e

    pub value-divisible : (w : Word) → T (divisible g w) → value f w ≡ o
    value-divisible w t =
        sym
        (value-append f z w ∙ ap (λ (x : C). x ⊞ value f w) (value-zeros (λ e. f (e + length w)) (length g))
        ∙ unit_left S (value f w))
        ∙ sym (value-divide z w (length-replicate (length g) false))
        ∙ ap (value f) (is_zero-zeros (remainder g w) t) ∙ value-zeros f (length (remainder g w))
      where
        z : Word
        z = zeros (length g)
