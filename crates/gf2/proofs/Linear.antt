-- Division by a generator is linear: the remainder of a sum is the sum of the remainders.
use mathlib.Core.Path.{◌≡◌, refl, sym, ap, ap₂, subst, ◌∙◌}
use mathlib.Core.Bool.{Bool, true, false, ◌&&◌}
use mathlib.Core.List.{[], ◌∷◌, ◌++◌}
use Prim.Native.Nat.{ℕ, zero, suc, ◌+◌, max}
use native.Mathlib.Nat.{suc_inj}
use native.Mathlib.Omega.{arith}
use lib.Dec.{T}
use lib.ListN.{length, length-append, length-map, length-replicate}
use Rattle.gf2.specs.Word.{Word, ◌⊻◌, ◌⊕◌, zeros, is_zero}
use Rattle.gf2.specs.Polynomial.{◌·◌, divide_step, divide, remainder}
use Rattle.gf2.specs.Check.{divisible, crc}
use Rattle.gf2.proofs.Xor.{bit-zero-l, xor-swap, xor_self, xor-append, length-xor}

bit-scale : (a b c : Bool) → (a ⊻ b) && c ≡ (a && c) ⊻ (b && c)
bit-scale a false c = refl
bit-scale false true c = sym (bit-zero-l c)
bit-scale true true false = refl
bit-scale true true true = refl

pub scale-xor : (a b : Bool) (x : Word) → (a ⊻ b) · x ≡ a · x ⊕ b · x
scale-xor a b [] = refl
scale-xor a b (c ∷ x) = ap₂ (λ (d : Bool) (z : Word). d ∷ z) (bit-scale a b c) (scale-xor a b x)

pub length-divide_step : (g r : Word) (a t : Bool) → length (divide_step g (t ∷ r) a) ≡ max (suc (length r)) (length g)
length-divide_step g r a t =
    length-xor (r ++ (a ∷ [])) (t · g)
    ∙ ap₂ max (length-append r (a ∷ []) ∙ omega arith) (length-map g (λ b. t && b))

divide_step-same : (g r s : Word) (a b : Bool) → length r ≡ length s → length (divide_step g r a) ≡ length (divide_step g s b)
divide_step-same g [] [] a b e = refl
divide_step-same g [] (u ∷ s) a b e = let z : ⊥ = omega arith in absurd z
divide_step-same g (t ∷ r) [] a b e = let z : ⊥ = omega arith in absurd z
divide_step-same g (t ∷ r) (u ∷ s) a b e =
    length-divide_step g r a t ∙ ap (λ (n : ℕ). max n (length g)) e ∙ sym (length-divide_step g s b u)

divide_step-xor : (g r s : Word) (a b : Bool) → length r ≡ length s
    → divide_step g (r ⊕ s) (a ⊻ b) ≡ divide_step g r a ⊕ divide_step g s b
divide_step-xor g [] [] a b e = refl
divide_step-xor g [] (u ∷ s) a b e = let z : ⊥ = omega arith in absurd z
divide_step-xor g (t ∷ r) [] a b e = let z : ⊥ = omega arith in absurd z
divide_step-xor g (t ∷ r) (u ∷ s) a b e =
    ap₂ ◌⊕◌ (sym (xor-append r s (a ∷ []) (b ∷ []) (suc_inj e))) (scale-xor t u g)
    ∙ xor-swap (r ++ (a ∷ [])) (s ++ (b ∷ [])) (t · g) (u · g)

pub divide-xor : (g r s x y : Word) → length r ≡ length s → length x ≡ length y
    → divide g (r ⊕ s) (x ⊕ y) ≡ divide g r x ⊕ divide g s y
divide-xor g r s [] [] e h = refl
divide-xor g r s [] (b ∷ y) e h = let z : ⊥ = omega arith in absurd z
divide-xor g r s (a ∷ x) [] e h = let z : ⊥ = omega arith in absurd z
divide-xor g r s (a ∷ x) (b ∷ y) e h =
    ap (λ (u : Word). divide g u (x ⊕ y)) (divide_step-xor g r s a b e)
    ∙ divide-xor g (divide_step g r a) (divide_step g s b) x y (divide_step-same g r s a b e) (suc_inj h)

pub remainder-xor : (g x y : Word) → length x ≡ length y → remainder g (x ⊕ y) ≡ remainder g x ⊕ remainder g y
remainder-xor g x y e =
    ap (λ (u : Word). divide g u (x ⊕ y)) (sym (xor_self o ∙ ap zeros (length-replicate (length g) false)))
    ∙ divide-xor g o o x y refl e
  where
    o : Word
    o = zeros (length g)

pub crc-xor : (g x y : Word) → length x ≡ length y → crc g (x ⊕ y) ≡ crc g x ⊕ crc g y
crc-xor g x y e =
    ap (remainder g) (sym (xor-append x y o o e ∙ ap (λ (z : Word). (x ⊕ y) ++ z) twice))
    ∙ remainder-xor g (x ++ o) (y ++ o) (length-append x o ∙ ap (λ (n : ℕ). n + length o) e ∙ sym (length-append y o))
  where
    o : Word
    o = zeros (length g)

    twice : o ⊕ o ≡ o
    twice = xor_self o ∙ ap zeros (length-replicate (length g) false)

pub length-divide : (g r w : Word) → length r ≡ length g → length (divide g r w) ≡ length g
length-divide g r [] e = e
length-divide g [] (d ∷ w) e = length-divide g [] w e
length-divide g (t ∷ r) (d ∷ w) e =
    length-divide g (divide_step g (t ∷ r) d) w (length-divide_step g r d t ∙ omega arith)

pub length-remainder : (g w : Word) → length (remainder g w) ≡ length g
length-remainder g w = length-divide g (zeros (length g)) w (length-replicate (length g) false)

pub is_zero-zeros : (x : Word) → T (is_zero x) → x ≡ zeros (length x)
is_zero-zeros [] t = refl
is_zero-zeros (false ∷ x) t = ap (λ (z : Word). false ∷ z) (is_zero-zeros x t)
is_zero-zeros (true ∷ x) t = absurd t

pub zeros-is_zero : (n : ℕ) → T (is_zero (zeros n))
zeros-is_zero zero = tt
zeros-is_zero (suc n) = zeros-is_zero n

is_zero-xor : (x y : Word) → T (is_zero x) → T (is_zero y) → T (is_zero (x ⊕ y))
is_zero-xor [] y s t = t
is_zero-xor (a ∷ x) [] s t = s
is_zero-xor (false ∷ x) (false ∷ y) s t = is_zero-xor x y s t
is_zero-xor (false ∷ x) (true ∷ y) s t = absurd t
is_zero-xor (true ∷ x) (b ∷ y) s t = absurd s

pub divisible-xor : (g x y : Word) → length x ≡ length y → T (divisible g x) → T (divisible g y) → T (divisible g (x ⊕ y))
divisible-xor g x y e s t =
    subst (λ (r : Word). T (is_zero r)) (sym (remainder-xor g x y e)) (is_zero-xor (remainder g x) (remainder g y) s t)
