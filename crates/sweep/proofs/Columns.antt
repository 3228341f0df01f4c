-- Sums of columns, and what functions that pass through exclusive or make of them.
use mathlib.Core.Path.{◌≡◌, refl, sym, ap, ap₂, ◌∙◌}
use mathlib.Core.Bool.{true, false}
use mathlib.Core.List.{List, [], ◌∷◌, ◌++◌, map}
use Prim.Native.Nat.{ℕ, zero, suc, ◌≤◌}
use native.Mathlib.Nat.{le_of_suc-le-suc, not-suc-le-zero}
use lib.Bits.{bit_and, bit_xor}
use lib.ListN.{length, take, drop}
use Rattle.gf2.specs.Word.{Word}
use Rattle.gf2.specs.Check.{column_sum}
use Rattle.gf2.proofs.Digits.{bit_xor-assoc, bit_xor-middle}
use Rattle.register.proofs.Additive.{Additive, additive-zero}
use Rattle.linecode.proofs.Linear.{and_xor}

pub add-and : (g : ℕ → ℕ) (m : ℕ) → Additive g → Additive (λ n. bit_and (g n) m)
add-and g m l a b = ap (λ (n : ℕ). bit_and n m) (l a b) ∙ and_xor (g a) (g b) m

pub add-xor : (f g : ℕ → ℕ) → Additive f → Additive g → Additive (λ n. bit_xor (f n) (g n))
add-xor f g l m a b = ap₂ bit_xor (l a b) (m a b) ∙ bit_xor-middle (f a) (f b) (g a) (g b)

-- of a sum of columns it is the sum of what it makes of them
pub additive-sum : (g : ℕ → ℕ) → Additive g → (cs : List ℕ) (w : Word) → g (column_sum cs w) ≡ column_sum (map g cs) w
additive-sum g l [] w = additive-zero g l
additive-sum g l (c ∷ cs) [] = additive-zero g l
additive-sum g l (c ∷ cs) (false ∷ w) = additive-sum g l cs w
additive-sum g l (c ∷ cs) (true ∷ w) = l c (column_sum cs w) ∙ ap (bit_xor (g c)) (additive-sum g l cs w)

pub sum-none : (cs : List ℕ) → column_sum cs [] ≡ 0
sum-none [] = refl
sum-none (c ∷ cs) = refl

-- a word before another takes the first columns
pub sum-split : (cs : List ℕ) (x y : Word) → column_sum cs (x ++ y) ≡ bit_xor (column_sum cs x) (column_sum (drop (length x) cs) y)
sum-split cs [] y = ap (λ (n : ℕ). bit_xor n (column_sum cs y)) (sym (sum-none cs))
sum-split [] (b ∷ x) y = refl
sum-split (c ∷ cs) (false ∷ x) y = sum-split cs x y
sum-split (c ∷ cs) (true ∷ x) y =
    ap (bit_xor c) (sum-split cs x y) ∙ sym (bit_xor-assoc c (column_sum cs x) (column_sum (drop (length x) cs) y))

-- columns past the word add nothing
pub sum_first : (n : ℕ) (cs : List ℕ) (w : Word) → length w ≤ n → column_sum (take n cs) w ≡ column_sum cs w
sum_first n cs [] h = sum-none (take n cs) ∙ sym (sum-none cs)
sum_first zero cs (b ∷ w) h = absurd (not-suc-le-zero h)
sum_first (suc n) [] (b ∷ w) h = refl
sum_first (suc n) (c ∷ cs) (false ∷ w) h = sum_first n cs w (le_of_suc-le-suc h)
sum_first (suc n) (c ∷ cs) (true ∷ w) h = ap (bit_xor c) (sum_first n cs w (le_of_suc-le-suc h))
