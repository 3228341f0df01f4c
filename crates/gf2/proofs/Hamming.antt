-- Parity, Hamming bits and the sum of columns are linear, for any width and any columns.
use mathlib.Core.Path.{◌≡◌, refl, sym, ap, ap₂, ◌∙◌}
use mathlib.Core.Bool.{Bool, true, false, ◌&&◌}
use mathlib.Core.List.{List, [], ◌∷◌, ◌++◌, map}
use Prim.Native.Nat.{ℕ, zero, suc, ◌/◌, ◌%◌, ◌^◌, ◌<◌}
use native.Mathlib.Nat.{suc_inj, div-eq_of_lt}
use native.Mathlib.Omega.{arith}
use lib.Bits.{bit_xor, xor_shr, xor_comm as bit_xor-comm, xor_self as bit_xor-self, xor_zero_r}
use lib.Dec.{eqb}
use lib.ListN.{length, get_or}
use lib.Pow.{pow_pos}
use Rattle.gf2.specs.Word.{Word, ◌⊻◌, ◌⊕◌, parity, flip}
use Rattle.gf2.specs.Check.{masked, bit, hamming_bit, column_sum}
use Rattle.gf2.proofs.Xor.{bit-zero-l, bit-swap, bit-comm}
use Rattle.gf2.proofs.Digits.{low-xor, bit_xor-assoc}

pub parity-xor : (x y : Word) → parity (x ⊕ y) ≡ parity x ⊻ parity y
parity-xor [] y = sym (bit-zero-l (parity y))
parity-xor (a ∷ x) [] = refl
parity-xor (a ∷ x) (b ∷ y) =
    ap (λ (c : Bool). c ⊻ (a ⊻ b)) (parity-xor x y) ∙ bit-swap (parity x) (parity y) a b

and_xor : (m a b : Bool) → m && (a ⊻ b) ≡ (m && a) ⊻ (m && b)
and_xor true a b = refl
and_xor false a b = refl

masked-xor : (m : List Bool) (x y : Word) → masked m (x ⊕ y) ≡ masked m x ⊕ masked m y
masked-xor [] x y = refl
masked-xor (m ∷ ms) [] y = refl
masked-xor (m ∷ ms) (a ∷ x) [] = refl
masked-xor (m ∷ ms) (a ∷ x) (b ∷ y) = ap₂ (λ (c : Bool) (z : Word). c ∷ z) (and_xor m a b) (masked-xor ms x y)

pub hamming_bit-xor : (cs : List ℕ) (x y : Word) (k : ℕ) → hamming_bit cs (x ⊕ y) k ≡ hamming_bit cs x k ⊻ hamming_bit cs y k
hamming_bit-xor cs x y k =
    ap parity (masked-xor (map (bit k) cs) x y) ∙ parity-xor (masked (map (bit k) cs) x) (masked (map (bit k) cs) y)

-- ---- the sum of columns
swap : (a b c : ℕ) → bit_xor a (bit_xor b c) ≡ bit_xor b (bit_xor a c)
swap a b c =
    sym (bit_xor-assoc a b c) ∙ ap (λ (n : ℕ). bit_xor n c) (bit_xor-comm a b) ∙ bit_xor-assoc b a c

pub column_sum-xor : (cs : List ℕ) (x y : Word) → column_sum cs (x ⊕ y) ≡ bit_xor (column_sum cs x) (column_sum cs y)
column_sum-xor [] x y = refl
column_sum-xor (c ∷ cs) [] y = refl
column_sum-xor (c ∷ cs) (a ∷ x) [] = sym (xor_zero_r (column_sum (c ∷ cs) (a ∷ x)))
column_sum-xor (c ∷ cs) (false ∷ x) (false ∷ y) = column_sum-xor cs x y
column_sum-xor (c ∷ cs) (true ∷ x) (false ∷ y) =
    ap (bit_xor c) (column_sum-xor cs x y) ∙ sym (bit_xor-assoc c (column_sum cs x) (column_sum cs y))
column_sum-xor (c ∷ cs) (false ∷ x) (true ∷ y) =
    ap (bit_xor c) (column_sum-xor cs x y) ∙ swap c (column_sum cs x) (column_sum cs y)
column_sum-xor (c ∷ cs) (true ∷ x) (true ∷ y) =
    column_sum-xor cs x y
    ∙ ap (λ (n : ℕ). bit_xor n (bit_xor (column_sum cs x) (column_sum cs y))) (sym (bit_xor-self c))
    ∙ bit_xor-assoc c c (bit_xor (column_sum cs x) (column_sum cs y))
    ∙ ap (bit_xor c) (swap c (column_sum cs x) (column_sum cs y))
    ∙ sym (bit_xor-assoc c (column_sum cs x) (bit_xor c (column_sum cs y)))

pub column_sum-append : (cs ds : List ℕ) (x y : Word) → length cs ≡ length x
    → column_sum (cs ++ ds) (x ++ y) ≡ bit_xor (column_sum cs x) (column_sum ds y)
column_sum-append [] ds [] y e = refl
column_sum-append [] ds (a ∷ x) y e = let z : ⊥ = omega arith in absurd z
column_sum-append (c ∷ cs) ds [] y e = let z : ⊥ = omega arith in absurd z
column_sum-append (c ∷ cs) ds (false ∷ x) y e = column_sum-append cs ds x y (suc_inj e)
column_sum-append (c ∷ cs) ds (true ∷ x) y e =
    ap (bit_xor c) (column_sum-append cs ds x y (suc_inj e))
    ∙ sym (bit_xor-assoc c (column_sum cs x) (column_sum ds y))

-- a place turned over adds its column
pub column_sum-flip : (cs : List ℕ) (w : Word) (i : ℕ) → i < length w → i < length cs
    → column_sum cs (flip i w) ≡ bit_xor (column_sum cs w) (get_or cs i 0)
column_sum-flip [] w i h k = let z : ⊥ = omega arith in absurd z
column_sum-flip (c ∷ cs) [] i h k = let z : ⊥ = omega arith in absurd z
column_sum-flip (c ∷ cs) (false ∷ w) zero h k = bit_xor-comm c (column_sum cs w)
column_sum-flip (c ∷ cs) (true ∷ w) zero h k =
    sym (xor_zero_r (column_sum cs w))
    ∙ ap (bit_xor (column_sum cs w)) (sym (bit_xor-self c))
    ∙ swap (column_sum cs w) c c
    ∙ ap (bit_xor c) (bit_xor-comm (column_sum cs w) c)
    ∙ sym (bit_xor-assoc c c (column_sum cs w))
    ∙ bit_xor-assoc c c (column_sum cs w)
    ∙ bit_xor-comm c (bit_xor c (column_sum cs w))
column_sum-flip (c ∷ cs) (false ∷ w) (suc i) h k = column_sum-flip cs w i (omega arith) (omega arith)
column_sum-flip (c ∷ cs) (true ∷ w) (suc i) h k =
    ap (bit_xor c) (column_sum-flip cs w i (omega arith) (omega arith)) ∙ sym (bit_xor-assoc c (column_sum cs w) (get_or cs i 0))

-- Hamming bit k is bit k of the sum of the columns
bit-xor : (k a b : ℕ) → bit k (bit_xor a b) ≡ bit k a ⊻ bit k b
bit-xor k a b =
    ap (λ (n : ℕ). eqb (n % 2) 1) (xor_shr a b k) ∙ low-xor (a / 2 ^ k) (b / 2 ^ k)

pub bit-zero : (k : ℕ) → bit k 0 ≡ false
bit-zero k = ap (λ (n : ℕ). eqb (n % 2) 1) (div-eq_of_lt (pow_pos k))

and-true : (a : Bool) → a && true ≡ a
and-true true = refl
and-true false = refl

and-false : (a : Bool) → a && false ≡ false
and-false true = refl
and-false false = refl

pub hamming_bit-bit : (cs : List ℕ) (w : Word) (k : ℕ) → hamming_bit cs w k ≡ bit k (column_sum cs w)
hamming_bit-bit [] w k = sym (bit-zero k)
hamming_bit-bit (c ∷ cs) [] k = sym (bit-zero k)
hamming_bit-bit (c ∷ cs) (false ∷ w) k =
    ap (λ (b : Bool). hamming_bit cs w k ⊻ b) (and-false (bit k c)) ∙ hamming_bit-bit cs w k
hamming_bit-bit (c ∷ cs) (true ∷ w) k =
    ap₂ ◌⊻◌ (hamming_bit-bit cs w k) (and-true (bit k c))
    ∙ bit-comm (bit k (column_sum cs w)) (bit k c)
    ∙ sym (bit-xor k c (column_sum cs w))
