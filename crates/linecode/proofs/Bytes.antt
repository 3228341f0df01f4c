-- Bytes and their bits: bits and bytes undo one another.
use mathlib.Core.Path.{◌≡◌, refl, sym, ap, ap₂, ◌∙◌}
use mathlib.Core.Bool.{Bool, true, false, not}
use mathlib.Core.List.{List, [], ◌∷◌, ◌++◌, append-nil}
use Prim.Native.Nat.{ℕ, zero, suc, ◌+◌, ◌*◌, ◌/◌, ◌%◌, ◌^◌, ◌≤◌, ◌<◌}
use native.Mathlib.Nat.{suc_inj, not-suc-le-zero, le_of_suc-le-suc, lt_of_lt_of_le, zero-add, suc-add}
use native.Mathlib.Numerals.{add-one}
use native.Mathlib.Omega.{arith}
use lib.Bits.{bit_xor, xor_zero_l, xor_zero_r, xor_block}
use lib.Dec.{eqb}
use lib.ListN.{length, take, drop, get_or, set, length-take, length-drop, take-append-drop, drop_of_length-le, get_or-append}
use lib.Seq.{take_all, take-nil, get_or-append-add}
use lib.Pow.{pow_mono}
use Rattle.gf2.specs.Word.{Word, ◌⊻◌, ◌⊕◌, flip, digits, number}
use Rattle.gf2.specs.Check.{bit}
use Rattle.gf2.proofs.Xor.{xor-append, xor-zeros, take-xor, drop-xor}
use Rattle.gf2.proofs.Digits.{number_small, number_lt, digits_number, digits-zero, digits-xor, get_or-digits}
use Rattle.gf2.proofs.Weight.{flip-append, flip-append-add}
pub use Rattle.register.proofs.Bytes.{Bytes, array-length, array-bytes, byte_at, array-byte}
use Rattle.linecode.specs.Places.{bits_of, bytes_of, xor_bytes}

pub bytes_take : (n : ℕ) (l : List ℕ) → Bytes l → Bytes (take n l)
bytes_take zero l p = tt
bytes_take (suc n) [] p = tt
bytes_take (suc n) (b ∷ l) p = (p.0, bytes_take n l p.1)

pub bytes-append : (x y : List ℕ) → Bytes x → Bytes y → Bytes (x ++ y)
bytes-append [] y p q = q
bytes-append (b ∷ x) y p q = (p.0, bytes-append x y p.1 q)

-- ---- bits of bytes
pub length-bits_of : (l : List ℕ) → length (bits_of l) ≡ 8 * length l
length-bits_of [] = refl
length-bits_of (b ∷ l) = let h = length-bits_of l in omega arith

pub bits_of-append : (x y : List ℕ) → bits_of (x ++ y) ≡ bits_of x ++ bits_of y
bits_of-append [] y = refl
bits_of-append (b ∷ x) y = ap (λ (w : Word). digits 8 b ++ w) (bits_of-append x y)

pub take-bits_of : (n : ℕ) (l : List ℕ) → take (8 * n) (bits_of l) ≡ bits_of (take n l)
take-bits_of zero l = refl
take-bits_of (suc n) [] = take-nil (8 * suc n)
take-bits_of (suc n) (b ∷ l) =
    ap (λ (k : ℕ). take k (digits 8 b ++ bits_of l)) (eight n) ∙ ap (λ (w : Word). digits 8 b ++ w) (take-bits_of n l)
  where
    eight : (n : ℕ) → 8 * suc n ≡ suc (suc (suc (suc (suc (suc (suc (suc (8 * n))))))))
    eight n = omega arith

-- the bytes of the bits of bytes are those bytes
pub bytes_of-append : (p : List ℕ) (n : ℕ) (t : Word) → Bytes p → bytes_of (length p + n) (bits_of p ++ t) ≡ p ++ bytes_of n t
bytes_of-append [] n t h = ap (λ (k : ℕ). bytes_of k t) (zero-add n)
bytes_of-append (b ∷ p) n t h =
    ap (λ (k : ℕ). bytes_of k (digits 8 b ++ bits_of p ++ t)) (suc-add (length p) n)
    ∙ ap₂ (λ (a : ℕ) (l : List ℕ). a ∷ l) (number_small 8 b h.0) (bytes_of-append p n t h.1)

-- and the bits of the bytes of bits are those bits
pub bits_of-bytes_of : (n : ℕ) (w : Word) → length w ≡ 8 * n → bits_of (bytes_of n w) ≡ w
bits_of-bytes_of zero [] e = refl
bits_of-bytes_of zero (b ∷ w) e = let z : ⊥ = omega arith in absurd z
bits_of-bytes_of (suc n) w e =
    ap₂ ◌++◌ eight (bits_of-bytes_of n (drop 8 w) (length-drop 8 w ∙ omega arith)) ∙ take-append-drop 8 w
  where
    eight : digits 8 (number (take 8 w)) ≡ take 8 w
    eight =
        let h : 8 ≡ length (take 8 w) = omega (arith, length-take 8 w) in
        ap (λ (k : ℕ). digits k (number (take 8 w))) h ∙ digits_number (take 8 w)

pub bytes-bytes_of : (n : ℕ) (w : Word) → Bytes (bytes_of n w)
bytes-bytes_of zero w = tt
bytes-bytes_of (suc n) w = (lt_of_lt_of_le (number_lt (take 8 w)) (pow_mono (short w)), bytes-bytes_of n (drop 8 w))
  where
    short : (w : Word) → length (take 8 w) ≤ 8
    short w = omega (arith, length-take 8 w)

pub length-bytes_of : (n : ℕ) (w : Word) → length (bytes_of n w) ≡ n
length-bytes_of zero w = refl
length-bytes_of (suc n) w = ap suc (length-bytes_of n (drop 8 w))

-- ---- bit k of byte q is bit 8 q + k
suc-eight : (q k : ℕ) → 8 * suc q + k ≡ 8 + (8 * q + k)
suc-eight q k = omega arith

pub get_or-bits_of : (l : List ℕ) (q k : ℕ) → q < length l → k < 8 → get_or (bits_of l) (8 * q + k) false ≡ bit k (get_or l q 0)
get_or-bits_of [] q k h j = absurd (not-suc-le-zero h)
get_or-bits_of (b ∷ l) zero k h j =
    ap (λ (i : ℕ). get_or (digits 8 b ++ bits_of l) i false) (zero-add k)
    ∙ get_or-append (digits 8 b) (bits_of l) false k j
    ∙ get_or-digits 8 b k j
get_or-bits_of (b ∷ l) (suc q) k h j =
    ap (λ (i : ℕ). get_or (digits 8 b ++ bits_of l) i false) (suc-eight q k)
    ∙ get_or-append-add (digits 8 b) (bits_of l) (8 * q + k) false
    ∙ get_or-bits_of l q k (le_of_suc-le-suc h) j

-- ---- exclusive or of bytes
pub bits_of-xor : (x y : List ℕ) → length x ≡ length y → bits_of (xor_bytes x y) ≡ bits_of x ⊕ bits_of y
bits_of-xor [] [] e = refl
bits_of-xor [] (b ∷ y) e = let z : ⊥ = omega arith in absurd z
bits_of-xor (a ∷ x) [] e = let z : ⊥ = omega arith in absurd z
bits_of-xor (a ∷ x) (b ∷ y) e =
    ap₂ ◌++◌ (digits-xor 8 a b) (bits_of-xor x y (suc_inj e))
    ∙ sym (xor-append (digits 8 a) (digits 8 b) (bits_of x) (bits_of y) refl)

-- the number of an exclusive or, of words of any lengths
number-xor : (x y : Word) → bit_xor (number x) (number y) ≡ number (x ⊕ y)
number-xor [] y = xor_zero_l (number y)
number-xor (a ∷ x) [] = xor_zero_r (number (a ∷ x))
number-xor (a ∷ x) (b ∷ y) =
    ap₂ bit_xor (low a x) (low b y)
    ∙ xor_block 1 (number x) (number y) (one a) (one b) (one-lt a) (one-lt b)
    ∙ ap (λ (n : ℕ). n * 2 + bit_xor (one a) (one b)) (number-xor x y)
    ∙ ap (λ (n : ℕ). number (x ⊕ y) * 2 + n) (both a b)
    ∙ sym (low (a ⊻ b) (x ⊕ y))
  where
    one : Bool → ℕ
    one false = 0
    one true = 1

    one-lt : (a : Bool) → one a < 2
    one-lt false = omega arith
    one-lt true = omega arith

    low : (a : Bool) (x : Word) → number (a ∷ x) ≡ number x * 2 + one a
    low false x = omega arith
    low true x = omega arith

    both : (a b : Bool) → bit_xor (one a) (one b) ≡ one (a ⊻ b)
    both false false = refl
    both false true = refl
    both true false = refl
    both true true = refl

pub xor_bytes-bytes_of : (n : ℕ) (x y : Word) → xor_bytes (bytes_of n x) (bytes_of n y) ≡ bytes_of n (x ⊕ y)
xor_bytes-bytes_of zero x y = refl
xor_bytes-bytes_of (suc n) x y =
    ap₂ (λ (a : ℕ) (l : List ℕ). a ∷ l)
    (number-xor (take 8 x) (take 8 y) ∙ ap number (sym (take-xor 8 x y)))
    (xor_bytes-bytes_of n (drop 8 x) (drop 8 y) ∙ ap (bytes_of n) (sym (drop-xor 8 x y)))

-- the exclusive or of the first i bytes, and the rest of the first list: what a loop has made after i turns
abbrev pub xor_first : ℕ → List ℕ → List ℕ → List ℕ
xor_first i x y = xor_bytes (take i x) (take i y) ++ drop i x

pub xor_first-step : (i : ℕ) (x y : List ℕ) → i < length x → length x ≡ length y
    → set (xor_first i x y) i (bit_xor (get_or (xor_first i x y) i 0) (get_or y i 0)) ≡ xor_first (suc i) x y
xor_first-step i [] y h e = absurd (not-suc-le-zero h)
xor_first-step i (a ∷ x) [] h e = let z : ⊥ = omega arith in absurd z
xor_first-step zero (a ∷ x) (b ∷ y) h e = refl
xor_first-step (suc i) (a ∷ x) (b ∷ y) h e =
    ap (λ (l : List ℕ). bit_xor a b ∷ l) (xor_first-step i x y (le_of_suc-le-suc h) (suc_inj e))

-- the same as a turn of that loop leaves it
pub xor_first-turn : (i : ℕ) (x y l : List ℕ) → i < length x → length x ≡ length y → l ≡ xor_first i x y
    → set l i (bit_xor (get_or l i 0) (get_or y i 0)) ≡ xor_first (i + 1) x y
xor_first-turn i x y l h e q =
    ap (λ (m : List ℕ). set m i (bit_xor (get_or m i 0) (get_or y i 0))) q
    ∙ xor_first-step i x y h e
    ∙ ap (λ (j : ℕ). xor_first j x y) (sym (add-one i))

pub xor_first-all : (n : ℕ) (x y : List ℕ) → length x ≡ n → length y ≡ n → xor_first n x y ≡ xor_bytes x y
xor_first-all n x y e f =
    ap₂ ◌++◌ (ap₂ xor_bytes (take_all n x (omega arith)) (take_all n y (omega arith))) (drop_of_length-le x {i = n} (omega arith))
    ∙ append-nil (xor_bytes x y)

pub length-xor_first : (i : ℕ) (x y : List ℕ) → length x ≡ length y → length (xor_first i x y) ≡ length x
length-xor_first zero x y e = refl
length-xor_first (suc i) [] y e = refl
length-xor_first (suc i) (a ∷ x) [] e = let z : ⊥ = omega arith in absurd z
length-xor_first (suc i) (a ∷ x) (b ∷ y) e = ap suc (length-xor_first i x y (suc_inj e))

pub length-xor_bytes : (x y : List ℕ) → length x ≡ length y → length (xor_bytes x y) ≡ length x
length-xor_bytes [] y e = refl
length-xor_bytes (a ∷ x) [] e = let z : ⊥ = omega arith in absurd z
length-xor_bytes (a ∷ x) (b ∷ y) e = ap suc (length-xor_bytes x y (suc_inj e))

-- ---- a bit turned over
flip-digits : (n k : ℕ) (w : Word) → length w ≡ n → k < n → w ⊕ digits n (2 ^ k) ≡ flip k w
flip-digits zero k w e h = absurd (not-suc-le-zero h)
flip-digits (suc n) k [] e h = let z : ⊥ = omega arith in absurd z
flip-digits (suc n) zero (a ∷ w) e h =
    ap (λ (x : Word). not a ∷ (w ⊕ x)) (digits-zero n) ∙ ap (λ (x : Word). not a ∷ x) (xor-zeros n w (omega arith))
flip-digits (suc n) (suc k) (a ∷ w) e h =
    ap₂ (λ (d : Bool) (x : Word). (a ⊻ d) ∷ x) (ap (λ (m : ℕ). eqb m 1) (even k))
    (ap (λ (m : ℕ). w ⊕ digits n m) (half k) ∙ flip-digits n k w (suc_inj e) (le_of_suc-le-suc h))
  where
    even : (k : ℕ) → 2 ^ suc k % 2 ≡ 0
    even k = omega arith

    half : (k : ℕ) → 2 ^ suc k / 2 ≡ 2 ^ k
    half k = omega arith

pub flip-bits_of : (l : List ℕ) (q k : ℕ) → q < length l → k < 8
    → bits_of (set l q (bit_xor (get_or l q 0) (2 ^ k))) ≡ flip (8 * q + k) (bits_of l)
flip-bits_of [] q k h j = absurd (not-suc-le-zero h)
flip-bits_of (b ∷ l) zero k h j =
    ap (λ (w : Word). w ++ bits_of l) (digits-xor 8 b (2 ^ k) ∙ flip-digits 8 k (digits 8 b) refl j)
    ∙ sym (flip-append k (digits 8 b) (bits_of l) j)
    ∙ ap (λ (i : ℕ). flip i (digits 8 b ++ bits_of l)) (sym (zero-add k))
flip-bits_of (b ∷ l) (suc q) k h j =
    ap (λ (w : Word). digits 8 b ++ w) (flip-bits_of l q k (le_of_suc-le-suc h) j)
    ∙ sym (flip-append-add (8 * q + k) (digits 8 b) (bits_of l))
    ∙ ap (λ (i : ℕ). flip i (digits 8 b ++ bits_of l)) (sym (suc-eight q k))
