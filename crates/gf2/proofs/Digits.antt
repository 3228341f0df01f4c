-- Numbers and the words of their binary digits, lowest first.
use mathlib.Core.Path.{◌≡◌, refl, sym, ap, ap₂, ◌∙◌}
use mathlib.Core.Bool.{Bool, true, false}
use mathlib.Core.List.{[], ◌∷◌, ◌++◌}
use Prim.Native.Nat.{ℕ, zero, suc, ◌+◌, ◌*◌, ◌/◌, ◌%◌, ◌^◌, ◌<◌}
use native.Mathlib.Nat.{le_of_suc-le-suc, not-suc-le-zero, zero-add, suc-add, pow-suc, mod-eq_of_lt}
use native.Mathlib.Omega.{arith}
use lib.Arith.{bin_ind, mod-mul}
use lib.Bits.{bit_xor, differ, xor_step, xor_shr, xor_add_and, and_le_l, and_le_r, xor_comm}
use lib.Dec.{eqb}
use lib.ListN.{length, get_or}
use lib.Pow.{pow_pos, shr-shr}
use Rattle.gf2.specs.Word.{Word, ◌⊻◌, ◌⊕◌, zeros, digits, number}
use Rattle.gf2.specs.Check.{bit, DigitsAreBits}

pub length_digits : (k n : ℕ) → length (digits k n) ≡ k
length_digits zero n = refl
length_digits (suc k) n = ap suc (length_digits k (n / 2))

pub digits-zero : (k : ℕ) → digits k 0 ≡ zeros k
digits-zero zero = refl
digits-zero (suc k) = ap (λ (w : Word). false ∷ w) (digits-zero k)

-- ---- the digits of an exclusive or
differ-digit : (x y : ℕ) → x < 2 → y < 2 → (differ x y < 2) × (eqb (differ x y) 1 ≡ eqb x 1 ⊻ eqb y 1)
differ-digit zero zero h k = (omega arith, refl)
differ-digit zero (suc zero) h k = (omega arith, refl)
differ-digit zero (suc (suc y)) h k = let z : ⊥ = omega arith in absurd z
differ-digit (suc zero) zero h k = (omega arith, refl)
differ-digit (suc zero) (suc zero) h k = (omega arith, refl)
differ-digit (suc zero) (suc (suc y)) h k = let z : ⊥ = omega arith in absurd z
differ-digit (suc (suc x)) y h k = let z : ⊥ = omega arith in absurd z

pub low-differ : (a b : ℕ) → bit_xor a b % 2 ≡ differ (a % 2) (b % 2)
low-differ a b =
    let d = differ-digit (a % 2) (b % 2) (omega arith) (omega arith) in
    let s = xor_step a b in
    let small : differ (a % 2) (b % 2) < 2 = d.0 in
    omega arith

half-xor : (a b : ℕ) → bit_xor a b / 2 ≡ bit_xor (a / 2) (b / 2)
half-xor a b = xor_shr a b 1

pub low-xor : (a b : ℕ) → eqb (bit_xor a b % 2) 1 ≡ eqb (a % 2) 1 ⊻ eqb (b % 2) 1
low-xor a b =
    ap (λ (n : ℕ). eqb n 1) (low-differ a b)
    ∙ (differ-digit (a % 2) (b % 2) (omega arith) (omega arith)).1

pub digits-xor : (k a b : ℕ) → digits k (bit_xor a b) ≡ digits k a ⊕ digits k b
digits-xor zero a b = refl
digits-xor (suc k) a b =
    ap₂ (λ (c : Bool) (w : Word). c ∷ w) (low-xor a b)
    (ap (digits k) (half-xor a b) ∙ digits-xor k (a / 2) (b / 2))

differ-assoc : (x y z : ℕ) → x < 2 → y < 2 → z < 2 → differ (differ x y) z ≡ differ x (differ y z)
differ-assoc zero y z hx hy hz = refl
differ-assoc (suc zero) zero z hx hy hz = refl
differ-assoc (suc zero) (suc zero) zero hx hy hz = refl
differ-assoc (suc zero) (suc zero) (suc zero) hx hy hz = refl
differ-assoc (suc zero) (suc zero) (suc (suc z)) hx hy hz = let e : ⊥ = omega arith in absurd e
differ-assoc (suc zero) (suc (suc y)) z hx hy hz = let e : ⊥ = omega arith in absurd e
differ-assoc (suc (suc x)) y z hx hy hz = let e : ⊥ = omega arith in absurd e

-- numbers whose exclusive or is 0 are equal
pub bit_xor-zero : (a b : ℕ) → bit_xor a b ≡ 0 → a ≡ b
bit_xor-zero a b e = omega (arith, xor_add_and a b, and_le_l a b, and_le_r a b)

pub bit_xor-assoc : (a b c : ℕ) → bit_xor (bit_xor a b) c ≡ bit_xor a (bit_xor b c)
bit_xor-assoc =
    bin_ind (λ (a : ℕ). (b c : ℕ) → bit_xor (bit_xor a b) c ≡ bit_xor a (bit_xor b c)) (λ b c. refl) step
  where
    step : (a : ℕ) → ((b c : ℕ) → bit_xor (bit_xor (a / 2) b) c ≡ bit_xor (a / 2) (bit_xor b c))
        → (b c : ℕ) → bit_xor (bit_xor a b) c ≡ bit_xor a (bit_xor b c)
    step a ih b c =
        xor_step (bit_xor a b) c
        ∙ ap₂ (λ (x y : ℕ). x * 2 + y)
        (ap (λ (x : ℕ). bit_xor x (c / 2)) (half-xor a b) ∙ ih (b / 2) (c / 2)
        ∙ ap (bit_xor (a / 2)) (sym (half-xor b c)))
        (ap (λ (x : ℕ). differ x (c % 2)) (low-differ a b)
        ∙ differ-assoc (a % 2) (b % 2) (c % 2) (omega arith) (omega arith) (omega arith)
        ∙ ap (differ (a % 2)) (sym (low-differ b c)))
        ∙ sym (xor_step a (bit_xor b c))

pub bit_xor-middle : (a b c d : ℕ) → bit_xor (bit_xor a b) (bit_xor c d) ≡ bit_xor (bit_xor a c) (bit_xor b d)
bit_xor-middle a b c d =
    bit_xor-assoc a b (bit_xor c d)
    ∙ ap (bit_xor a) (sym (bit_xor-assoc b c d) ∙ ap (λ (n : ℕ). bit_xor n d) (xor_comm b c) ∙ bit_xor-assoc c b d)
    ∙ sym (bit_xor-assoc a c (bit_xor b d))

-- ---- digits and number undo one another
number-cons : (n : ℕ) (w : Word) → number (eqb (n % 2) 1 ∷ w) ≡ number w * 2 + n % 2
number-cons n w = go (n % 2) (omega arith)
  where
    go : (d : ℕ) → d < 2 → number (eqb d 1 ∷ w) ≡ number w * 2 + d
    go zero h = omega arith
    go (suc zero) h = omega arith
    go (suc (suc d)) h = let e : ⊥ = omega arith in absurd e

pub number_digits : (k n : ℕ) → number (digits k n) ≡ n % 2 ^ k
number_digits zero n = omega arith
number_digits (suc k) n =
    number-cons n (digits k (n / 2))
    ∙ ap (λ (m : ℕ). m * 2 + n % 2) (number_digits k (n / 2))
    ∙ sym (mod-mul n (pow_pos k) (omega arith))
    ∙ ap (λ (m : ℕ). n % m) (sym (pow-suc 2 k))

pub number_lt : (w : Word) → number w < 2 ^ length w
number_lt [] = omega arith
number_lt (false ∷ w) = let h = number_lt w in rw pow-suc (omega arith)
number_lt (true ∷ w) = let h = number_lt w in rw pow-suc (omega arith)

pub digits_number : (w : Word) → digits (length w) (number w) ≡ w
digits_number [] = refl
digits_number (false ∷ w) =
    ap₂ (λ (c : Bool) (x : Word). c ∷ x) (ap (λ (n : ℕ). eqb n 1) (low (number w)))
    (ap (digits (length w)) (half (number w)) ∙ digits_number w)
  where
    low : (n : ℕ) → 2 * n % 2 ≡ 0
    low n = omega arith

    half : (n : ℕ) → 2 * n / 2 ≡ n
    half n = omega arith
digits_number (true ∷ w) =
    ap₂ (λ (c : Bool) (x : Word). c ∷ x) (ap (λ (n : ℕ). eqb n 1) (low (number w)))
    (ap (digits (length w)) (half (number w)) ∙ digits_number w)
  where
    low : (n : ℕ) → suc (2 * n) % 2 ≡ 1
    low n = omega arith

    half : (n : ℕ) → suc (2 * n) / 2 ≡ n
    half n = omega arith

-- the k low digits of a number are those of its remainder by 2^k
pub digits_mod : (k n : ℕ) → digits k (n % 2 ^ k) ≡ digits k n
digits_mod k n =
    ap (digits k) (sym (number_digits k n))
    ∙ ap (λ (j : ℕ). digits j (number (digits k n))) (sym (length_digits k n))
    ∙ digits_number (digits k n)

pub number_small : (k n : ℕ) → n < 2 ^ k → number (digits k n) ≡ n
number_small k n h = number_digits k n ∙ mod-eq_of_lt h

-- the digits from j on are those of the number divided by 2^j
pub digits-add : (j k n : ℕ) → digits (j + k) n ≡ digits j n ++ digits k (n / 2 ^ j)
digits-add zero k n = ap₂ digits (zero-add k) (one n)
  where
    one : (n : ℕ) → n ≡ n / 1
    one n = omega arith
digits-add (suc j) k n =
    ap (λ (i : ℕ). digits i n) (suc-add j k)
    ∙ ap (λ (w : Word). eqb (n % 2) 1 ∷ w)
    (digits-add j k (n / 2)
    ∙ ap (λ (m : ℕ). digits j (n / 2) ++ digits k m)
    (shr-shr n 1 j ∙ ap (λ (i : ℕ). n / 2 ^ i) (suc-add 0 j ∙ ap suc (zero-add j))))

-- digit i of a number is its bit i
pub get_or-digits : (k n i : ℕ) → i < k → get_or (digits k n) i false ≡ bit i n
get_or-digits zero n i h = absurd (not-suc-le-zero h)
get_or-digits (suc k) n zero h = ap (λ (m : ℕ). eqb (m % 2) 1) (one n)
  where
    one : (n : ℕ) → n ≡ n / 1
    one n = omega arith
get_or-digits (suc k) n (suc i) h =
    get_or-digits k (n / 2) i (le_of_suc-le-suc h)
    ∙ ap (λ (m : ℕ). eqb (m % 2) 1) (shr-shr n 1 i ∙ ap (λ (j : ℕ). n / 2 ^ j) (suc-add 0 i ∙ ap suc (zero-add i)))

pub digits_are_bits : DigitsAreBits
digits_are_bits = get_or-digits

pub number_append : (x y : Word) → number (x ++ y) ≡ number x + 2 ^ length x * number y
number_append [] y = omega arith
number_append (false ∷ x) y = let h = number_append x y in rw pow-suc (omega arith)
number_append (true ∷ x) y = let h = number_append x y in rw pow-suc (omega arith)
