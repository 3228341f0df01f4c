-- Functions of words, as numbers of 64 bits, that are linear over exclusive or: such a function is known from its values at
-- the single bits, and these are computed.
use mathlib.Core.Path.{◌≡◌, refl, sym, ap, ap₂, ◌∙◌, fun_ext}
use mathlib.Core.Bool.{Bool, true, false, ◌&&◌}
use mathlib.Core.List.{List, [], ◌∷◌, ◌++◌}
use Prim.Native.Nat.{ℕ, zero, suc, ◌+◌, ◌*◌, ◌/◌, ◌%◌, ◌^◌, ◌≤◌, ◌<◌, min}
use native.Mathlib.Nat.{le_of_suc-le-suc, not-suc-le-zero, add-zero, zero-mul, mul-one, mod-lt}
use native.Mathlib.Omega.{arith}
use lib.Arith.{bin_ind}
use lib.Bits.{bit_and, bit_xor, differ, and_step, xor_step, and_shr, xor_shr, xor_mod, and_block, xor_block, xor_comm, xor_self, xor_shifted, and_zero_r, xor_zero_r}
use lib.Dec.{T, eqb, eqb→eq}
use lib.ListN.{length, take, drop, get_or, length-drop, take-append-drop}
use lib.Pow.{pow_pos, split}
use lib.Seq.{length-take-le}
use Rattle.gf2.specs.Word.{Word, digits, number}
use Rattle.gf2.specs.Check.{column_sum}
use Rattle.gf2.proofs.Digits.{length_digits, digits-xor, number_small, bit_xor-middle, low-differ}
use Rattle.gf2.proofs.Hamming.{column_sum-xor, column_sum-append}
use Rattle.linecode.proofs.Positions.{and_parts}

-- ---- exclusive or passes through masks and shifts
-- what is said of all pairs of digits, tried at the four
on-digits : (P : ℕ → ℕ → Type 0) → P 0 0 → P 0 1 → P 1 0 → P 1 1 → (x y : ℕ) → x < 2 → y < 2 → P x y
on-digits P a b c d zero zero h k = a
on-digits P a b c d zero (suc zero) h k = b
on-digits P a b c d (suc zero) zero h k = c
on-digits P a b c d (suc zero) (suc zero) h k = d
on-digits P a b c d zero (suc (suc y)) h k = let z : ⊥ = omega arith in absurd z
on-digits P a b c d (suc zero) (suc (suc y)) h k = let z : ⊥ = omega arith in absurd z
on-digits P a b c d (suc (suc x)) y h k = let z : ⊥ = omega arith in absurd z

low_and : (a b : ℕ) → bit_and a b % 2 ≡ min (a % 2) (b % 2)
low_and a b =
    let s = and_step a b in
    let small = on-digits (λ x y. min x y < 2) (omega arith) (omega arith) (omega arith) (omega arith) (a % 2) (b % 2) (omega arith) (omega arith) in
    omega arith

masks : (x y m : ℕ) → x < 2 → y < 2 → m < 2 → min (differ x y) m ≡ differ (min x m) (min y m)
masks x y zero hx hy h = on-digits (λ x y. min (differ x y) 0 ≡ differ (min x 0) (min y 0)) refl refl refl refl x y hx hy
masks x y (suc zero) hx hy h = on-digits (λ x y. min (differ x y) 1 ≡ differ (min x 1) (min y 1)) refl refl refl refl x y hx hy
masks x y (suc (suc m)) hx hy h = let z : ⊥ = omega arith in absurd z

pub and_xor : (a b m : ℕ) → bit_and (bit_xor a b) m ≡ bit_xor (bit_and a m) (bit_and b m)
and_xor =
    bin_ind (λ (a : ℕ). (b m : ℕ) → bit_and (bit_xor a b) m ≡ bit_xor (bit_and a m) (bit_and b m)) (λ b m. refl) step
  where
    step : (a : ℕ) → ((b m : ℕ) → bit_and (bit_xor (a / 2) b) m ≡ bit_xor (bit_and (a / 2) m) (bit_and b m))
        → (b m : ℕ) → bit_and (bit_xor a b) m ≡ bit_xor (bit_and a m) (bit_and b m)
    step a ih b m =
        and_step (bit_xor a b) m
        ∙ ap₂ (λ (x y : ℕ). x * 2 + y)
        (ap (λ (x : ℕ). bit_and x (m / 2)) (xor_shr a b 1) ∙ ih (b / 2) (m / 2)
        ∙ ap₂ bit_xor (sym (and_shr a m 1)) (sym (and_shr b m 1)))
        (ap (λ (x : ℕ). min x (m % 2)) (low-differ a b)
        ∙ masks (a % 2) (b % 2) (m % 2) (omega arith) (omega arith) (omega arith)
        ∙ ap₂ differ (sym (low_and a m)) (sym (low_and b m)))
        ∙ sym (xor_step (bit_and a m) (bit_and b m))

pub shl-xor : (a b k : ℕ) → bit_xor a b * 2 ^ k ≡ bit_xor (a * 2 ^ k) (b * 2 ^ k)
shl-xor a b k =
    sym (ap₂ bit_xor (sym (add-zero (a * 2 ^ k))) (sym (add-zero (b * 2 ^ k)))
    ∙ xor_block k a b 0 0 (pow_pos k) (pow_pos k)
    ∙ add-zero (bit_xor a b * 2 ^ k))

-- ---- words side by side
-- added word by word; where one list is longer, its further words stand as they are
abbrev pub together : List ℕ → List ℕ → List ℕ
together [] y = y
together (a ∷ x) [] = a ∷ x
together (a ∷ x) (b ∷ y) = bit_xor a b ∷ together x y

abbrev pub Words : List ℕ → Type 0
Words [] = Unit {0}
Words (d ∷ ds) = (d < 2 ^ 64) × Words ds

-- the bits of some words, and others after them
abbrev pub joined : List ℕ → Word → Word
joined [] t = t
joined (d ∷ ds) t = digits 64 d ++ joined ds t

-- ---- linear functions of words, made from one another
pub record Linear (F : List ℕ → ℕ) : Type 0 where
  pub adds : (x y : List ℕ) → F (together x y) ≡ bit_xor (F x) (F y)

pub lin_at : (j : ℕ) → Linear (λ (d : List ℕ). get_or d j 0)
lin_at j = record { adds = go j }
  where
    go : (j : ℕ) (x y : List ℕ) → get_or (together x y) j 0 ≡ bit_xor (get_or x j 0) (get_or y j 0)
    go j [] y = refl
    go j (a ∷ x) [] = sym (xor_zero_r (get_or (a ∷ x) j 0))
    go zero (a ∷ x) (b ∷ y) = refl
    go (suc j) (a ∷ x) (b ∷ y) = go j x y

pub lin_and : {f : List ℕ → ℕ} (m : ℕ) → Linear f → Linear (λ (d : List ℕ). bit_and (f d) m)
lin_and {f} m l = record { adds = λ x y. ap (λ (n : ℕ). bit_and n m) (l.adds x y) ∙ and_xor (f x) (f y) m }

pub lin_shr : {f : List ℕ → ℕ} (k : ℕ) → Linear f → Linear (λ (d : List ℕ). f d / 2 ^ k)
lin_shr {f} k l = record { adds = λ x y. ap (λ (n : ℕ). n / 2 ^ k) (l.adds x y) ∙ xor_shr (f x) (f y) k }

pub lin_shl : {f : List ℕ → ℕ} (k j : ℕ) → Linear f → Linear (λ (d : List ℕ). f d * 2 ^ k % 2 ^ j)
lin_shl {f} k j l =
    record {
      adds =
          λ x y. ap (λ (n : ℕ). n * 2 ^ k % 2 ^ j) (l.adds x y)
          ∙ ap (λ (n : ℕ). n % 2 ^ j) (shl-xor (f x) (f y) k)
          ∙ xor_mod (f x * 2 ^ k) (f y * 2 ^ k) j;
    }

pub lin_xor : {f g : List ℕ → ℕ} → Linear f → Linear g → Linear (λ (d : List ℕ). bit_xor (f d) (g d))
lin_xor {f} {g} l m =
    record { adds = λ x y. ap₂ bit_xor (l.adds x y) (m.adds x y) ∙ bit_xor-middle (f x) (f y) (g x) (g y) }

-- a sum of columns over the bits of a word
pub lin_columns : {f : List ℕ → ℕ} (cs : List ℕ) (k : ℕ) → Linear f → Linear (λ (d : List ℕ). column_sum cs (digits k (f d)))
lin_columns {f} cs k l =
    record {
      adds =
          λ x y. ap (λ (n : ℕ). column_sum cs (digits k n)) (l.adds x y)
          ∙ ap (column_sum cs) (digits-xor k (f x) (f y))
          ∙ column_sum-xor cs (digits k (f x)) (digits k (f y));
    }

-- ---- the test of one word: at each bit, from the one that is p on, the value is that bit's column
abbrev pub bits_are : (ℕ → ℕ) → ℕ → List ℕ → Bool
bits_are f p [] = true
bits_are f p (c ∷ cs) = eqb (f p) c && bits_are f (2 * p) cs

twice : (n p : ℕ) → 2 * n * p ≡ n * (2 * p)
twice n p = omega arith

once : (n p : ℕ) → suc (2 * n) * p ≡ n * (2 * p) + p
once n p = omega arith

next : (i p : ℕ) → p ≡ 2 ^ i → 2 * p ≡ 2 ^ suc i
next i p e = omega arith

less-next : (i p : ℕ) → p ≡ 2 ^ i → p < 2 ^ suc i
less-next i p e = let h = pow_pos i in omega arith

module _ (f : ℕ → ℕ) (lin : (a b : ℕ) → f (bit_xor a b) ≡ bit_xor (f a) (f b)) where
  none : (p : ℕ) → f (0 * p) ≡ 0
  none p = ap f (zero-mul p) ∙ lin 0 0 ∙ xor_self (f 0)

  bits-sum : (i p : ℕ) (cs : List ℕ) (w : Word) → p ≡ 2 ^ i → T (bits_are f p cs) → length w ≤ length cs
      → f (number w * p) ≡ column_sum cs w
  bits-sum i p [] [] e t h = none p
  bits-sum i p [] (b ∷ w) e t h = absurd (not-suc-le-zero h)
  bits-sum i p (c ∷ cs) [] e t h = none p
  bits-sum i p (c ∷ cs) (false ∷ w) e t h =
      ap f (twice (number w) p)
      ∙ bits-sum (suc i) (2 * p) cs w (next i p e) (and_parts (eqb (f p) c) (bits_are f (2 * p) cs) t).1 (le_of_suc-le-suc h)
  bits-sum i p (c ∷ cs) (true ∷ w) e t h =
      ap f (apart (number w))
      ∙ lin p (number w * (2 * p))
      ∙ ap₂ bit_xor (eqb→eq (f p) c (and_parts (eqb (f p) c) (bits_are f (2 * p) cs) t).0)
      (bits-sum (suc i) (2 * p) cs w (next i p e) (and_parts (eqb (f p) c) (bits_are f (2 * p) cs) t).1 (le_of_suc-le-suc h))
    where
      apart : (n : ℕ) → suc (2 * n) * p ≡ bit_xor p (n * (2 * p))
      apart n =
          once n p
          ∙ ap (λ (q : ℕ). n * q + p) (next i p e)
          ∙ sym (xor_shifted n (suc i) p (less-next i p e))
          ∙ xor_comm (n * 2 ^ suc i) p
          ∙ ap (λ (q : ℕ). bit_xor p (n * q)) (sym (next i p e))

  -- the value at a word of k bits
  pub word_sum : (k d : ℕ) (cs : List ℕ) → d < 2 ^ k → T (bits_are f 1 cs) → k ≤ length cs → f d ≡ column_sum cs (digits k d)
  word_sum k d cs h t l =
      ap f (sym (number_small k d h) ∙ sym (mul-one (number (digits k d))))
      ∙ bits-sum 0 1 cs (digits k d) refl t (omega (arith, length_digits k d))

-- ---- the test of some words and a last one
abbrev pub words_are : ℕ → (List ℕ → ℕ) → List ℕ → Bool
words_are zero F cs = bits_are (λ (d : ℕ). F (d ∷ [])) 1 cs
words_are (suc n) F cs =
    bits_are (λ (d : ℕ). F (d ∷ [])) 1 (take 64 cs) && words_are n (λ (ds : List ℕ). F (0 ∷ ds)) (drop 64 cs)

pub words-sum : (F : List ℕ → ℕ) → Linear F → (cs ds : List ℕ) (k c : ℕ) → T (words_are (length ds) F cs)
    → 64 * length ds + k ≤ length cs → Words ds → c < 2 ^ k → F (ds ++ (c ∷ [])) ≡ column_sum cs (joined ds (digits k c))
words-sum F l cs [] k c t h ws less =
    word_sum (λ (d : ℕ). F (d ∷ [])) (λ a b. l.adds (a ∷ []) (b ∷ [])) k c cs less t (omega arith)
words-sum F l cs (d ∷ ds) k c t h ws less =
    ap (λ (a : ℕ). F (a ∷ ds ++ (c ∷ []))) (sym (xor_zero_r d))
    ∙ l.adds (d ∷ []) (0 ∷ ds ++ (c ∷ []))
    ∙ ap₂ bit_xor
    (word_sum (λ (d : ℕ). F (d ∷ [])) (λ a b. l.adds (a ∷ []) (b ∷ [])) 64 d (take 64 cs) ws.0 p.0 (omega (arith, first)))
    (words-sum (λ (ds : List ℕ). F (0 ∷ ds)) (record { adds = λ x y. l.adds (0 ∷ x) (0 ∷ y) }) (drop 64 cs) ds k c p.1
    (omega (arith, length-drop 64 cs)) ws.1 less)
    ∙ sym (column_sum-append (take 64 cs) (drop 64 cs) (digits 64 d) (joined ds (digits k c)) (first ∙ sym (length_digits 64 d)))
    ∙ ap (λ (l : List ℕ). column_sum l (digits 64 d ++ joined ds (digits k c))) (take-append-drop 64 cs)
  where
    first : length (take 64 cs) ≡ 64
    first = length-take-le 64 cs (omega arith)

    p : T (bits_are (λ (d : ℕ). F (d ∷ [])) 1 (take 64 cs)) × T (words_are (length ds) (λ (ds : List ℕ). F (0 ∷ ds)) (drop 64 cs))
    p =
        and_parts (bits_are (λ (d : ℕ). F (d ∷ [])) 1 (take 64 cs))
        (words_are (length ds) (λ (ds : List ℕ). F (0 ∷ ds)) (drop 64 cs)) t

-- ---- for the tests: exclusive or and masks that take few steps where few bits are set. A zero is answered at once, and
-- other numbers are halved, at 32 bits, then at 16, and so on
module _ (op : ℕ → ℕ → ℕ) (left right : ℕ → ℕ) where
  abbrev halving : ℕ → ℕ → ℕ → ℕ
  halving zero a b = op a b
  halving (suc n) zero b = left b
  halving (suc n) (suc a) zero = right (suc a)
  halving (suc n) (suc a) (suc b) =
      let m = 2 ^ (2 ^ n) in halving n (suc a / m) (suc b / m) * m + halving n (suc a % m) (suc b % m)

  module _ (left_is : (b : ℕ) → left b ≡ op 0 b) (right_is : (a : ℕ) → right a ≡ op a 0)
      (block : (k a b r s : ℕ) → r < 2 ^ k → s < 2 ^ k → op (a * 2 ^ k + r) (b * 2 ^ k + s) ≡ op a b * 2 ^ k + op r s)
    where
      halving-is : (n a b : ℕ) → halving n a b ≡ op a b
      halving-is zero a b = refl
      halving-is (suc n) zero b = left_is b
      halving-is (suc n) (suc a) zero = right_is (suc a)
      halving-is (suc n) (suc a) (suc b) =
          ap₂ (λ (x y : ℕ). x * 2 ^ (2 ^ n) + y)
          (halving-is n (suc a / 2 ^ (2 ^ n)) (suc b / 2 ^ (2 ^ n))) (halving-is n (suc a % 2 ^ (2 ^ n)) (suc b % 2 ^ (2 ^ n)))
          ∙ sym (block (2 ^ n) (suc a / 2 ^ (2 ^ n)) (suc b / 2 ^ (2 ^ n)) (suc a % 2 ^ (2 ^ n)) (suc b % 2 ^ (2 ^ n))
          (mod-lt (suc a) (pow_pos (2 ^ n))) (mod-lt (suc b) (pow_pos (2 ^ n))))
          ∙ ap₂ op (split (suc a) (2 ^ n)) (split (suc b) (2 ^ n))

abbrev pub quick_xor : ℕ → ℕ → ℕ
quick_xor a b = halving bit_xor (λ n. n) (λ n. n) 6 a b

abbrev pub quick_and : ℕ → ℕ → ℕ
quick_and a b = halving bit_and (λ n. 0) (λ n. 0) 6 a b

pub quick-xor : quick_xor ≡ bit_xor
quick-xor =
    fun_ext (λ a. fun_ext (λ b. halving-is bit_xor (λ n. n) (λ n. n) (λ n. refl) (λ n. sym (xor_zero_r n)) xor_block 6 a b))

pub quick-and : quick_and ≡ bit_and
quick-and =
    fun_ext (λ a. fun_ext (λ b. halving-is bit_and (λ n. 0) (λ n. 0) (λ n. refl) (λ n. sym (and_zero_r n)) and_block 6 a b))
