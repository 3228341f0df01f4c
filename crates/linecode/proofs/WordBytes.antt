-- Bytes as a word, and the bytes of a line that are read one after the other.
use mathlib.Core.Path.{◌≡◌, refl, sym, ap, ap₂, ◌∙◌, subst}
use mathlib.Core.Bool.{true, false}
use mathlib.Core.List.{List, [], ◌∷◌, ◌++◌, append_assoc}
use Prim.Native.Nat.{ℕ, zero, suc, ◌+◌, ◌*◌, ◌≤◌, ◌<◌}
use native.Mathlib.Nat.{le_of_suc-le-suc, not-suc-le-zero}
use native.Mathlib.Numerals.{add-one}
use native.Mathlib.Omega.{arith}
use lib.Bits.{bit_xor}
use lib.ListN.{length, take, drop, get_or, length-drop}
use lib.Seq.{drop-cons, drop-drop, take-add, length-take-le}
use Rattle.gf2.specs.Word.{Word, digits, number}
use Rattle.gf2.specs.Check.{column_sum}
use Rattle.gf2.proofs.Digits.{number_small, number_append, digits_number}
use Rattle.linecode.specs.Places.{protected_places, bits_of, places}
use Rattle.linecode.specs.Code.{protected}
use Rattle.std.specs.Int.{w32, w64, from_le_bytes}
use Rattle.linecode.proofs.Bytes.{Bytes, byte_at, length-bits_of, bits_of-append, take-bits_of}
use Rattle.linecode.proofs.Line.{protected-is, protected-bits}

pub number-bytes : (b : ℕ) (l : List ℕ) → b < 256 → number (bits_of (b ∷ l)) ≡ b + 256 * number (bits_of l)
number-bytes b l h = number_append (digits 8 b) (bits_of l) ∙ ap (λ (n : ℕ). n + 256 * number (bits_of l)) (number_small 8 b h)

-- bytes as a number, the first byte lowest
abbrev value_of : List ℕ → ℕ
value_of [] = 0
value_of (b ∷ l) = b + 256 * value_of l

number-value : (l : List ℕ) → Bytes l → number (bits_of l) ≡ value_of l
number-value [] p = refl
number-value (b ∷ l) p = number-bytes b l p.0 ∙ ap (λ (n : ℕ). b + 256 * n) (number-value l p.1)

-- n bytes from byte i + k on, as they are read
abbrev pub read_from : ℕ → ℕ → ℕ → List ℕ → List ℕ
read_from zero k i l = []
read_from (suc n) k i l = get_or l (i + k) 0 ∷ read_from n (suc k) i l

read-from : (n k i : ℕ) (l : List ℕ) → i + k + n ≤ length l → take n (drop (i + k) l) ≡ read_from n k i l
read-from zero k i l h = refl
read-from (suc n) k i l h =
    ap (take (suc n)) (drop-cons l (i + k) 0 (omega arith))
    ∙ ap (λ (t : List ℕ). get_or l (i + k) 0 ∷ t)
    (ap (λ (j : ℕ). take n (drop j l)) (next k) ∙ read-from n (suc k) i l (omega arith))
  where
    next : (k : ℕ) → suc (i + k) ≡ i + suc k
    next k = omega arith

pub read_all : (n i : ℕ) (l : List ℕ) → i + 1 + n ≤ length l → take (suc n) (drop i l) ≡ get_or l i 0 ∷ read_from n 1 i l
read_all n i l h =
    ap (take (suc n)) (drop-cons l i 0 (omega arith))
    ∙ ap (λ (t : List ℕ). get_or l i 0 ∷ t) (ap (λ (j : ℕ). take n (drop j l)) (sym (add-one i)) ∙ read-from n 1 i l h)

-- four bytes of a line as the library reads them, and eight
module _ (i : ℕ) (l : List ℕ) (p : Bytes l) where
  at : (k : ℕ) → get_or l (i + k) 0 < 256
  at k = byte_at l (i + k) p

  pub half-read : i + 4 ≤ length l → from_le_bytes w32 (take 4 (drop i l)) ≡ number (bits_of (take 4 (drop i l)))
  half-read h =
      subst (λ (x : List ℕ). from_le_bytes w32 x ≡ number (bits_of x)) (sym (read_all 3 i l (omega arith)))
      (omega (arith, number-value (get_or l i 0 ∷ read_from 3 1 i l) (byte_at l i p, (at 1, (at 2, (at 3, tt))))))

  pub word-read : i + 8 ≤ length l → from_le_bytes w64 (take 8 (drop i l)) ≡ number (bits_of (take 8 (drop i l)))
  word-read h =
      subst (λ (x : List ℕ). from_le_bytes w64 x ≡ number (bits_of x)) (sym (read_all 7 i l (omega arith)))
      (omega (arith, number-value (get_or l i 0 ∷ read_from 7 1 i l) (byte_at l i p, (at 1, (at 2, (at 3, (at 4, (at 5, (at 6, (at 7, tt))))))))))

-- ---- the bits of a word that is made of bytes are those of the bytes
digits-bytes : (x : List ℕ) → digits (8 * length x) (number (bits_of x)) ≡ bits_of x
digits-bytes x = ap (λ (k : ℕ). digits k (number (bits_of x))) (sym (length-bits_of x)) ∙ digits_number (bits_of x)

-- ---- what is past the last column adds nothing to a sum of columns
pub sum-take : (n : ℕ) (cs : List ℕ) (w : Word) → length cs ≤ n → column_sum cs (take n w) ≡ column_sum cs w
sum-take n [] w h = refl
sum-take zero (c ∷ cs) w h = absurd (not-suc-le-zero h)
sum-take (suc n) (c ∷ cs) [] h = refl
sum-take (suc n) (c ∷ cs) (false ∷ w) h = sum-take n cs w (le_of_suc-le-suc h)
sum-take (suc n) (c ∷ cs) (true ∷ w) h = ap (bit_xor c) (sum-take n cs w (le_of_suc-le-suc h))

module _ (l : List ℕ) (whole : length l ≡ 70) where
  bytes_word : (n i d : ℕ) → i + n ≤ 70 → d ≡ number (bits_of (take n (drop i l))) → digits (8 * n) d ≡ bits_of (take n (drop i l))
  bytes_word n i d h e =
      ap₂ digits (ap (λ (m : ℕ). 8 * m) (sym count)) e ∙ digits-bytes (take n (drop i l))
    where
      count : length (take n (drop i l)) ≡ n
      count = length-take-le n (drop i l) (omega (arith, length-drop i l))

  -- a word before others, and what follows them
  pub word-before : (i m d : ℕ) (rest tail : Word) → i + 8 ≤ 70 → d ≡ number (bits_of (take 8 (drop i l)))
      → rest ≡ bits_of (take m (drop (i + 8) l)) ++ tail → digits 64 d ++ rest ≡ bits_of (take (8 + m) (drop i l)) ++ tail
  word-before i m d rest tail h e f =
      ap₂ ◌++◌ (bytes_word 8 i d h e) (f ∙ ap (λ (x : List ℕ). bits_of (take m x) ++ tail) (sym (drop-drop 8 i l)))
      ∙ sym (append_assoc (bits_of (take 8 (drop i l))) (bits_of (take m (drop 8 (drop i l)))) tail)
      ∙ ap (λ (w : Word). w ++ tail)
      (sym (bits_of-append (take 8 (drop i l)) (take m (drop 8 (drop i l))))
      ∙ ap bits_of (sym (take-add 8 m (drop i l))))

  -- the data before four bytes
  pub last-half : (d : ℕ) → d ≡ number (bits_of (take 4 (drop 64 l)))
      → bits_of (take 64 l) ++ digits 32 d ≡ bits_of (take 68 l)
  last-half d e =
      ap (λ (w : Word). bits_of (take 64 l) ++ w)
      (bytes_word 4 64 d (omega arith) e)
      ∙ sym (ap bits_of (take-add 64 4 l) ∙ bits_of-append (take 64 l) (take 4 (drop 64 l)))

  pub protected-sum : (cs : List ℕ) → length cs ≡ 543 → column_sum cs (bits_of (take 68 l)) ≡ column_sum cs (protected (places l))
  protected-sum cs e =
      ap (column_sum cs) (sym (take-bits_of 68 l))
      ∙ sum-take (8 * 68) cs (bits_of l) (omega arith)
      ∙ sym (sum-take protected_places cs (bits_of l) (omega (arith, protected-is)))
      ∙ ap (column_sum cs) (sym (protected-bits l whole))
