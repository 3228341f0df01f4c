-- A line's places and its code: the parts of a line, when it is accepted, and what writing gives.
use mathlib.Core.Path.{◌≡◌, refl, sym, ap, ap₂, ◌∙◌, subst}
use mathlib.Core.Bool.{Bool, true, false, ◌&&◌}
use mathlib.Core.List.{List, [], ◌∷◌, ◌++◌, append_assoc}
use Prim.Native.Nat.{ℕ, ◌+◌, ◌/◌, ◌%◌, ◌^◌, ◌≤◌, ◌<◌}
use native.Mathlib.Omega.{arith}
use lib.Dec.{T, eqb}
use lib.ListN.{length, take, length-append, length-drop, take-append-drop}
use lib.Seq.{length-take-le, take-take, take_at, take-append-add, sets}
use Rattle.gf2.specs.Word.{Word, digits, number, flip, same}
use Rattle.gf2.specs.Check.{divisible, crc, column_sum}
use Rattle.gf2.specs.Generator.{generator}
use Rattle.gf2.proofs.Digits.{length_digits, number_small, number_lt, digits_number}
use Rattle.gf2.proofs.Same.{same_refl, same-equal, same-append, same-comm, same_number}
use Rattle.gf2.proofs.Crc.{length-crc, divisible-crc}
use Rattle.gf2.proofs.Weight.{take-flip, flip-past}
use Rattle.linecode.specs.Places.{data_places, protected_places, line_places, bits_of, places, line_of}
use Rattle.linecode.specs.Code.{protected, data_of, stored_crc, stored_hamming, accepted, positions, hamming, with_crc, with_hamming}
use Rattle.linecode.specs.Code.{codeword, is_correct}
use Rattle.linecode.proofs.Bytes.{Bytes}
use Rattle.linecode.proofs.Line.{protected-is, data_is, places_is, data_of-line, length-places}
use Rattle.linecode.proofs.Positions.{length-positions, hamming-digits, with_hamming-digits, position-sum-lt}
use Rattle.linecode.proofs.Stores.{stored-all}
use Rattle.linecode.proofs.WordBytes.{sum-take}
use Rattle.register.proofs.Slicing.{length-generator}

-- ---- the CRC as a number
pub crc-number-lt : (d : Word) → number (crc generator d) < 2147483648
crc-number-lt d =
    subst (λ (k : ℕ). number (crc generator d) < 2 ^ k) (length-crc generator d ∙ length-generator) (number_lt (crc generator d))

pub crc-digits : (d : Word) → digits 31 (number (crc generator d)) ≡ crc generator d
crc-digits d =
    ap (λ (k : ℕ). digits k (number (crc generator d))) (sym (length-crc generator d ∙ length-generator))
    ∙ digits_number (crc generator d)

-- ---- the parts of a line
module _ (w : Word) (whole : length w ≡ line_places) where
  long : length w ≡ 553
  long = whole ∙ places_is

  pub length-protected : length (protected w) ≡ protected_places
  unfolding protected
  length-protected = length-take-le protected_places w (omega (arith, protected-is, long))

  pub length-data_of : length (data_of w) ≡ data_places
  unfolding data_of
  length-data_of = length-take-le data_places w (omega (arith, data_is, long))

  pub length-stored_crc : length (stored_crc w) ≡ length generator
  unfolding stored_crc
  length-stored_crc =
      length-drop data_places (protected w) ∙ omega (arith, length-protected, data_is, protected-is, length-generator)

  pub length-stored_hamming : length (stored_hamming w) ≡ 10
  unfolding stored_hamming
  length-stored_hamming = length-drop protected_places w ∙ omega (arith, protected-is, long)

  pub protected-parts : protected w ≡ data_of w ++ stored_crc w
  unfolding protected data_of stored_crc
  protected-parts =
      sym (take-append-drop data_places (protected w))
      ∙ ap (λ (d : Word). d ++ stored_crc w) (take-take data_places protected_places w (omega (arith, data_is, protected-is)))

  -- a flip past the protected places leaves them
  pub protected-flip : (i : ℕ) → protected_places ≤ i → protected (flip i w) ≡ protected w
  unfolding protected
  protected-flip i h = take-flip protected_places i w ∙ flip-past i (protected w) (omega (arith, length-protected))

  pub line-parts : w ≡ protected w ++ stored_hamming w
  unfolding protected stored_hamming
  line-parts = sym (take-append-drop protected_places w)

  -- the word is divisible exactly where the CRC of the data is the stored one
  pub accepted-crc : accepted w ≡ same (crc generator (data_of w)) (stored_crc w)
  unfolding accepted
  accepted-crc = ap (divisible generator) protected-parts ∙ divisible-crc generator (data_of w) (stored_crc w) length-stored_crc

  pub accepted-written : T (accepted w) → protected w ≡ with_crc (data_of w)
  unfolding with_crc
  accepted-written t =
      protected-parts
      ∙ ap (λ (c : Word). data_of w ++ c) (sym (same-equal (crc generator (data_of w)) (stored_crc w) (subst T accepted-crc t)))

  protected-same : same (protected w) (with_crc (data_of w)) ≡ accepted w
  unfolding with_crc
  protected-same =
      ap (λ (p : Word). same p (data_of w ++ crc generator (data_of w))) protected-parts
      ∙ same-append (data_of w) (data_of w) (stored_crc w) (crc generator (data_of w)) refl
      ∙ ap (λ (t : Bool). t && same (stored_crc w) (crc generator (data_of w))) (same_refl (data_of w))
      ∙ same-comm (stored_crc w) (crc generator (data_of w))
      ∙ sym accepted-crc

  -- its Hamming bits are those of its protected word exactly where they are the sum of positions
  hamming-same : same (stored_hamming w) (hamming (protected w)) ≡ eqb (column_sum positions (protected w)) (number (stored_hamming w))
  hamming-same =
      let s = column_sum positions (protected w) in
      ap (same (stored_hamming w)) (hamming-digits (protected w))
      ∙ same-comm (stored_hamming w) (digits 10 s)
      ∙ sym (same_number (digits 10 s) (stored_hamming w) (length_digits 10 s ∙ sym length-stored_hamming))
      ∙ ap (λ (n : ℕ). eqb n (number (stored_hamming w))) (number_small 10 s (position-sum-lt (protected w)))

  -- writing them afresh leaves the protected word as it is
  pub protected-rewritten : protected (with_hamming (protected w)) ≡ protected w
  unfolding protected with_hamming
  protected-rewritten = take_at (protected w) (hamming (protected w)) protected_places length-protected

  -- and the whole line exactly where they are the sum of positions
  pub rewritten-same : same w (with_hamming (protected w)) ≡ eqb (column_sum positions (protected w)) (number (stored_hamming w))
  unfolding with_hamming
  rewritten-same =
      ap (λ (x : Word). same x (protected w ++ hamming (protected w))) line-parts
      ∙ same-append (protected w) (protected w) (stored_hamming w) (hamming (protected w)) refl
      ∙ ap (λ (t : Bool). t && same (stored_hamming w) (hamming (protected w))) (same_refl (protected w))
      ∙ hamming-same

  -- a line is correct exactly where it is accepted and its Hamming bits are the sum of positions
  pub is_correct-parts : is_correct w ≡ accepted w && eqb (column_sum positions (protected w)) (number (stored_hamming w))
  unfolding is_correct codeword with_hamming with_crc
  is_correct-parts =
      ap (λ (x : Word). same x (with_crc d ++ hamming (with_crc d))) line-parts
      ∙ same-append (protected w) (with_crc d) (stored_hamming w) (hamming (with_crc d)) lengths
      ∙ ap (λ (t : Bool). t && same (stored_hamming w) (hamming (with_crc d))) protected-same
      ∙ rest (accepted w) refl
    where
      d : Word
      d = data_of w

      s : ℕ
      s = column_sum positions (protected w)

      lengths : length (protected w) ≡ length (with_crc d)
      lengths =
          ap length protected-parts ∙ length-append d (stored_crc w)
          ∙ ap (λ (n : ℕ). length d + n) (length-stored_crc ∙ sym (length-crc generator d))
          ∙ sym (length-append d (crc generator d))

      rest : (t : Bool) → accepted w ≡ t
          → accepted w && same (stored_hamming w) (hamming (with_crc d)) ≡ accepted w && eqb s (number (stored_hamming w))
      rest true q =
          ap (λ (p : Word). accepted w && same (stored_hamming w) (hamming p)) (sym (accepted-written (subst T (sym q) tt)))
          ∙ ap (λ (t : Bool). accepted w && t) hamming-same
      rest false q =
          ap (λ (t : Bool). t && same (stored_hamming w) (hamming (with_crc d))) q
          ∙ sym (ap (λ (t : Bool). t && eqb s (number (stored_hamming w))) q)

-- ---- what writing gives
module _ (d : Word) (full : length d ≡ data_places) where
  pub length-with_crc : length (with_crc d) ≡ protected_places
  unfolding with_crc
  length-with_crc =
      length-append d (crc generator d)
      ∙ ap₂ ◌+◌ (full ∙ data_is) (length-crc generator d ∙ length-generator)
      ∙ sym protected-is

  pub length-codeword : length (codeword d) ≡ line_places
  unfolding codeword with_hamming
  length-codeword =
      length-append (with_crc d) (hamming (with_crc d))
      ∙ ap₂ ◌+◌ (length-with_crc ∙ protected-is)
      (ap length (hamming-digits (with_crc d)) ∙ length_digits 10 (column_sum positions (with_crc d)))
      ∙ sym places_is

  pub protected-codeword : protected (codeword d) ≡ with_crc d
  unfolding protected codeword with_hamming
  protected-codeword = take_at (with_crc d) (hamming (with_crc d)) protected_places length-with_crc

  pub data_of-codeword : data_of (codeword d) ≡ d
  unfolding data_of codeword with_hamming with_crc
  data_of-codeword =
      ap (take data_places) (append_assoc d (crc generator d) (hamming (with_crc d)))
      ∙ take_at d (crc generator d ++ hamming (with_crc d)) data_places full

-- ---- the CRC and the sum of positions, both worked out from the data alone, stored after them
-- bit 31 of a register is past the last position
pub without-spare : (d : Word) (r : ℕ) → length d ≡ data_places
    → column_sum positions (d ++ digits 32 r) ≡ column_sum positions (d ++ digits 31 r)
without-spare d r e =
    sym (sum-take protected_places positions (d ++ digits 32 r) (omega (arith, length-positions, protected-is)))
    ∙ ap (column_sum positions) (ap (λ (n : ℕ). take n (d ++ digits 32 r)) count ∙ take-append-add d (digits 32 r) 31)
  where
    count : protected_places ≡ length d + 31
    count = omega (arith, protected-is, data_is)

pub stored-codeword : (l : List ℕ) (r s : ℕ) → length l ≡ 70 → Bytes l → r ≡ number (crc generator (data_of (places l)))
    → s ≡ column_sum positions (bits_of (take 64 l) ++ digits 32 r)
    → sets l 64 (r % 256 ∷ r / 256 % 256 ∷ r / 65536 % 256 ∷ r / 16777216 % 256 ∷ s % 256 ∷ s / 256 ∷ [])
    ≡ line_of (codeword (data_of (places l)))
unfolding codeword with_crc
stored-codeword l r s whole bytes e f =
    stored-all l whole bytes r s
    (subst (λ (n : ℕ). n < 2147483648) (sym e) (crc-number-lt d))
    (subst (λ (n : ℕ). n < 1024) (sym f) (position-sum-lt (bits_of (take 64 l) ++ digits 32 r)))
    ∙ ap₂ (λ (w : Word) (n : ℕ). line_of (w ++ digits 10 n)) front sum
    ∙ ap line_of (sym (with_hamming-digits (with_crc d)))
  where
    d : Word
    d = data_of (places l)

    front : d ++ digits 31 r ≡ d ++ crc generator d
    front = ap (λ (w : Word). d ++ w) (ap (digits 31) e ∙ crc-digits d)

    sum : s ≡ column_sum positions (d ++ crc generator d)
    sum =
        f
        ∙ ap (λ (w : Word). column_sum positions (w ++ digits 32 r)) (sym (data_of-line l whole))
        ∙ without-spare d r (length-data_of (places l) (length-places l whole))
        ∙ ap (column_sum positions) front
