-- Correct lines: they are accepted, add up to correct lines, and differ in at least eight places.
use mathlib.Core.Path.{◌≡◌, refl, sym, ap, ap₂, ◌∙◌, subst}
use mathlib.Core.Bool.{true, false}
use mathlib.Core.List.{◌++◌}
use Prim.Native.Nat.{ℕ, ◌+◌, ◌≤◌}
use native.Mathlib.Nat.{le_trans}
use native.Mathlib.Omega.{arith}
use lib.Dec.{T}
use lib.Bits.{bit_xor, xor_self}
use lib.ListN.{length, drop, length-append, length-take, length-replicate}
use lib.Seq.{drop_at}
use Rattle.gf2.specs.Word.{Word, ◌⊕◌, zeros, same, distance, digits, number}
use Rattle.gf2.specs.Check.{crc, column_sum}
use Rattle.gf2.specs.Polynomial.{remainder}
use Rattle.gf2.specs.Generator.{generator}
use Rattle.gf2.proofs.Xor.{xor-append, xor_self as word-self, take-xor}
use Rattle.gf2.proofs.Digits.{digits-xor, number_small}
use Rattle.gf2.proofs.Linear.{remainder-xor}
use Rattle.gf2.proofs.Hamming.{column_sum-xor}
use Rattle.gf2.proofs.Linearity.{line_code-linear}
use Rattle.gf2.proofs.Same.{same_refl}
use Rattle.gf2.proofs.Crc.{length-crc}
use Rattle.gf2.proofs.Weight.{distance-take}
use Rattle.gf2.proofs.Distance.{divisible-equal}
use Rattle.linecode.specs.Places.{data_places, protected_places, hamming_places, line_places}
use Rattle.linecode.specs.Code.{up_from, protected, data_of, stored_crc, stored_hamming, accepted, positions, hamming, with_crc, with_hamming, codeword, Correct, syndrome}
use Rattle.promises.specs.Promises.{LinearAtItsPlaces}
use Rattle.linecode.proofs.Line.{protected-is, data_is, places_is}
use Rattle.linecode.proofs.Positions.{hamming-digits, position-sum-lt}
use Rattle.linecode.proofs.Syndrome.{syndrome-parts}
use Rattle.register.proofs.Slicing.{length-generator}
use Rattle.linecode.proofs.Codeword.{length-protected, accepted-crc, accepted-written, length-data_of, length-with_crc, protected-codeword, data_of-codeword}

-- ---- a correct line is the codeword of its data
pub correct-length : (w : Word) → Correct w → length w ≡ line_places
unfolding Correct codeword with_hamming with_crc data_of
correct-length w c =
    let a = ap length c in
    let b = length-append (with_crc (data_of w)) (hamming (with_crc (data_of w))) in
    let d = length-append (data_of w) (crc generator (data_of w)) in
    let h : length (hamming (with_crc (data_of w))) ≡ 10 = ap length (hamming-digits (with_crc (data_of w))) in
    omega (arith, length-take data_places w, length-crc generator (data_of w), length-generator, places_is, data_is)

pub codeword-correct : (d : Word) → length d ≡ data_places → Correct (codeword d)
unfolding Correct
codeword-correct d e = ap codeword (sym (data_of-codeword d e))

module _ (w : Word) (c : Correct w) where
  whole : length w ≡ line_places
  whole = correct-length w c

  full : length (data_of w) ≡ data_places
  full = length-data_of w whole

  pub correct-protected : protected w ≡ with_crc (data_of w)
  unfolding Correct
  correct-protected = ap protected c ∙ protected-codeword (data_of w) full

  pub correct-rewritten : with_hamming (protected w) ≡ w
  unfolding Correct codeword
  correct-rewritten = ap with_hamming correct-protected ∙ sym c

  pub correct-accepted : accepted w ≡ true
  unfolding stored_crc with_crc
  correct-accepted =
      accepted-crc w whole
      ∙ ap (same (crc generator (data_of w)))
      (ap (drop data_places) correct-protected ∙ drop_at (data_of w) (crc generator (data_of w)) data_places full)
      ∙ same_refl (crc generator (data_of w))

  correct-hamming : stored_hamming w ≡ digits 10 (column_sum positions (protected w))
  unfolding Correct stored_hamming codeword with_hamming
  correct-hamming =
      ap (drop protected_places) c
      ∙ drop_at (with_crc (data_of w)) (hamming (with_crc (data_of w))) protected_places (length-with_crc (data_of w) full)
      ∙ ap hamming (sym correct-protected)
      ∙ hamming-digits (protected w)

  pub correct-syndrome : syndrome w ≡ 0
  correct-syndrome =
      sym (syndrome-parts w whole)
      ∙ ap (bit_xor s) (ap number correct-hamming ∙ number_small 10 s (position-sum-lt (protected w)))
      ∙ xor_self s
    where
      s : ℕ
      s = column_sum positions (protected w)

-- ---- an accepted line near a correct one is read as that one
protected-equal : (w found : Word) → Correct w → length found ≡ line_places → distance w found ≤ 7 → T (accepted found)
    → protected w ≡ protected found
unfolding accepted protected
protected-equal w found c e d t =
    divisible-equal (protected w) (protected found) (length-protected w (correct-length w c) ∙ sym (length-protected found e))
    (omega (arith, length-protected w (correct-length w c), protected-is))
    (subst T (sym (correct-accepted w c)) tt) t
    (le_trans (distance-take protected_places w found) d)

pub near : (w found : Word) → Correct w → length found ≡ line_places → distance w found ≤ 7 → T (accepted found)
    → with_hamming (protected found) ≡ w
near w found c e d t = ap with_hamming (sym (protected-equal w found c e d t)) ∙ correct-rewritten w c

pub correct-apart : (w v : Word) → Correct w → Correct v → distance w v ≤ 7 → w ≡ v
correct-apart w v c k d =
    sym (near w v c (correct-length v k) d (subst T (sym (correct-accepted v k)) tt)) ∙ correct-rewritten v k

-- an accepted line, its Hamming bits written afresh, is a correct line
pub accepted-correct : (w : Word) → length w ≡ line_places → T (accepted w) → Correct (with_hamming (protected w))
unfolding codeword
accepted-correct w e t =
    subst (λ (p : Word). Correct (with_hamming p)) (sym (accepted-written w e t)) (codeword-correct (data_of w) (length-data_of w e))

-- ---- the code is linear
crc-xor : (x y : Word) → length x ≡ length y → crc generator (x ⊕ y) ≡ crc generator x ⊕ crc generator y
crc-xor x y e =
    ap (remainder generator) (sym (xor-append x y o o e ∙ ap (λ (z : Word). (x ⊕ y) ++ z) (word-self o ∙ ap zeros (length-replicate (length generator) false))))
    ∙ remainder-xor generator (x ++ o) (y ++ o) (length-append x o ∙ ap (λ (n : ℕ). n + length o) e ∙ sym (length-append y o))
  where
    o : Word
    o = zeros (length generator)

hamming-xor : (p q : Word) → hamming (p ⊕ q) ≡ hamming p ⊕ hamming q
hamming-xor p q =
    hamming-digits (p ⊕ q)
    ∙ ap (digits 10) (column_sum-xor positions p q)
    ∙ digits-xor 10 (column_sum positions p) (column_sum positions q)
    ∙ sym (ap₂ ◌⊕◌ (hamming-digits p) (hamming-digits q))

codeword-xor : (x y : Word) → length x ≡ data_places → length y ≡ data_places → codeword (x ⊕ y) ≡ codeword x ⊕ codeword y
unfolding codeword with_hamming with_crc
codeword-xor x y e f =
    ap (λ (p : Word). p ++ hamming p) sums
    ∙ ap (λ (h : Word). (with_crc x ⊕ with_crc y) ++ h) (hamming-xor (with_crc x) (with_crc y))
    ∙ sym (xor-append (with_crc x) (with_crc y) (hamming (with_crc x)) (hamming (with_crc y)) (length-with_crc x e ∙ sym (length-with_crc y f)))
  where
    sums : (x ⊕ y) ++ crc generator (x ⊕ y) ≡ with_crc x ⊕ with_crc y
    sums =
        ap (λ (z : Word). (x ⊕ y) ++ z) (crc-xor x y (e ∙ sym f))
        ∙ sym (xor-append x y (crc generator x) (crc generator y) (e ∙ sym f))

-- that of any width, at its places
pub linear_at_its_places : LinearAtItsPlaces
unfolding codeword with_hamming with_crc hamming
linear_at_its_places =
    record {
      general = λ d. refl;
      codewords = λ x y e. line_code-linear generator positions (up_from 0 hamming_places) x y e;
    }

pub correct-xor : (w v : Word) → Correct w → Correct v → Correct (w ⊕ v)
unfolding Correct data_of
correct-xor w v c k =
    ap₂ ◌⊕◌ c k
    ∙ sym (codeword-xor (data_of w) (data_of v) (length-data_of w (correct-length w c)) (length-data_of v (correct-length v k)))
    ∙ ap codeword (sym (take-xor data_places w v))
