-- Section III-C's two claims: one damaged place is mended; of two to six, not all of them Hamming bits, the CRC tells after the corrector.
use mathlib.Core.Path.{◌≡◌, refl, sym, ap, ◌∙◌, subst}
use mathlib.Core.Bool.{Bool, true, false}
use Prim.Native.Nat.{ℕ, ◌≤◌}
use native.Mathlib.Omega.{arith}
use borrow.Author.Tests.{eq-eqb}
use lib.Bits.{bit_xor, xor_self}
use lib.Dec.{T}
use lib.ListN.{length}
use Rattle.gf2.specs.Word.{Word, number, flip, distance}
use Rattle.gf2.specs.Check.{column_sum}
use Rattle.gf2.proofs.Digits.{bit_xor-zero}
use Rattle.gf2.proofs.Same.{same-equal}
use Rattle.gf2.proofs.Weight.{distance_self, distance-flip, flip-flip}
use Rattle.linecode.specs.Places.{line_places}
use Rattle.linecode.specs.Code.{protected, stored_hamming, positions, with_hamming, Correct, syndrome, answer_to, place_of}
use Rattle.linecode.specs.Reading.{faulty}
use Rattle.linecode.specs.declared.hamming.Answer.{Answer}
use Rattle.linecode.specs.declared.hamming.Answer.TheVariants.{None, Hamming, Protected}
use Rattle.linecode.proofs.Codeword.{protected-rewritten, rewritten-same}
use Rattle.linecode.proofs.Syndrome.{syndrome-parts, column-position}
use Rattle.linecode.proofs.Answers.{protected-position}
use Rattle.promises.specs.Promises.{ReadsAs}
use Rattle.promises.specs.Claims.{PaperClaims}
use Rattle.promises.proofs.Lines.{near}
use Rattle.promises.proofs.Promises.{corrects}
use Rattle.paper_order.specs.PaperOrder.{crc_matches, corrector, read_in_order}
use Rattle.paper_order.proofs.Matching.{matches-accepts, length-corrector, corrector-named, none-past, hamming-past, matches-past}
use Rattle.paper_order.proofs.InOrder.{in-places, order-again}

single-bit : (w found : Word) → Correct w → length found ≡ line_places → distance w found ≤ 1 → ReadsAs w (read_in_order found)
single-bit w found c e d = subst (ReadsAs w) (sym (in-places found e)) (corrects w found c e d)

-- ---- the corrector leaves a syndrome of 0 where it flipped a protected place
flipped-syndrome : (w : Word) (i : ℕ) → length w ≡ line_places → answer_to (syndrome w) ≡ Protected i → syndrome (flip i w) ≡ 0
flipped-syndrome w i whole e =
    let p = protected-position (syndrome w) i e in
    column-position w i whole p.0 ∙ ap (bit_xor (syndrome w)) p.1 ∙ xor_self (syndrome w)

-- a line whose syndrome is 0 has the Hamming bits of its protected places
zero-written : (w : Word) → length w ≡ line_places → syndrome w ≡ 0 → w ≡ with_hamming (protected w)
zero-written w whole e =
    let s = column_sum positions (protected w) in
    let held = number (stored_hamming w) in
    same-equal w _ (subst T (sym (rewritten-same w whole ∙ eq-eqb s held (bit_xor-zero s held (syndrome-parts w whole ∙ e)))) tt)

module _ (w found : Word) (c : Correct w) (whole : length found ≡ line_places) (few : distance w found ≤ 6)
    (hurt : protected found ≡ protected w → ⊥) where
  -- a line that matches within seven places is the line written
  reached : (x : Word) → length x ≡ line_places → distance w x ≤ 7 → crc_matches x ≡ true → with_hamming (protected x) ≡ w
  reached x e d m = near w x c e d (matches-accepts x e m)

  first-missed : crc_matches found ≡ false
  first-missed = go (crc_matches found) refl
    where
      go : (b : Bool) → crc_matches found ≡ b → crc_matches found ≡ false
      go true m = absurd (hurt (sym (protected-rewritten found whole) ∙ ap protected (reached found whole (omega arith) m)))
      go false m = m

  -- a protected place whose flip gives a match was the only one damaged
  one-damaged : (i : ℕ) → answer_to (syndrome found) ≡ Protected i → crc_matches (flip i found) ≡ true
      → length (flip i found) ≡ line_places → distance w found ≤ 1
  one-damaged i e m long =
      let written : flip i found ≡ w =
      zero-written (flip i found) long (flipped-syndrome found i whole e)
      ∙ reached (flip i found) long (omega (arith, distance-flip w found i)) m in
      let found-is : found ≡ flip i w = sym (flip-flip i found) ∙ ap (flip i) written in
      subst (λ (x : Word). distance w x ≤ 1) (sym found-is) (omega (arith, distance-flip w w i, distance_self w))

  second-missed : 2 ≤ distance w found → crc_matches (corrector found) ≡ false
  unfolding place_of
  second-missed many = named (answer_to (syndrome found)) refl (crc_matches (corrector found)) refl
    where
      named : (a : Answer) → answer_to (syndrome found) ≡ a → (b : Bool) → crc_matches (corrector found) ≡ b
          → crc_matches (corrector found) ≡ false
      named None e b m = matches-past found whole None e none-past ∙ first-missed
      named (Hamming k) e b m = matches-past found whole (Hamming k) e (hamming-past k) ∙ first-missed
      named (Protected i) e true m =
          let corrected = corrector-named found (Protected i) e in
          let one = one-damaged i e (ap crc_matches (sym corrected) ∙ m) (ap length (sym corrected) ∙ length-corrector found whole) in
          let z : ⊥ = omega arith in
          absurd z
      named (Protected i) e false m = m

multi-bit : (w found : Word) → Correct w → length found ≡ line_places → 2 ≤ distance w found → distance w found ≤ 6
    → (protected found ≡ protected w → ⊥) → (crc_matches (corrector found) ≡ false) × (read_in_order found ≡ faulty found)
multi-bit w found c e many few hurt =
    let missed = second-missed w found c e few hurt many in (
      missed,
      order-again found (corrector found) false (first-missed w found c e few hurt) refl missed,
    )

pub paper-claims : PaperClaims
paper-claims = record { single_bit = single-bit; multi_bit = multi-bit }
