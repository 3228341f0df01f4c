-- The comparison of the CRCs, and the corrector.
use mathlib.Core.Path.{◌≡◌, refl, sym, ap, ap₂, ◌∙◌, subst}
use mathlib.Core.Bool.{Bool, true, false, true≢false, cond}
use Prim.Native.Nat.{ℕ, ◌≤◌}
use native.Mathlib.Omega.{arith}
use lib.Dec.{T, eqb}
use lib.ListN.{length}
use Rattle.gf2.specs.Word.{Word, number, flip, same}
use Rattle.gf2.specs.Check.{divisible, crc}
use Rattle.gf2.specs.Generator.{generator}
use Rattle.gf2.proofs.Same.{same-equal, same_number}
use Rattle.gf2.proofs.Crc.{length-crc}
use Rattle.gf2.proofs.Weight.{length-flip, flip-past}
use Rattle.linecode.specs.Places.{protected_places, line_places}
use Rattle.linecode.specs.Code.{protected, data_of, stored_crc, accepted, with_hamming, syndrome, answer_to, place_of}
use Rattle.linecode.specs.Reading.{mark_of}
use Rattle.linecode.specs.declared.hamming.Answer.{Answer}
use Rattle.linecode.specs.declared.hamming.Answer.TheVariants.{None, Hamming, Protected}
use Rattle.linecode.proofs.Line.{protected-is, places_is}
use Rattle.linecode.proofs.Codeword.{length-stored_crc, protected-flip, protected-rewritten, accepted-crc}
use Rattle.paper_order.specs.PaperOrder.{crc_matches, corrector}

-- ---- the comparison
-- the CRC matches exactly where the protected word is divisible
pub matches-accepted : (w : Word) → length w ≡ line_places → crc_matches w ≡ accepted w
unfolding crc_matches
matches-accepted w whole = sym (accepted-crc w whole)

-- as numbers: the CRC worked out against the stored one
pub matches-numbers : (w : Word) (worked stored : ℕ) → length w ≡ line_places → worked ≡ number (crc generator (data_of w))
    → stored ≡ number (stored_crc w) → eqb worked stored ≡ crc_matches w
unfolding crc_matches
matches-numbers w worked stored whole f g =
    ap₂ eqb f g
    ∙ same_number (crc generator (data_of w)) (stored_crc w) (length-crc generator (data_of w) ∙ sym (length-stored_crc w whole))

-- it asks for nothing but the protected places
matches-protected : (w x : Word) → length w ≡ line_places → length x ≡ line_places → protected w ≡ protected x
    → crc_matches w ≡ crc_matches x
unfolding accepted
matches-protected w x e f p = matches-accepted w e ∙ ap (divisible generator) p ∙ sym (matches-accepted x f)

-- a line that matches is accepted
pub matches-accepts : (w : Word) → length w ≡ line_places → crc_matches w ≡ true → T (accepted w)
matches-accepts w whole e = subst T (sym (sym (matches-accepted w whole) ∙ e)) tt

-- ---- the corrector
pub length-corrector : (w : Word) → length w ≡ line_places → length (corrector w) ≡ line_places
unfolding corrector
length-corrector w whole = length-flip (place_of (answer_to (syndrome w))) w ∙ whole

-- the place that is named is flipped
pub corrector-named : (w : Word) (a : Answer) → answer_to (syndrome w) ≡ a → corrector w ≡ flip (place_of a) w
unfolding corrector
corrector-named w a e = ap (λ (x : Answer). flip (place_of x) w) e

-- where none is, neither the enum's tag 1 nor its tag 2, nothing is
pub corrector-none : (w : Word) → length w ≡ line_places → (a : Answer) → answer_to (syndrome w) ≡ a
    → ((i : ℕ) → a ≡ Protected i → ⊥) → ((k : ℕ) → a ≡ Hamming k → ⊥) → corrector w ≡ w
unfolding place_of
corrector-none w whole None e h k = corrector-named w None e ∙ flip-past line_places w (omega arith)
corrector-none w whole (Hamming i) e h k = absurd (k i refl)
corrector-none w whole (Protected i) e h k = absurd (h i refl)

-- none and a Hamming bit lie past the protected places
pub none-past : protected_places ≤ place_of None
unfolding place_of
none-past = omega (arith, protected-is, places_is)

pub hamming-past : (k : ℕ) → protected_places ≤ place_of (Hamming k)
unfolding place_of
hamming-past k = omega arith

-- an answer that names no protected place
pub unnamed-past : (a : Answer) → ((i : ℕ) → a ≡ Protected i → ⊥) → protected_places ≤ place_of a
unnamed-past None k = none-past
unnamed-past (Hamming i) k = hamming-past i
unnamed-past (Protected i) k = absurd (k i refl)

-- the second comparison then ends as the first did
pub matches-past : (w : Word) → length w ≡ line_places → (a : Answer) → answer_to (syndrome w) ≡ a → protected_places ≤ place_of a
    → crc_matches (corrector w) ≡ crc_matches w
matches-past w whole a e h =
    matches-protected (corrector w) w (length-corrector w whole) whole
    (ap protected (corrector-named w a e) ∙ protected-flip w whole (place_of a) h)

-- ---- the mark after the corrector is 1: were the line read the line found, the first comparison would have passed it
pub mark-corrected : (w x : Word) → length w ≡ line_places → length x ≡ line_places → crc_matches w ≡ false → crc_matches x ≡ true
    → mark_of w (with_hamming (protected x)) ≡ 1
mark-corrected w x e f m n = go (same w (with_hamming (protected x))) refl
  where
    go : (b : Bool) → same w (with_hamming (protected x)) ≡ b → ◌≡◌ {A = ℕ} (cond b 0 1) 1
    go true s =
        absurd
        (true≢false
        (sym n
        ∙ matches-protected x w f e (sym (protected-rewritten x f) ∙ ap protected (sym (same-equal w _ (subst T (sym s) tt))))
        ∙ m))
    go false s = refl
