-- The paper's order, case by case; that it gives the reading as it stands, in places and in bytes.
use mathlib.Core.Path.{◌≡◌, refl, sym, ap, ◌∙◌}
use mathlib.Core.Bool.{Bool, true, false, cond}
use mathlib.Core.List.{List}
use Prim.Native.Nat.{ℕ, ◌≤◌}
use lib.ListN.{length}
use Rattle.gf2.specs.Word.{Word, flip}
use Rattle.gf2.proofs.Weight.{length-flip}
use Rattle.linecode.specs.Places.{protected_places, line_places, line_bytes, places, line_of}
use Rattle.linecode.specs.Code.{protected, accepted, with_hamming, syndrome, answer_to, place_of}
use Rattle.linecode.specs.Reading.{Read, faulty, after_flip, corrected, first_look, mark_of, read_alone}
use Rattle.linecode.specs.Entry.{reading}
use Rattle.linecode.specs.declared.alone.Reading.{Reading}
use Rattle.linecode.specs.declared.hamming.Answer.{Answer}
use Rattle.linecode.specs.declared.hamming.Answer.TheVariants.{None, Hamming, Protected}
use Rattle.linecode.proofs.Line.{bytes-is, length-places}
use Rattle.linecode.proofs.ReadAlone.{in_bytes}
use Rattle.paper_order.specs.PaperOrder.{crc_matches, corrector, deemed_non_faulty, compared_again, read_in_order, reading_in_order}
use Rattle.paper_order.proofs.Matching.{matches-accepted, length-corrector, corrector-named, mark-corrected}
use Rattle.paper_order.proofs.Matching.{none-past, hamming-past, matches-past}

-- ---- the steps
module _ (w : Word) where
  -- the first comparison
  order-matched : crc_matches w ≡ true → read_in_order w ≡ deemed_non_faulty w w
  unfolding read_in_order
  order-matched e = ap (λ (b : Bool). cond b (deemed_non_faulty w w) (compared_again w (corrector w))) e

  -- the corrector, and the second comparison
  pub order-again : (x : Word) (t : Bool) → crc_matches w ≡ false → x ≡ corrector w → crc_matches x ≡ t
      → read_in_order w ≡ cond t (deemed_non_faulty w x) (faulty w)
  unfolding read_in_order
  order-again x t e c f =
      ap (λ (b : Bool). cond b (deemed_non_faulty w w) (compared_again w (corrector w))) e
      ∙ ap (compared_again w) (sym c)
      ∙ ap (λ (b : Bool). cond b (deemed_non_faulty w x) (faulty w)) f

-- ---- the reading as it stands
module _ (w : Word) (whole : length w ≡ line_places) where
  -- where no protected place is named, the second comparison fails as the first did
  order-past : crc_matches w ≡ false → (a : Answer) → answer_to (syndrome w) ≡ a → protected_places ≤ place_of a → read_in_order w ≡ faulty w
  order-past e a q h = order-again w (corrector w) false e refl (matches-past w whole a q h ∙ e)

  missed : crc_matches w ≡ false → (a : Answer) → answer_to (syndrome w) ≡ a → read_in_order w ≡ corrected a w
  unfolding place_of
  missed e None q = order-past e None q none-past
  missed e (Hamming k) q = order-past e (Hamming k) q (hamming-past k)
  missed e (Protected i) q =
      order-again w (flip i w) (accepted (flip i w)) e (sym (corrector-named w (Protected i) q))
      (matches-accepted (flip i w) (length-flip i w ∙ whole))
      ∙ second (accepted (flip i w))
    where
      second : (b : Bool) → cond b (deemed_non_faulty w (flip i w)) (faulty w) ≡ after_flip b (flip i w) w
      second true = refl
      second false = refl

  pub in-places : read_in_order w ≡ read_alone w
  unfolding read_alone
  in-places = first (accepted w) refl
    where
      first : (b : Bool) → accepted w ≡ b → read_in_order w ≡ first_look (accepted w) w
      first true e = order-matched w (matches-accepted w whole ∙ e) ∙ ap (λ (b : Bool). first_look b w) (sym e)
      first false e =
          missed (matches-accepted w whole ∙ e) (answer_to (syndrome w)) refl ∙ ap (λ (b : Bool). first_look b w) (sym e)

-- ---- the ways out of a body that follows it, in bytes
abbrev pub given : Word → ℕ → Reading
given w m = record { line = line_of w; mark = m }

module _ (l : List ℕ) (e : length l ≡ 70) where
  abbrev w : Word
  w = places l

  whole : length w ≡ line_places
  whole = length-places l e

  ordered : (r : Read) → read_in_order w ≡ r → given r.word r.mark ≡ reading l
  ordered r f = in_bytes l r (sym (in-places w whole) ∙ f)

  -- the CRC matches
  pub reads-matched : crc_matches w ≡ true → (m : ℕ) → m ≡ mark_of w (with_hamming (protected w))
      → given (with_hamming (protected w)) m ≡ reading l
  reads-matched f m g = ap (given (with_hamming (protected w))) g ∙ ordered _ (order-matched w f)

  -- it does after the corrector: mark 1
  pub reads-corrected : (x : Word) → crc_matches w ≡ false → x ≡ corrector w → crc_matches x ≡ true
      → given (with_hamming (protected x)) 1 ≡ reading l
  reads-corrected x f c g =
      ap (given (with_hamming (protected x))) (sym (mark-corrected w x whole (ap length c ∙ length-corrector w whole) f g))
      ∙ ordered _ (order-again w x true f c g)

  -- it does not: faulty, as found
  pub reads-faulty : (x : Word) → crc_matches w ≡ false → x ≡ corrector w → crc_matches x ≡ false → given w 4 ≡ reading l
  reads-faulty x f c g = ordered _ (order-again w x false f c g)

  -- nor where no protected place is named
  pub reads-past : crc_matches w ≡ false → (a : Answer) → answer_to (syndrome w) ≡ a → protected_places ≤ place_of a → given w 4 ≡ reading l
  reads-past f a q h = ordered _ (order-past w whole f a q h)

pub same_bytes : (l : List ℕ) → length l ≡ line_bytes → reading_in_order l ≡ reading l
unfolding reading_in_order
same_bytes l e = ordered l (e ∙ bytes-is) (read_in_order (places l)) refl
