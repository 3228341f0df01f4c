-- Reading alone, case by case, and in bytes.
use mathlib.Core.Path.{◌≡◌, sym, ap, ◌∙◌}
use mathlib.Core.Bool.{Bool, true, false, cond}
use mathlib.Core.List.{List}
use Prim.Native.Nat.{ℕ}
use native.Mathlib.Omega.{arith}
use lib.Dec.{eqb}
use lib.ListN.{length}
use Rattle.gf2.specs.Word.{Word, number, flip}
use Rattle.gf2.specs.Check.{column_sum}
use Rattle.gf2.proofs.Weight.{length-flip}
use Rattle.linecode.specs.Places.{line_places, places, line_of}
use Rattle.linecode.specs.Code.{protected, accepted, stored_hamming, positions, with_hamming, syndrome, answer_to}
use Rattle.linecode.specs.Reading.{Read, accepted_as, after_flip, corrected, first_look, mark_of, read_alone}
use Rattle.linecode.specs.Entry.{reading}
use Rattle.linecode.specs.declared.alone.Reading.{Reading}
use Rattle.linecode.specs.declared.hamming.Answer.{Answer}
use Rattle.linecode.specs.declared.hamming.Answer.TheVariants.{Protected}
use Rattle.linecode.proofs.Line.{places_is, places-line_of, length-places}
use Rattle.linecode.proofs.Codeword.{rewritten-same}

module _ (w : Word) where
  pub read-accepted : accepted w ≡ true → read_alone w ≡ accepted_as w (with_hamming (protected w))
  unfolding read_alone
  read-accepted e = ap (λ (b : Bool). first_look b w) e

  pub read_answer : (a : Answer) → accepted w ≡ false → answer_to (syndrome w) ≡ a → read_alone w ≡ corrected a w
  unfolding read_alone
  read_answer a e f = ap (λ (b : Bool). first_look b w) e ∙ ap (λ (x : Answer). corrected x w) f

  pub read_flip : (i : ℕ) (t : Bool) → accepted w ≡ false → answer_to (syndrome w) ≡ Protected i → accepted (flip i w) ≡ t
      → read_alone w ≡ after_flip t (flip i w) w
  read_flip i t e f g = read_answer (Protected i) e f ∙ ap (λ (b : Bool). after_flip b (flip i w) w) g

-- the mark of an accepted line, by the sum of positions and the Hamming bits
pub mark-when : (w : Word) → length w ≡ line_places → (b : Bool) → eqb (column_sum positions (protected w)) (number (stored_hamming w)) ≡ b
    → cond b 0 1 ≡ mark_of w (with_hamming (protected w))
mark-when w whole b e = ap (λ (t : Bool). cond t 0 1) (sym (rewritten-same w whole ∙ e))

-- a reading's bytes and mark
pub in_bytes : (l : List ℕ) (r : Read) → read_alone (places l) ≡ r
    → ◌≡◌ {A = Reading} (record { line = line_of r.word; mark = r.mark }) (reading l)
unfolding reading
in_bytes l r e = ap (λ (x : Read). record { line = line_of x.word; mark = x.mark }) (sym e)

-- the places of a line with a place turned over
pub places-flipped : (l f : List ℕ) (i : ℕ) → length l ≡ 70 → f ≡ line_of (flip i (places l)) → places f ≡ flip i (places l)
places-flipped l f i e q =
    ap places q ∙ places-line_of (flip i (places l)) (omega (arith, long, places_is)) (omega (arith, long, places_is)) long
  where
    long : length (flip i (places l)) ≡ line_places
    long = length-flip i (places l) ∙ length-places l e
