-- The line code as the layer that repair sees. No other file above it opens reading, writing or the test of a correct line: each law
-- here goes from what the functions below give, in bytes, to line n, or to a group's parity line.
use mathlib.Core.Path.{◌≡◌, refl, sym, ap, ◌∙◌, subst}
use mathlib.Core.Logic.{◌⊎◌, ◌↔◌, inl, inr}
use mathlib.Core.Bool.{true}
use mathlib.Core.List.{List, []}
use Prim.Native.Nat.{ℕ, suc-le-suc}
use lib.ListN.{length, replicate}
use Rattle.gf2.specs.Word.{Word, ◌⊕◌, flip}
use Rattle.gf2.specs.Generator.{generator, generator_polynomial}
use Rattle.linecode.specs.Places.{data_places, protected_places, hamming_places, line_places, data_bytes, places, line_of, loaded}
use Rattle.linecode.specs.Code.{protected, data_of, accepted, hamming_columns, positions, hamming, with_crc, with_hamming, codeword, Correct, is_correct, columns, syndrome, naming, answer_to}
use Rattle.linecode.specs.Reading.{read_alone}
use Rattle.linecode.specs.Entry.{written, reading}
use Rattle.promises.specs.Promises as Line
use Rattle.linecode.specs.declared.alone.Reading.{Reading}
use Rattle.promises.proofs.Promises.{promises}
use Rattle.promises.proofs.LineLayout.{layout}
use Rattle.linecode.proofs.Loading.{written-loaded}
use Rattle.scheme.specs.Layer.{read_line, CorrectLine, parity_address, ReadsAs, Promises}
use Rattle.scheme.specs.Visit.{Group, is_faulty}
use Rattle.scheme.specs.Parity.{read_parity}
use Rattle.scheme.specs.Marks.{MarksTell}
use Rattle.scheme.specs.Readings.{Agreeing}
use Rattle.scheme.proofs.Marking.{read-as-found}
use Rattle.rectangle.proofs.Spare.{length-places}
use Rattle.rectangle.specs.Store.{read_under, write_under, CorrectUnder, is_correct_under, line_layer, bytes_at, places_at, alone_at, in_bytes}
use Rattle.rectangle.specs.Before.{read_under_before}
use Rattle.rectangle.specs.Refusals.{parity_correct}
use Rattle.rectangle.specs.Change.{new_line}

-- ---- the promises that repair relies on
reads_as : (a : ℕ) (w found : Word) → Line.ReadsAs w (read_alone found) → ReadsAs w (read_under a found)
unfolding read_under
reads_as a w found r = record { gives = r.gives; accepted = r.accepted }

pub kept : Promises line_layer
unfolding read_under CorrectUnder
kept =
    record {
      sized = λ a w c. promises.sized w c;
      apart = λ a w v c k d. promises.apart w v c k (suc-le-suc d);
      summed = λ a b w v c k. promises.summed w v c k;
      corrects = λ a w found c e d. reads_as a w found (promises.corrects w found c e d);
      detects = λ a w found c e d. detected a w found (promises.detects w found c e d);
      kept = λ a found e q. promises.kept found q;
      sound = λ a found e. promises.sound found e;
      marks = λ a found. promises.marks found;
    }
  where
    detected : (a : ℕ) (w found : Word) → Line.ReadsAs w (read_alone found) ⊎ ((read_alone found).mark ≡ 4)
        → ReadsAs w (read_under a found) ⊎ ((read_alone found).mark ≡ 4)
    detected a w found (inl r) = inl (reads_as a w found r)
    detected a w found (inr q) = inr q

-- ---- what its marks tell
pub marks-tell : MarksTell line_layer
unfolding read_under CorrectUnder
marks-tell address found e = record { clean = promises.clean found e; rewritten = promises.rewritten found e }

-- before request Q-1 it read alike, but for the mark of an accepted line
pub as_before : Agreeing read_under_before read_under
unfolding read_under read_under_before
as_before address found = record { line = (promises.before found).0; mark = (promises.before found).1 }

-- ---- reading: bytes that are read as line n
pub read_as : (n : ℕ) (line : List ℕ) → reading line ≡ in_bytes (read_line line_layer n (places line))
unfolding reading read_under
read_as n line = refl

-- the bytes of line n of a buffer
pub read_at : (buffer : List ℕ) (n : ℕ) (line : List ℕ) (r : Reading) → line ≡ bytes_at buffer n → r ≡ reading line
    → r ≡ in_bytes (alone_at buffer n)
unfolding alone_at places_at
read_at buffer n line r e f = f ∙ ap reading e ∙ read_as n (bytes_at buffer n)

-- bytes that are read with another mark than 1 read as they are, spare bits apart
pub read-unchanged : (line : List ℕ) → length line ≡ 70 → ((reading line).mark ≡ 1 → ⊥) → line_of (places line) ≡ (reading line).line
unfolding reading read_under
read-unchanged line e d =
    ap line_of (sym (read-as-found line_layer kept marks-tell (line_layer.address 0) (places line) (length-places line e) d))

-- a group's parity line, read by its bytes
pub parity-read : (g : Group) (line : List ℕ) → g.parity ≡ places line → reading line ≡ in_bytes (read_parity line_layer g)
unfolding reading read_under
parity-read g line e = ap (λ (w : Word). in_bytes (read_parity line_layer (record { members = g.members; parity = w }))) (sym e)

-- ---- correct lines: the test of a group's parity line, made on its bytes
pub tested-as : (g : Group) (line : List ℕ) → g.parity ≡ places line → is_correct (places line) ≡ parity_correct g
unfolding parity_correct is_correct_under
tested-as g line e = ap is_correct (sym e)

-- a parity line passes exactly if it is a correct line
pub parity-tests : (g : Group) → (parity_correct g ≡ true) ↔ line_layer.Correct (parity_address line_layer g.members) g.parity
unfolding parity_correct is_correct_under CorrectUnder
parity-tests g = promises.tests g.parity

-- and so where it has the places of one
pub parity-passes : (g : Group) (w : Word) → g.parity ≡ w → line_layer.Correct (parity_address line_layer g.members) w
    → parity_correct g ≡ true
parity-passes g w e c = (parity-tests g).1 (subst (line_layer.Correct (parity_address line_layer g.members)) (sym e) c)

-- ---- writing line n from 64 data bytes
module _ (n : ℕ) (payload : List ℕ) where
  pub write-correct : length payload ≡ data_bytes → CorrectLine line_layer n (new_line n payload)
  unfolding new_line write_under CorrectUnder data_bytes
  write-correct e = subst Correct (layout.writes payload e) (promises.writes payload e).0

  pub length-new_line : length payload ≡ 64 → length (new_line n payload) ≡ line_places
  unfolding data_bytes
  length-new_line e = kept.sized (line_layer.address n) (new_line n payload) (write-correct e)

  -- the data are loaded, and the rest written after them
  pub rewrites : length payload ≡ 64 → (found new : List ℕ) → found ≡ loaded payload → new ≡ line_of (codeword (data_of (places found)))
      → new ≡ line_of (new_line n payload)
  unfolding new_line write_under written
  rewrites e found new f g = written-loaded payload found new e f g

-- ---- a case, by computation: the exclusive or of two lines of zero data, hurt at places 0 and 1, is faulty
pub blank-hurt : (address n m : ℕ)
    → is_faulty (read_under address (flip 1 (flip 0 (new_line n (replicate 64 0) ⊕ (new_line m (replicate 64 0) ⊕ []))))) ≡ true
unfolding generator generator_polynomial data_places protected_places hamming_places line_places protected accepted hamming_columns positions hamming with_crc with_hamming codeword columns syndrome naming answer_to read_alone read_under write_under new_line
blank-hurt address n m = refl
