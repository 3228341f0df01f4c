-- A line of a buffer as it reads alone, in bytes and in places.
use mathlib.Core.Path.{◌≡◌, refl, sym, ap, ◌∙◌}
use mathlib.Core.Bool.{true, false, not}
use mathlib.Core.List.{List, ◌∷◌, map}
use Prim.Native.Nat.{ℕ, zero, suc, ◌*◌, ◌≤◌, ◌<◌}
use native.Mathlib.Nat.{suc-mul}
use native.Mathlib.Omega.{arith}
use borrow.Author.Tests.{eq-eqb, ne_eqb}
use lib.ListN.{length, drop, length-drop}
use lib.Seq.{length-take-le}
use Rattle.linecode.specs.Places.{line_places, line_bytes, places}
use Rattle.linecode.specs.Code.{up_from}
use Rattle.linecode.specs.declared.alone.Reading.{Reading}
use Rattle.scheme.specs.Layer.{read_line}
use Rattle.scheme.specs.Visit.{State, cell_at}
use Rattle.scheme.specs.Repair.{read_all}
use Rattle.scheme.proofs.Stays.{first-reading-at}
use Rattle.scheme.proofs.Width.{read-width}
use Rattle.rectangle.specs.Store.{line_layer, bytes_at, places_at, lines_in, put_bytes, put_line, alone_at, in_bytes}
use Rattle.rectangle.specs.Refusals.{accepted_at}
use Rattle.rectangle.proofs.Buffer.{length-lines_in, lines_in-at}
use Rattle.rectangle.proofs.Spare.{length-places}
use Rattle.rectangle.proofs.LineLayer.{kept}

-- a line that lies inside the buffer has 70 bytes
pub seventy : (buffer : List ℕ) (n : ℕ) → suc n * 70 ≤ length buffer → length (bytes_at buffer n) ≡ 70
unfolding bytes_at line_bytes
seventy buffer n h = length-take-le 70 (drop (n * 70) buffer) (omega (arith, length-drop (n * 70) buffer, suc-mul n 70))

-- a line read alone has all places, accepted or faulty
pub length-alone : (buffer : List ℕ) (n : ℕ) → suc n * 70 ≤ length buffer → length (alone_at buffer n).line ≡ line_places
unfolding alone_at places_at
length-alone buffer n h =
    read-width line_layer kept (line_layer.address n) (places (bytes_at buffer n)) (length-places (bytes_at buffer n) (seventy buffer n h))

module _ (buffer : List ℕ) (n : ℕ) where
  -- a reading, stored as line m of another buffer
  pub put_alone : (out : List ℕ) (m : ℕ) (r : Reading) → r ≡ in_bytes (alone_at buffer n)
      → (after : List ℕ) → after ≡ put_bytes out m r.line
      → (after ≡ put_line out m (alone_at buffer n).line) × (r.mark ≡ (alone_at buffer n).mark)
  unfolding put_line
  put_alone out m r e after f =
      (f ∙ ap (λ (x : Reading). put_bytes out m x.line) e, ap (λ (x : Reading). x.mark) e)

  -- its mark tells whether the line is accepted
  module _ (mark : ℕ) (e : mark ≡ (alone_at buffer n).mark) where
    pub faulty-alone : mark ≡ 4 → accepted_at buffer n ≡ false
    unfolding accepted_at
    faulty-alone m = ap not (eq-eqb (alone_at buffer n).mark 4 (sym e ∙ m))

    pub accepted-alone : (mark ≡ 4 → ⊥) → accepted_at buffer n ≡ true
    unfolding accepted_at
    accepted-alone d = ap not (ne_eqb (alone_at buffer n).mark 4 (λ m. d (e ∙ m)))

-- ---- every line of a buffer is read alone
pub read-from : (lines : List ℕ) (i k : ℕ)
    → read_all (read_line line_layer) i (map (places_at lines) (up_from i k)) ≡ map (alone_at lines) (up_from i k)
unfolding alone_at
read-from lines i zero = refl
read-from lines i (suc k) = ap (λ (s : State). read_line line_layer i (places_at lines i) ∷ s) (read-from lines (suc i) k)

-- a line after the first reading is as it reads alone
pub first-at : (k : ℕ) (lines : List ℕ) (n : ℕ) → n < k → cell_at (read_all (read_line line_layer) 0 (lines_in k lines)) n ≡ alone_at lines n
unfolding alone_at
first-at k lines n h =
    first-reading-at (read_line line_layer) (lines_in k lines) n (omega (arith, length-lines_in k lines))
    ∙ ap (read_line line_layer n) (lines_in-at k lines n h)
