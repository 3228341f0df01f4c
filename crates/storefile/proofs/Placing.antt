-- Bytes put into a buffer: a part, and one run of bytes after the other.
use mathlib.Core.Path.{◌≡◌, sym, ap, ap₂, ◌∙◌}
use mathlib.Core.List.{List, ◌++◌, append_assoc, append-nil}
use Prim.Native.Nat.{ℕ, ◌+◌, ◌≤◌}
use native.Mathlib.Nat.{zero-add}
use native.Mathlib.Omega.{arith}
use lib.ListN.{length, take, drop, length-append, drop_of_length-le}
use lib.Seq.{length-take-le, take_at, drop-append-add, drop-drop}
use borrow.Rule.Slice.PartMut.{put_mid}
use Rattle.storefile.specs.Bytes.{placed, Put}

module _ (old : List ℕ) (at : ℕ) where
  -- b put where a ends
  pub placed-next : (a b : List ℕ) → at + length a ≤ length old
      → placed (placed old at a) (at + length a) b ≡ placed old at (a ++ b)
  unfolding placed
  placed-next a b h =
      ap₂ (λ (l r : List ℕ). l ++ b ++ r)
      (take_at (take at old ++ a) (drop (at + length a) old) (at + length a) front)
      (ap (λ (k : ℕ). drop k ((take at old ++ a) ++ drop (at + length a) old)) further
      ∙ drop-append-add (take at old ++ a) (drop (at + length a) old) (length b)
      ∙ drop-drop (length b) (at + length a) old
      ∙ ap (λ (k : ℕ). drop k old) whole)
      ∙ ap (λ (l : List ℕ). l ++ drop (at + length (a ++ b)) old) (append_assoc (take at old) a b)
    where
      front : length (take at old ++ a) ≡ at + length a
      front = length-append (take at old) a ∙ ap (λ (k : ℕ). k + length a) (length-take-le at old (omega arith))

      further : at + length a + length b ≡ length (take at old ++ a) + length b
      further = ap (λ (k : ℕ). k + length b) (sym front)

      whole : at + length a + length b ≡ at + length (a ++ b)
      whole = omega (arith, length-append a b)

  -- the same for buffers on the way: what is put so far ends at a place, and the next bytes are put there
  pub placed-then : (w buffer : List ℕ) (k : ℕ) (bytes next : List ℕ) → k ≡ at + length w → k ≤ length old
      → buffer ≡ placed old at w → next ≡ placed buffer k bytes → next ≡ placed old at (w ++ bytes)
  placed-then w buffer k bytes next here room e f =
      f ∙ ap₂ (λ (l : List ℕ) (j : ℕ). placed l j bytes) e here ∙ placed-next w bytes (omega arith)

  -- a part written
  pub placed-part : (bytes : List ℕ) (k : ℕ) → k ≡ length bytes → put_mid at k old bytes ≡ placed old at bytes
  unfolding placed
  placed-part bytes k e =
      ap (λ (l : List ℕ). take at old ++ (bytes ++ l)) (drop-drop k at old ∙ ap (λ (j : ℕ). drop (at + j) old) e)
      ∙ sym (append_assoc (take at old) bytes (drop (at + length bytes) old))

-- some bytes put from the start on, and as many as the buffer has
pub placed-start : (old a : List ℕ) → placed old 0 a ≡ a ++ drop (length a) old
unfolding placed
placed-start old a = ap (λ (k : ℕ). a ++ drop k old) (zero-add (length a))

pub placed-whole : (old a : List ℕ) → length old ≡ length a → placed old 0 a ≡ a
placed-whole old a e =
    placed-start old a ∙ ap (λ (l : List ℕ). a ++ l) (drop_of_length-le old {i = length a} (omega arith)) ∙ append-nil a

-- two runs of bytes put one after the other are one run
pub put_then : (old : List ℕ) (at : ℕ) (a mid : List ℕ) (k : ℕ) (b new : List ℕ) (next : ℕ) → k ≤ length old
    → Put old at a mid k → Put mid k b new next → Put old at (a ++ b) new next
put_then old at a mid k b new next room p q =
    record {
      after = omega (arith, p.after, q.after, length-append a b);
      put = placed-then old at a mid k b new p.after room p.put q.put;
    }
