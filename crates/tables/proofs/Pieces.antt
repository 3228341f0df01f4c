-- A piece of a row: its lines read alone one after the other, and then added one after the other, byte by byte.
use mathlib.Core.Path.{◌≡◌, refl, sym, ap, ap₂, ◌∙◌}
use mathlib.Core.Bool.{true, false}
use mathlib.Core.List.{List}
use Rattle.std.specs.Prelude.{Some}
use Prim.Native.Nat.{ℕ, zero, suc, ◌+◌, ◌*◌, ◌≤◌, ◌<◌}
use native.Mathlib.Nat.{mul-le-mul_right}
use native.Mathlib.Numerals.{add-one}
use native.Mathlib.Omega.{arith}
use borrow.Author.Count.{below_more}
use lib.ListN.{length, take}
use Rattle.std.proofs.lemmas.List.{get_or-take}
use Rattle.linecode.specs.Places.{line_bytes, line_of, xor_bytes}
use Rattle.linecode.proofs.Bytes.{length-xor_bytes}
use Rattle.linecode.specs.Code.{up_from}
use Rattle.rectangle.specs.Store.{bytes_at, put_bytes, put_line, alone_at}
use Rattle.rectangle.specs.Refusals.{every, accepted_at}
use Rattle.tables.specs.Sweep.{PieceSums, PieceRead, with_lines, LinesAdded, PieceSummed}
use Rattle.rectangle.proofs.Spare.{bytes-is}
use Rattle.rectangle.proofs.Buffer.{bytes_at-put, bytes_at-other, length-put_bytes, bytes_at-put_bytes, bytes_at-still}
use Rattle.rectangle.proofs.Alone.{seventy, faulty-alone, accepted-alone}
use Rattle.rectangle.proofs.Tests.{every-from, fails-from}

-- line i lies inside so many lines
pub line-within : (i count bytes : ℕ) → i < count → count * 70 ≤ bytes → suc i * 70 ≤ bytes
line-within i count bytes h room = let below : suc i * 70 ≤ count * 70 = mul-le-mul_right 70 h in omega arith

-- line i of so many, from line n on
pub nth-within : (n i count bytes : ℕ) → i < count → (n + count) * 70 ≤ bytes → suc (n + i) * 70 ≤ bytes
nth-within n i count bytes h room = line-within (n + i) (n + count) bytes (omega arith) room

-- the sums of so many lines alone, taken from room for more
pub taken-sums : (lines : List ℕ) (n count : ℕ) (sums : List ℕ) → PieceSums lines n count sums → PieceSums lines n count (take count sums)
taken-sums lines n count sums s i h = get_or-take count sums i 0 h ∙ s i h

-- ---- the loops that read: i lines are read
pub record PieceTurn (lines : List ℕ) (n : ℕ) (each : ℕ → List ℕ) (i : ℕ) : Type 0 where
  pub accepted : (k : ℕ) → k < i → accepted_at lines (n + k) ≡ true
  pub read : (k : ℕ) → k < i → each k ≡ line_of (alone_at lines (n + k)).line

pub piece-ends : (lines : List ℕ) (n : ℕ) (each : ℕ → List ℕ) (i count : ℕ) → PieceTurn lines n each i → count ≤ i
    → PieceRead lines n count each true
piece-ends lines n each i count t h =
    record {
      answer = sym (every-from (accepted_at lines) n count (λ k j. t.accepted k (omega arith)));
      read = λ z k j. t.read k (omega arith);
    }

-- a line that reads as it stands
pub piece-stands : (lines : List ℕ) (n i : ℕ) → PieceTurn lines n (λ k. bytes_at lines (n + k)) i
    → (line : List ℕ) → line ≡ bytes_at lines (n + i) → line ≡ line_of (alone_at lines (n + i)).line → 0 ≡ (alone_at lines (n + i)).mark
    → PieceTurn lines n (λ k. bytes_at lines (n + k)) (i + 1)
piece-stands lines n i t line e f m =
    record {
      accepted = below_more _ _ t.accepted (accepted-alone lines (n + i) 0 m (λ z. omega arith));
      read = below_more _ _ t.read (sym e ∙ f);
    }

-- a faulty line ends the piece
pub faulty_within : (lines : List ℕ) (n count i : ℕ) → i < count → (alone_at lines (n + i)).mark ≡ 4
    → every (accepted_at lines) (up_from n count) ≡ false
faulty_within lines n count i h f = fails-from (accepted_at lines) n count i h (faulty-alone lines (n + i) 4 (sym f) refl)

module _ (lines : List ℕ) (n count : ℕ) (few : count ≤ 8) (piece : List ℕ) (room : length piece ≡ 8 * 70) (i : ℕ)
    (t : PieceTurn lines n (bytes_at piece) i) (h : i < count) (piece' : List ℕ)
    (put : piece' ≡ put_line piece i (alone_at lines (n + i)).line) (mark : ℕ) (m : mark ≡ (alone_at lines (n + i)).mark) where
  whole : length piece ≡ 8 * line_bytes
  unfolding line_bytes
  whole = room

  below : i < 8
  below = omega arith

  pub piece-more : (mark ≡ 4 → ⊥) → PieceTurn lines n (bytes_at piece') (i + 1)
  piece-more d =
      record {
        accepted = below_more _ _ t.accepted (accepted-alone lines (n + i) mark m d);
        read = below_more _ _
            (λ k j.
            ap (λ (p : List ℕ). bytes_at p k) put
            ∙ bytes_at-other 8 piece whole i below _ k (omega arith) (λ z. omega arith)
            ∙ t.read k j)
            (ap (λ (p : List ℕ). bytes_at p i) put ∙ bytes_at-put 8 piece whole i below _);
      }

-- ---- the loop that adds: i lines are added
module _ (each : ℕ → List ℕ) (i c : ℕ) (old sums line sum : List ℕ) (t : LinesAdded each i c old sums line sum)
    (held : length (each i) ≡ 70) (room : length old ≡ 512 * 70) (below : c + i < 512) where
  whole-sums : length sums ≡ 512 * line_bytes
  unfolding line_bytes
  whole-sums = t.kept ∙ room

  -- the column's sum lies inside the sums
  pub sum-within : suc (c + i) * 70 ≤ length sums
  sum-within = line-within (c + i) 512 (length sums) below (omega (arith, t.kept, room))

  new : List ℕ
  new = xor_bytes (bytes_at sums (c + i)) (each i)

  full : length new ≡ line_bytes
  unfolding new
  full =
      let both = seventy sums (c + i) sum-within in
      length-xor_bytes (bytes_at sums (c + i)) (each i) (both ∙ sym held) ∙ both ∙ sym bytes-is

  pub adding-more : (sums' next : List ℕ) → sums' ≡ put_bytes sums (c + i) (xor_bytes (bytes_at sums (c + i)) (each i))
      → next ≡ xor_bytes sum (each i) → LinesAdded each (i + 1) c old sums' line next
  unfolding new
  adding-more sums' next e f =
      record {
        kept = ap length e ∙ length-put_bytes 512 sums whole-sums (c + i) below new full ∙ sym whole-sums ∙ t.kept;
        row =
            f
            ∙ ap (λ (l : List ℕ). xor_bytes l (each i)) t.row
            ∙ ap (with_lines each line) (sym (add-one i));
        added = below_more _ _ (λ k j. other (c + k) (omega arith) (λ z. omega arith) ∙ t.added k j)
            (ap (λ (s : List ℕ). bytes_at s (c + i)) e
            ∙ bytes_at-put_bytes 512 sums whole-sums (c + i) below new full
            ∙ ap (λ (l : List ℕ). xor_bytes l (each i)) (t.after (c + i) (omega arith) below));
        before = λ k h. other k (omega arith) (λ z. omega arith) ∙ t.before k h;
        after = λ k h j. other k j (λ z. omega arith) ∙ t.after k (omega arith) j;
      }
    where
      other : (k : ℕ) → k < 512 → (k ≡ c + i → ⊥) → bytes_at sums' k ≡ bytes_at sums k
      other k h d = ap (λ (s : List ℕ). bytes_at s k) e ∙ bytes_at-still 512 sums whole-sums (c + i) below new full k h d

-- ---- lines that are given as they read alone, added
with-alike : (f g : ℕ → List ℕ) (line : List ℕ) (count : ℕ) → ((i : ℕ) → i < count → f i ≡ g i) → with_lines f line count ≡ with_lines g line count
with-alike f g line zero e = refl
with-alike f g line (suc i) e = ap₂ xor_bytes (with-alike f g line i (λ k h. e k (omega arith))) (e i (omega arith))

pub piece-summed : (lines : List ℕ) (n count c : ℕ) (each : ℕ → List ℕ) (old sums line sum : List ℕ) → PieceRead lines n count each true
    → LinesAdded each count c old sums line sum → PieceSummed lines n count c old sums line (Some sum)
piece-summed lines n count c each old sums line sum p a =
    record {
      answer = p.answer;
      added =
          record {
            kept = a.kept;
            row = a.row ∙ with-alike each _ line count (p.read refl);
            added = λ i h. a.added i h ∙ ap (xor_bytes (bytes_at old (c + i))) (p.read refl i h);
            before = a.before;
            after = a.after;
          };
    }
