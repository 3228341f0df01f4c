-- The first reading, line after line, into the line buffer and the mark buffer.
use mathlib.Core.Path.{◌≡◌, refl, sym, ap, ap₂, ◌∙◌, subst}
use mathlib.Core.List.{List, [], ◌∷◌, ◌++◌, map, append-nil}
use Prim.Native.Nat.{ℕ, zero, suc, ◌+◌, ◌*◌, ◌≤◌, ◌<◌}
use native.Mathlib.Nat.{zero-add, mul-le-mul_right}
use native.Mathlib.Omega.{arith}
use lib.ListN.{length, take, drop, get_or, set, length-map, length-set, length-drop, drop_of_length-le, get_or-append, get_or-map}
use lib.Seq.{drop-cons, drop_at, set_at, append_snoc, take-append-le, drop-append-le}
use Rattle.gf2.specs.Word.{Word}
use Rattle.linecode.specs.Places.{line_places, line_bytes, line_of}
use Rattle.linecode.specs.Code.{up_from}
use Rattle.scheme.specs.Layer.{Cell, read_line}
use Rattle.scheme.specs.Visit.{State, cell_at, line_at}
use Rattle.scheme.specs.Repair.{read_all, lines_of, marks_of}
use Rattle.scheme.proofs.Width.{Wide, wide_at}
use Rattle.rectangle.specs.Store.{line_layer, bytes_at, lines_in, buffer_of, put_line, alone_at}
use Rattle.rectangle.proofs.LineLayer.{kept}
use Rattle.rectangle.proofs.Spare.{bytes-is}
use Rattle.rectangle.proofs.Buffer.{length-buffer_of, bytes_at-buffer_of}
use Rattle.rectangle.proofs.Loops.{put_next, reading-wide}
use Rattle.rectangle.proofs.Alone.{read-from}
use Rattle.rectangle.proofs.Members.{length-up_from, map-up_from}
use Rattle.groups.specs.Lent.{Holding}
use Rattle.first_reading.specs.Lent.{Begun, read_first}

pub length-read_first : (found : List ℕ) (n : ℕ) → length (read_first found n) ≡ n
unfolding read_first
length-read_first found n = length-map (up_from 0 n) (alone_at found) ∙ length-up_from 0 n

up_from-snoc : (i n : ℕ) → up_from i (suc n) ≡ up_from i n ++ ((i + n) ∷ [])
up_from-snoc i zero = ap (λ (k : ℕ). k ∷ []) (zero' i)
  where
    zero' : (i : ℕ) → i ≡ i + 0
    zero' i = omega arith
up_from-snoc i (suc n) =
    ap (λ (l : List ℕ). i ∷ l) (up_from-snoc (suc i) n ∙ ap (λ (k : ℕ). up_from (suc i) n ++ (k ∷ [])) (next i n))
  where
    next : (i n : ℕ) → suc i + n ≡ i + suc n
    next i n = omega arith

map_snoc : {A B : Type 0} (f : A → B) (l : List A) (a : A) → map f (l ++ (a ∷ [])) ≡ map f l ++ (f a ∷ [])
map_snoc f [] a = refl
map_snoc {A} {B} f (b ∷ l) a = ap (λ (k : List B). f b ∷ k) (map_snoc f l a)

pub one_more : (found : List ℕ) (n : ℕ) → read_first found (suc n) ≡ read_first found n ++ (alone_at found n ∷ [])
unfolding read_first
one_more found n =
    ap (map (alone_at found)) (up_from-snoc 0 n ∙ ap (λ (k : ℕ). up_from 0 n ++ (k ∷ [])) (zero-add n))
    ∙ map_snoc (alone_at found) (up_from 0 n) n

pub all_read : (found : List ℕ) (k : ℕ) → read_all (read_line line_layer) 0 (lines_in k found) ≡ read_first found k
unfolding lines_in read_first
all_read found k = read-from found 0 k

-- ---- the first lines of the buffers are those read so far
pub begun-start : (found out marks : List ℕ) → Begun out marks (read_first found 0)
unfolding read_first
begun-start found out marks = record { lines = refl; marked = refl }

-- a list by its beginning and the rest of itself
again : (front rest whole : List ℕ) (m : ℕ) → whole ≡ front ++ rest → length front ≡ m → whole ≡ front ++ drop m whole
again front rest whole m e l = e ∙ ap (λ (x : List ℕ). front ++ x) (sym (ap (drop m) e ∙ drop_at front rest m l))

-- a mark stored behind others
mark-next : (ms old : List ℕ) (n m : ℕ) → length ms ≡ n → n < length old
    → set (ms ++ drop n old) n m ≡ (ms ++ (m ∷ [])) ++ drop (suc n) old
mark-next ms old n m e h =
    ap (λ (l : List ℕ). set (ms ++ l) n m) (drop-cons old n 0 h)
    ∙ set_at ms (get_or old n 0) (drop (suc n) old) m n e
    ∙ sym (append_snoc ms m (drop (suc n) old))

pub begun-next : (found out marks : List ℕ) (n : ℕ) (after : List ℕ) (mark : ℕ) → Begun out marks (read_first found n) → n < length marks
    → after ≡ put_line out n (alone_at found n).line → mark ≡ (alone_at found n).mark
    → Begun after (set marks n mark) (read_first found (suc n))
begun-next found out marks n after mark p h a q =
    record {
      lines =
          again (buffer_of (lines_of (read_first found (suc n)))) _ after _
          (a
          ∙ ap (λ (b : List ℕ). put_line b n w) p.lines
          ∙ ap₂ (λ (i j : ℕ). put_line (buffer_of ws ++ drop (j * i) out) n w) (sym bytes-is) (length-read_first found n ∙ sym size)
          ∙ ap (λ (j : ℕ). put_line (buffer_of ws ++ drop (length ws * line_bytes) out) j w) (sym size)
          ∙ put_next ws out w
          ∙ ap (λ (l : List Word). buffer_of l ++ drop (suc (length ws) * line_bytes) out)
          (sym (map_snoc (λ c. c.line) (read_first found n) (alone_at found n)) ∙ ap lines_of (sym (one_more found n))))
          (length-buffer_of (lines_of (read_first found (suc n)))
          ∙ ap₂ (λ (i j : ℕ). i * j) (length-map (read_first found (suc n)) (λ c. c.line)) bytes-is);
      marked =
          again (marks_of (read_first found (suc n))) (drop (suc n) marks) (set marks n mark) _
          (ap₂ (λ (l : List ℕ) (m : ℕ). set l n m)
          (p.marked ∙ ap (λ (i : ℕ). marks_of (read_first found n) ++ drop i marks) (length-read_first found n))
          q
          ∙ mark-next (marks_of (read_first found n)) marks n (alone_at found n).mark
          (length-map (read_first found n) (λ c. c.mark) ∙ length-read_first found n) h
          ∙ ap (λ (l : List ℕ). l ++ drop (suc n) marks)
          (sym (map_snoc (λ c. c.mark) (read_first found n) (alone_at found n)) ∙ ap marks_of (sym (one_more found n))))
          (length-map (read_first found (suc n)) (λ c. c.mark));
    }
  where
    ws : List Word
    ws = lines_of (read_first found n)

    w : Word
    w = (alone_at found n).line

    size : length ws ≡ n
    size = length-map (read_first found n) (λ c. c.line) ∙ length-read_first found n

-- ---- what stands in the buffers then
pub cell-read : (found : List ℕ) (n m : ℕ) → m < n → cell_at (read_first found n) m ≡ alone_at found m
unfolding read_first
cell-read found n m h = map-up_from (alone_at found) 0 n m (record { line = []; mark = 0 }) h ∙ ap (alone_at found) (zero-add m)

module _ (found out marks : List ℕ) (n : ℕ) (p : Begun out marks (read_first found n)) (m : ℕ) (h : m < n) where
  pub begun-mark : get_or marks m 0 ≡ (alone_at found m).mark
  begun-mark =
      ap (λ (l : List ℕ). get_or l m 0) p.marked
      ∙ get_or-append (marks_of s) (drop (length s) marks) 0 m (omega (arith, length-map s (λ c. c.mark), length-read_first found n))
      ∙ get_or-map (λ c. c.mark) s m (record { line = []; mark = 0 })
      ∙ ap (λ (c : Cell). c.mark) (cell-read found n m h)
    where
      s : State
      s = read_first found n

  pub begun-line : bytes_at out m ≡ line_of (alone_at found m).line
  unfolding bytes_at
  begun-line =
      ap (λ (l : List ℕ). take line_bytes (drop (m * line_bytes) l)) p.lines
      ∙ ap (take line_bytes) (drop-append-le (m * line_bytes) (buffer_of ws) rest before)
      ∙ take-append-le line_bytes (drop (m * line_bytes) (buffer_of ws)) rest enough
      ∙ bytes_at-buffer_of ws m (omega (arith, size))
      ∙ ap line_of (get_or-map (λ c. c.line) (read_first found n) m (record { line = []; mark = 0 }) ∙ ap (λ (c : Cell). c.line) (cell-read found n m h))
    where
      ws : List Word
      ws = lines_of (read_first found n)

      rest : List ℕ
      rest = drop (length (read_first found n) * 70) out

      size : length ws ≡ n
      size = length-map (read_first found n) (λ c. c.line) ∙ length-read_first found n

      whole : suc m * line_bytes ≤ length (buffer_of ws)
      whole = omega (arith, mul-le-mul_right line_bytes h, length-buffer_of ws ∙ ap (λ (k : ℕ). k * line_bytes) size)

      before : m * line_bytes ≤ length (buffer_of ws)
      before = omega (arith, whole)

      enough : line_bytes ≤ length (drop (m * line_bytes) (buffer_of ws))
      enough = omega (arith, whole, length-drop (m * line_bytes) (buffer_of ws))

-- ---- a piece: i of its lines are read
pub record ReadingOn (found out₀ marks₀ : List ℕ) (n count : ℕ) (out marks : List ℕ) (i : ℕ) : Type 0 where
  pub few : i ≤ count
  pub out_bytes : length out ≡ length marks₀ * 70
  pub mark_bytes : length marks ≡ length marks₀
  pub store : Begun out₀ marks₀ (read_first found n) → Begun out marks (read_first found (n + i))

pub reading-next : (found out₀ marks₀ : List ℕ) (n count : ℕ) (out marks : List ℕ) (i : ℕ) (after : List ℕ) (mark : ℕ)
    → ReadingOn found out₀ marks₀ n count out marks i → i < count → n + count ≤ length marks₀ → length after ≡ length out
    → after ≡ put_line out (n + i) (alone_at found (n + i)).line → mark ≡ (alone_at found (n + i)).mark
    → ReadingOn found out₀ marks₀ n count after (set marks (n + i) mark) (i + 1)
reading-next found out₀ marks₀ n count out marks i after mark r h inside e a q =
    record {
      few = omega arith;
      out_bytes = e ∙ r.out_bytes;
      mark_bytes = length-set marks (n + i) mark ∙ r.mark_bytes;
      store = λ b.
          subst (λ (k : ℕ). Begun after (set marks (n + i) mark) (read_first found k)) (next n i)
          (begun-next found out marks (n + i) after mark (r.store b) (omega (arith, r.mark_bytes)) a q);
    }
  where
    next : (n i : ℕ) → suc (n + i) ≡ n + (i + 1)
    next n i = omega arith

-- all lines are read
pub begun-end : (found out marks : List ℕ) (count : ℕ) → length found ≡ count * 70 → length out ≡ count * 70 → length marks ≡ count
    → Begun out marks (read_first found count) → Holding out marks (read_all (read_line line_layer) 0 (lines_in count found))
begun-end found out marks count found_bytes out_bytes mark_bytes p =
    subst (Holding out marks) (sym (all_read found count))
    (record {
      wide = λ i j.
          subst (λ (s : State). length (line_at s i) ≡ line_places) (all_read found count)
          (wide_at line_places (read_all (read_line line_layer) 0 (lines_in count found)) i wide
          (subst (λ (s : State). i < length s) (sym (all_read found count)) j));
      lines =
          p.lines
          ∙ ap (λ (l : List ℕ). buffer_of (lines_of (read_first found count)) ++ l)
          (drop_of_length-le out {i = length (read_first found count) * 70} (omega (arith, length-read_first found count)))
          ∙ append-nil (buffer_of (lines_of (read_first found count)));
      marked =
          p.marked
          ∙ ap (λ (l : List ℕ). marks_of (read_first found count) ++ l)
          (drop_of_length-le marks {i = length (read_first found count)} (omega (arith, length-read_first found count)))
          ∙ append-nil (marks_of (read_first found count));
    })
  where
    wide : Wide line_places (read_all (read_line line_layer) 0 (lines_in count found))
    wide = reading-wide kept count found (found_bytes ∙ ap (λ (i : ℕ). count * i) (sym bytes-is))
