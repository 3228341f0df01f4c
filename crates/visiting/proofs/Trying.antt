-- The trials on the buffers: the lines of the group in turn.
use mathlib.Core.Path.{◌≡◌, refl, sym, ap, ◌∙◌, subst}
use mathlib.Core.List.{List, ◌∷◌}
use Prim.Native.Nat.{ℕ, ◌+◌, ◌*◌, ◌≤◌, ◌<◌}
use native.Mathlib.Omega.{arith}
use lib.ListN.{length, get_or, set, length-set}
use Rattle.gf2.specs.Word.{Word}
use Rattle.linecode.specs.Places.{line_places, places, line_of}
use Rattle.scheme.specs.Layer.{Cell, read_line}
use Rattle.scheme.specs.Visit.{State, cell_at, try_places, try_lines}
use Rattle.rectangle.specs.Store.{line_layer, bytes_at, places_at, put_bytes, stride}
use Rattle.groups.specs.Lent.{Inside}
use Rattle.groups.proofs.Walk.{left, left_all, left-next, left_end}
use Rattle.groups.proofs.Searching.{turn-other, turn-failed, turn-tried}
use Rattle.visiting.specs.Lent.{store_in, Lent, MendedAlone, Becomes}
use Rattle.visiting.proofs.Stores.{store_at, store-mark}
use Rattle.visiting.proofs.Becoming.{untouched, mended-then, line-mended, store-mended}

-- after i lines of the group: those left try in the store that the buffers now hold
pub record Trying (out₀ marks₀ : List ℕ) (first step count : ℕ) (ps out marks : List ℕ) (i : ℕ) : Type 0 where
  pub inside : Inside first step count (length marks)
  pub room : length out ≡ length marks * 70
  pub same_out : length out ≡ length out₀
  pub same-marks : length marks ≡ length marks₀
  pub store : try_lines (read_line line_layer) ps (store_in out₀ marks₀) (stride first step count)
      ≡ try_lines (read_line line_layer) ps (store_in out marks) (left first step count i)
  pub bytes : MendedAlone out₀ marks₀ out marks

pub trying_start : (out marks : List ℕ) (first step count : ℕ) (ps : List ℕ) → Lent out marks first step count
    → Trying out marks first step count ps out marks 0
trying_start out marks first step count ps l =
    record {
      inside = l.inside;
      room = l.room;
      same_out = refl;
      same-marks = refl;
      store = ap (try_lines (read_line line_layer) ps (store_in out marks)) (left_all first step count);
      bytes = untouched out marks;
    }

-- the same with the buffers under other names
pub retry : (out₀ marks₀ : List ℕ) (first step count : ℕ) (ps a b out marks : List ℕ) (i : ℕ) → a ≡ out → b ≡ marks
    → Trying out₀ marks₀ first step count ps out marks i → Trying out₀ marks₀ first step count ps a b i
retry out₀ marks₀ first step count ps a b out marks i p q t =
    subst (λ (x : List ℕ). Trying out₀ marks₀ first step count ps x b i) (sym p)
    (subst (λ (y : List ℕ). Trying out₀ marks₀ first step count ps out y i) (sym q) t)

module _ (out₀ marks₀ : List ℕ) (first step count : ℕ) (ps out marks : List ℕ) (i : ℕ)
    (t : Trying out₀ marks₀ first step count ps out marks i) where
  pub trying-end : count ≤ i → Becomes (λ s. try_lines (read_line line_layer) ps s (stride first step count)) out₀ marks₀ out marks
  trying-end h =
      record {
        store = sym (t.store ∙ ap (try_lines (read_line line_layer) ps (store_in out marks))
            (left_end first step count i h));
        bytes = t.bytes;
      }

  module _ (more : i < count) (n : ℕ) (n-is : n ≡ first + i * step) where
    later : List ℕ
    later = left first step count (i + 1)

    below : n < length marks
    below = omega (arith, t.inside.each i more)

    -- a turn that leaves the buffers as they are
    still : try_lines (read_line line_layer) ps (store_in out marks) (n ∷ later) ≡ try_lines (read_line line_layer) ps (store_in out marks) later
        → Trying out₀ marks₀ first step count ps out marks (i + 1)
    unfolding later
    still e =
        record {
          inside = t.inside;
          room = t.room;
          same_out = t.same_out;
          same-marks = t.same-marks;
          store =
              t.store ∙ ap (try_lines (read_line line_layer) ps (store_in out marks))
              (left-next first step count i n n-is more) ∙ e;
          bytes = t.bytes;
        }

    -- a line that is not faulty
    pub trying-other : (get_or marks n 0 ≡ 4 → ⊥) → Trying out₀ marks₀ first step count ps out marks (i + 1)
    trying-other q =
        still (turn-other ps (store_in out marks) n later
        (λ (z : (cell_at (store_in out marks) n).mark ≡ 4). q (sym (store-mark out marks n) ∙ z)))

    module _ (bad : get_or marks n 0 ≡ 4) (line : List ℕ) (line-is : line ≡ bytes_at out n) where
      own_line : (cell_at (store_in out marks) n).line ≡ places line
      unfolding places_at
      own_line = ap (λ (c : Cell). c.line) (store_at out marks n below) ∙ ap places (sym line-is)

      own-mark : (cell_at (store_in out marks) n).mark ≡ 4
      own-mark = store-mark out marks n ∙ bad

      -- a faulty line whose trials all failed
      pub trying-failed : ((c : Cell) → c.line ≡ places line → try_places (read_line line_layer) n c ps ≡ c)
          → Trying out₀ marks₀ first step count ps out marks (i + 1)
      trying-failed f = still (turn-failed ps (store_in out marks) n later own-mark (f (cell_at (store_in out marks) n) own_line))

      -- a faulty line with an accepted trial, which is written
      pub trying-mended : (w : Word) (read out' : List ℕ) → length w ≡ line_places → read ≡ line_of w → out' ≡ put_bytes out n read
          → length out' ≡ length out
          → ((c : Cell) → c.line ≡ places line → try_places (read_line line_layer) n c ps ≡ record { line = w; mark = 2 })
          → Trying out₀ marks₀ first step count ps out' (set marks n 2) (i + 1)
      unfolding later
      trying-mended w read out' long e put same f =
          record {
            inside = subst (Inside first step count) (sym (length-set marks n 2)) t.inside;
            room = same ∙ t.room ∙ ap (λ (k : ℕ). k * 70) (sym (length-set marks n 2));
            same_out = same ∙ t.same_out;
            same-marks = length-set marks n 2 ∙ t.same-marks;
            store =
                t.store
                ∙ ap (try_lines (read_line line_layer) ps (store_in out marks)) (left-next first step count i n n-is more)
                ∙ turn-tried ps (store_in out marks) n later own-mark (record { line = w; mark = 2 })
                (f (cell_at (store_in out marks) n) own_line)
                ∙ ap (λ (s : State). try_lines (read_line line_layer) ps s later)
                (sym (ap (λ (b : List ℕ). store_in b (set marks n 2)) put_is
                ∙ store-mended out marks t.room n below bad w long 2 (omega arith)));
            bytes =
                mended-then out₀ marks₀ out marks out' (set marks n 2) t.same-marks t.bytes
                (subst (λ (b : List ℕ). MendedAlone out marks b (set marks n 2)) (sym put_is)
                (line-mended out marks t.room n below bad w long 2 (omega arith)));
          }
        where
          put_is : out' ≡ put_bytes out n (line_of w)
          put_is = put ∙ ap (put_bytes out n) e
