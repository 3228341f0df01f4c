-- Buffers that hold a store: what stands in them, and what writing one line with its mark leaves.
use mathlib.Core.Path.{◌≡◌, sym, ap, ◌∙◌, fun_ext}
use mathlib.Core.Bool.{Bool}
use mathlib.Core.List.{List, []}
use Prim.Native.Nat.{ℕ, ◌<◌}
use native.Mathlib.Decide.{ℕ_discrete}
use native.Mathlib.Omega.{arith}
use lib.Dec.{eqb}
use lib.ListN.{length, get_or, set, length-map, length-set, get_or-map}
use lib.Seq.{get_or-set_same, get_or-set_other}
use Rattle.gf2.specs.Word.{Word}
use Rattle.linecode.specs.Places.{line_places, line_of}
use Rattle.scheme.specs.Layer.{Cell}
use Rattle.scheme.specs.Visit.{State, cell_at, line_at, select, faulty_of}
use Rattle.scheme.specs.Repair.{lines_of}
use Rattle.scheme.specs.Demand3.{word_at}
use Rattle.scheme.proofs.Lists.{map-set}
use Rattle.rectangle.specs.Store.{bytes_at, buffer_of, put_bytes, put_line}
use Rattle.rectangle.proofs.Buffer.{bytes_at-buffer_of, put_line-buffer_of}
use Rattle.groups.specs.Lent.{Holding, faulty_among}

line-of : (s : State) (n : ℕ) → word_at (lines_of s) n ≡ line_at s n
line-of s n = get_or-map (λ c. c.line) s n (record { line = []; mark = 0 })

module _ (out marks : List ℕ) (s : State) (h : Holding out marks s) where
  pub held-count : length marks ≡ length s
  held-count = ap length h.marked ∙ length-map s (λ c. c.mark)

  pub held-mark : (n : ℕ) → get_or marks n 0 ≡ (cell_at s n).mark
  held-mark n =
      ap (λ (l : List ℕ). get_or l n 0) h.marked ∙ get_or-map (λ c. c.mark) s n (record { line = []; mark = 0 })

  pub held-faulty : (ms : List ℕ) → faulty_among marks ms ≡ faulty_of s ms
  unfolding faulty_among
  held-faulty ms = ap (λ (f : ℕ → Bool). select f ms) (fun_ext (λ n. ap (λ (m : ℕ). eqb m 4) (held-mark n)))

  lines-length : length (lines_of s) ≡ length s
  lines-length = length-map s (λ c. c.line)

  pub held_bytes : (n : ℕ) → n < length s → bytes_at out n ≡ line_of (line_at s n)
  held_bytes n i =
      ap (λ (b : List ℕ). bytes_at b n) h.lines
      ∙ bytes_at-buffer_of (lines_of s) n (omega (arith, lines-length))
      ∙ ap line_of (line-of s n)

  -- line n written with its mark
  pub held-put : (n : ℕ) (w : Word) (m : ℕ) → n < length s → length w ≡ line_places
      → Holding (put_bytes out n (line_of w)) (set marks n m) (set s n (record { line = w; mark = m }))
  unfolding put_line
  held-put n w m i e =
      record {
        wide = wide-put;
        lines =
            ap (λ (b : List ℕ). put_bytes b n (line_of w)) h.lines
            ∙ put_line-buffer_of (lines_of s) n w (omega (arith, lines-length))
            ∙ ap buffer_of (sym (map-set (λ c. c.line) s n (record { line = w; mark = m })));
        marked =
            ap (λ (l : List ℕ). set l n m) h.marked ∙ sym (map-set (λ c. c.mark) s n (record { line = w; mark = m }));
      }
    where
      c : Cell
      c = record { line = w; mark = m }

      none : Cell
      none = record { line = []; mark = 0 }

      wide-put : (k : ℕ) → k < length (set s n c) → length (line_at (set s n c) k) ≡ line_places
      wide-put k j = go (ℕ_discrete k n)
        where
          go : Dec (k ≡ n) → length (line_at (set s n c) k) ≡ line_places
          go (yes q) =
              ap (λ (x : ℕ). length (line_at (set s n c) x)) q
              ∙ ap (λ (x : Cell). length x.line) (get_or-set_same s n c none i)
              ∙ e
          go (no q) =
              ap (λ (x : Cell). length x.line) (get_or-set_other s n k c none q)
              ∙ h.wide k (omega (arith, length-set s n c))
