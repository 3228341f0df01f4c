-- The store that a line and a mark buffer hold: its lines and marks, and what writing one line with its mark leaves.
use mathlib.Core.Path.{◌≡◌, sym, ap, ap₂, ◌∙◌, fun_ext}
use mathlib.Core.Bool.{Bool}
use mathlib.Core.List.{List, []}
use Prim.Native.Nat.{ℕ, ◌*◌, ◌≤◌, ◌<◌}
use native.Mathlib.Nat.{zero-add}
use native.Mathlib.Decide.{ℕ_discrete, dec_le}
use native.Mathlib.Omega.{arith}
use lib.Dec.{eqb}
use lib.ListN.{length, get_or, set, length-map, length-set, get_or-eq_default}
use lib.Seq.{get_or-set_same, get_or-set_other, ext_get_or}
use Rattle.gf2.specs.Word.{Word}
use Rattle.linecode.specs.Places.{line_places, line_bytes, places}
use Rattle.linecode.specs.Code.{up_from}
use Rattle.scheme.specs.Layer.{Cell}
use Rattle.scheme.specs.Visit.{cell_at, line_at, select, faulty_of, sum}
use Rattle.scheme.specs.Demand3.{◌∈◌}
use Rattle.scheme.proofs.Sums.{sum-ext}
use Rattle.rectangle.specs.Store.{places_at, bytes_at, put_bytes}
use Rattle.rectangle.proofs.Members.{length-up_from, map-up_from}
use Rattle.rectangle.proofs.Buffer.{length-places_at, bytes_at-put_bytes, bytes_at-still}
use Rattle.rectangle.proofs.Spare.{bytes-is}
use Rattle.groups.specs.Lent.{faulty_among}
use Rattle.visiting.specs.Lent.{cell_in, store_in}

-- a cell by its line and its mark
cell : {w v : Word} {m k : ℕ} → w ≡ v → m ≡ k → ◌≡◌ {A = Cell} (record { line = w; mark = m }) (record { line = v; mark = k })
cell e f = ap₂ (λ (x : Word) (y : ℕ). record { line = x; mark = y }) e f

module _ (out marks : List ℕ) where
  pub store_length : length (store_in out marks) ≡ length marks
  unfolding store_in
  store_length = length-map (up_from 0 (length marks)) (cell_in out marks) ∙ length-up_from 0 (length marks)

  pub store_at : (n : ℕ) → n < length marks → cell_at (store_in out marks) n ≡ cell_in out marks n
  unfolding store_in
  store_at n h = map-up_from (cell_in out marks) 0 (length marks) n (record { line = []; mark = 0 }) h ∙ ap (cell_in out marks) (zero-add n)

  -- the marks too where there is no line
  pub store-mark : (n : ℕ) → (cell_at (store_in out marks) n).mark ≡ get_or marks n 0
  store-mark n = go (dec_le (length marks) n)
    where
      go : Dec (length marks ≤ n) → (cell_at (store_in out marks) n).mark ≡ get_or marks n 0
      go (yes p) =
          ap (λ (c : Cell). c.mark) (get_or-eq_default (store_in out marks) (record { line = []; mark = 0 })
          (omega (arith, store_length)))
          ∙ sym (get_or-eq_default marks 0 p)
      go (no q) = ap (λ (c : Cell). c.mark) (store_at n (omega arith))

  pub store-faulty : (ms : List ℕ) → faulty_among marks ms ≡ faulty_of (store_in out marks) ms
  unfolding faulty_among
  store-faulty ms = ap (λ (f : ℕ → Bool). select f ms) (fun_ext (λ n. ap (λ (m : ℕ). eqb m 4) (sym (store-mark n))))

  -- the sum of some lines
  pub store-sum : (ms : List ℕ) → ((n : ℕ) → n ∈ ms → n < length marks) → sum (line_at (store_in out marks)) ms ≡ sum (places_at out) ms
  store-sum ms inside =
      sum-ext (line_at (store_in out marks)) (places_at out) ms (λ n i. ap (λ (c : Cell). c.line) (store_at n (inside n i)))

module _ (out marks : List ℕ) (room : length out ≡ length marks * 70) where
  whole : length out ≡ length marks * line_bytes
  unfolding line_bytes
  whole = room

  pub store_long : (n : ℕ) → n < length marks → length (line_at (store_in out marks) n) ≡ line_places
  store_long n h = ap (λ (c : Cell). length c.line) (store_at out marks n h) ∙ length-places_at (length marks) out whole n h

  -- line n written with its mark
  module _ (n : ℕ) (inside : n < length marks) (line : List ℕ) (full : length line ≡ 70) where
    pub put-here : bytes_at (put_bytes out n line) n ≡ line
    put-here = bytes_at-put_bytes (length marks) out whole n inside line (full ∙ sym bytes-is)

    pub put-elsewhere : (k : ℕ) → k < length marks → (k ≡ n → ⊥) → bytes_at (put_bytes out n line) k ≡ bytes_at out k
    put-elsewhere k h d = bytes_at-still (length marks) out whole n inside line (full ∙ sym bytes-is) k h d

    pub store-put : (m : ℕ) → store_in (put_bytes out n line) (set marks n m) ≡ set (store_in out marks) n
        (record { line = places line; mark = m })
    unfolding places_at
    store-put m =
        ext_get_or (record { line = []; mark = 0 }) (store_in (put_bytes out n line) (set marks n m)) (set (store_in out marks) n new)
        (count ∙ sym (length-set (store_in out marks) n new ∙ store_length out marks)) (λ k h. each k (omega (arith, count)))
      where
        new : Cell
        new = record { line = places line; mark = m }

        count : length (store_in (put_bytes out n line) (set marks n m)) ≡ length marks
        count = store_length (put_bytes out n line) (set marks n m) ∙ length-set marks n m

        each : (k : ℕ) → k < length marks
            → cell_at (store_in (put_bytes out n line) (set marks n m)) k ≡ cell_at (set (store_in out marks) n new) k
        each k h = store_at (put_bytes out n line) (set marks n m) k (omega (arith, length-set marks n m)) ∙ go (ℕ_discrete k n)
          where
            go : Dec (k ≡ n) → cell_in (put_bytes out n line) (set marks n m) k ≡ cell_at (set (store_in out marks) n new) k
            go (yes p) =
                ap (cell_in (put_bytes out n line) (set marks n m)) p
                ∙ cell (ap places put-here) (get_or-set_same marks n m 0 inside)
                ∙ sym (ap (cell_at (set (store_in out marks) n new)) p
                ∙ get_or-set_same (store_in out marks) n new (record { line = []; mark = 0 }) (omega (arith, store_length out marks)))
            go (no q) =
                cell (ap places (put-elsewhere k h q)) (get_or-set_other marks n k m 0 q)
                ∙ sym (get_or-set_other (store_in out marks) n k new (record { line = []; mark = 0 }) q ∙ store_at out marks k h)
