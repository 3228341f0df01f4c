-- The sweep over one row, piece after piece: each line read alone, and added to the row's sum and to its column's.
use mathlib.Core.Path.{◌≡◌, refl, sym, ap, ap₂, ◌∙◌}
use mathlib.Core.Bool.{true, true≢false}
use Rattle.std.specs.Prelude.{Some, None}
use mathlib.Core.List.{List}
use Prim.Native.Nat.{ℕ, zero, suc, ◌+◌, ◌-◌, ◌*◌, ◌≤◌, ◌<◌}
use native.Mathlib.Decide.{dec_le}
use native.Mathlib.Omega.{arith}
use lib.ListN.{length, replicate}
use Rattle.gf2.specs.Word.{◌⊕◌}
use Rattle.linecode.specs.Places.{line_of, xor_bytes}
use Rattle.linecode.specs.Code.{up_from}
use Rattle.rectangle.specs.Store.{bytes_at, places_at, alone_at}
use Rattle.rectangle.specs.Refusals.{accepted_at}
use Rattle.tables.specs.Sweep.{with_lines, LinesAdded, PieceSummed, RowUnswept, RowSwept}
use Rattle.rectangle.proofs.Members.{up_from-bounds}
use Rattle.rectangle.proofs.Spare.{seventy-line_of}
use Rattle.rectangle.proofs.Alone.{seventy, length-alone}
use Rattle.rectangle.proofs.Tests.{some-fails, every-from, from-every, fails-from}
use Rattle.tables.proofs.Summing.{summed, none-summed, clean-more, clean-summed, sum-turn}
use Rattle.tables.proofs.Pieces.{line-within}

-- the loop: the first c lines of the row are summed
pub record RowTurn (lines : List ℕ) (first columns : ℕ) (old sums line : List ℕ) (c : ℕ) : Type 0 where
  pub few : c ≤ columns
  pub accepted : (k : ℕ) → k < c → accepted_at lines (first + k) ≡ true
  pub row : line ≡ line_of (summed lines first 1 c)
  pub added : (k : ℕ) → k < c → bytes_at sums k ≡ line_of (places_at old k ⊕ (alone_at lines (first + k)).line)
  pub later : (k : ℕ) → c ≤ k → k < columns → bytes_at sums k ≡ bytes_at old k

module _ (lines : List ℕ) (first columns : ℕ) (old : List ℕ) (old_room : length old ≡ 512 * 70) (u : RowUnswept lines first columns old) where
  pub row-starts : RowTurn lines first columns old old (replicate 70 0) 0
  row-starts =
      record {
        few = omega arith;
        accepted = λ k h. let z : ⊥ = omega arith in absurd z;
        row = none-summed;
        added = λ k h. let z : ⊥ = omega arith in absurd z;
        later = λ k h i. refl;
      }

  -- a line of the row lies inside the lines
  line-in : (k : ℕ) → k < columns → suc (first + k) * 70 ≤ length lines
  line-in k h =
      let below : first + k < first + columns = omega arith in
      line-within (first + k) (first + columns) (length lines) below u.inside

  module _ (sums line : List ℕ) (c : ℕ) (t : RowTurn lines first columns old sums line c) where
    module _ (count : ℕ) (h : c + count ≤ columns) (sums' : List ℕ) where
      -- a faulty line ends the row
      pub row-faulty : PieceSummed lines (first + c) count c sums sums' line None → RowSwept lines first columns old sums' None
      row-faulty p =
          let f = some-fails (accepted_at lines) (up_from (first + c) count) (sym p.answer) in
          let b = up_from-bounds (first + c) count f.0 f.1 in
          let at : first + (f.0 - first) ≡ f.0 = omega (arith, b.0) in
          record {
            answer = sym (fails-from (accepted_at lines) first columns (f.0 - first) (omega (arith, b.0, b.1)) (ap (accepted_at lines) at ∙ f.2));
            row = tt;
            added = λ z. absurd (true≢false (sym z));
          }

      -- accepted lines are added to both sums
      module _ (next : List ℕ) (p : PieceSummed lines (first + c) count c sums sums' line (Some next)) where
        a : LinesAdded (λ i. line_of (alone_at lines (first + c + i)).line) count c sums sums' line next
        a = p.added

        at : (i : ℕ) → first + c + i ≡ first + (c + i)
        at i = omega arith

        read : (i : ℕ) → line_of (alone_at lines (first + c + i)).line ≡ line_of (alone_at lines (first + (c + i))).line
        read i = ap (λ (n : ℕ). line_of (alone_at lines n).line) (at i)

        -- the row's sum with one line more of the piece
        sum-next : (i : ℕ) → i < count → (sum : List ℕ) → sum ≡ line_of (summed lines first 1 (c + i))
            → xor_bytes sum (line_of (alone_at lines (first + c + i)).line) ≡ line_of (summed lines first 1 (c + i + 1))
        sum-next i j sum q =
            sum-turn lines first 1 (c + i) (first + (c + i)) sum (xor_bytes sum (line_of (alone_at lines (first + c + i)).line)) (omega arith) within q
            (ap (xor_bytes sum) (read i)
            ∙ clean-more sum (alone_at lines (first + (c + i))).line (ap length q ∙ seventy-line_of _)
            (clean-summed lines first 1 (c + i) sum (λ k b. within k (omega arith)) q)
            (length-alone lines (first + (c + i)) (line-in (c + i) (omega arith))))
          where
            within : (k : ℕ) → k < suc (c + i) → suc (first + k * 1) * 70 ≤ length lines
            within k b = let d : k < columns = omega arith in omega (arith, line-in k d)

        summed-up : (i : ℕ) → i ≤ count → with_lines (λ k. line_of (alone_at lines (first + c + k)).line) line i ≡ line_of (summed lines first 1 (c + i))
        summed-up zero j = t.row ∙ ap (λ (k : ℕ). line_of (summed lines first 1 k)) (nought c)
          where
            nought : (c : ℕ) → c ≡ c + 0
            nought c = omega arith
        summed-up (suc i) j =
            sum-next i j (with_lines (λ k. line_of (alone_at lines (first + c + k)).line) line i) (summed-up i (omega arith))
            ∙ ap (λ (k : ℕ). line_of (summed lines first 1 k)) (more c i)
          where
            more : (c i : ℕ) → c + i + 1 ≡ c + suc i
            more c i = omega arith

        -- a column's sum with its line
        column : (i : ℕ) → i < count → bytes_at sums' (c + i) ≡ line_of (places_at old (c + i) ⊕ (alone_at lines (first + (c + i))).line)
        unfolding places_at
        column i j =
            let below : c + i < columns = omega arith in
            a.added i j
            ∙ ap₂ xor_bytes (t.later (c + i) (omega arith) below) (read i)
            ∙ clean-more (bytes_at old (c + i)) (alone_at lines (first + (c + i))).line
            (seventy old (c + i) (line-within (c + i) 512 (length old) (omega (arith, u.high)) (omega (arith, old_room))))
            (u.clean (c + i) below) (length-alone lines (first + (c + i)) (line-in (c + i) below))

        -- a line of the row that is summed now: of this piece, or before it
        by-piece : (P : ℕ → Type 0) → ((k : ℕ) → k < c → P k) → ((i : ℕ) → i < count → P (c + i)) → (k : ℕ) → k < c + count → P k
        by-piece P before within k j = go (dec_le c k)
          where
            go : Dec (c ≤ k) → P k
            go (no d) = before k (omega arith)
            go (yes b) =
                let e : k ≡ c + (k - c) = omega arith in
                rw e (within (k - c) (omega arith))

        pub row_more : RowTurn lines first columns old sums' next (c + count)
        row_more =
            record {
              few = h;
              accepted = by-piece (λ k. accepted_at lines (first + k) ≡ true) t.accepted
                  (λ i j. ap (accepted_at lines) (sym (at i)) ∙ from-every (accepted_at lines) (first + c) count (sym p.answer) i j);
              row = a.row ∙ summed-up count (omega arith);
              added = by-piece (λ k. bytes_at sums' k ≡ line_of (places_at old k ⊕ (alone_at lines (first + k)).line))
                  (λ k j. a.before k j ∙ t.added k j) column;
              later = λ k i j. a.after k i (omega (arith, u.high)) ∙ t.later k (omega arith) j;
            }

    pub row_ends : columns ≤ c → RowSwept lines first columns old sums (Some line)
    row_ends h =
        let e : c ≡ columns = omega (arith, t.few) in
        record {
          answer = sym (every-from (accepted_at lines) first columns (λ i j. t.accepted i (omega arith)));
          row = t.row ∙ ap (λ (k : ℕ). line_of (summed lines first 1 k)) e;
          added = λ z k i. t.added k (omega arith);
        }
