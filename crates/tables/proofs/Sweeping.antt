-- The sweep over all rows, one after the other, and its sums as tables.
use mathlib.Core.Path.{◌≡◌, refl, sym, ap, ◌∙◌}
use mathlib.Core.Bool.{true, false, true≢false}
use Rattle.std.specs.Prelude.{None, Some}
use mathlib.Core.List.{List, []}
use Prim.Native.Nat.{ℕ, suc, ◌+◌, ◌-◌, ◌*◌, ◌≤◌, ◌<◌}
use native.Mathlib.Nat.{suc-mul, mul-le-mul_right}
use native.Mathlib.Numerals.{add-one}
use native.Mathlib.Decide.{dec_le}
use native.Mathlib.Omega.{arith}
use borrow.Author.Count.{below_more}
use lib.ListN.{length, replicate, length-replicate, get_or-replicate}
use lib.Seq.{ext_get_or}
use Rattle.linecode.specs.Places.{line_bytes, line_of}
use Rattle.linecode.specs.Code.{up_from}
use Rattle.rectangle.specs.Store.{bytes_at, places_at, put_bytes, put_line, row, column}
use Rattle.rectangle.specs.Refusals.{accepted_at}
use Rattle.rectangle.specs.Tables.{row_parity, column_parity, row_table_of, column_table_of}
use Rattle.tables.specs.Sweep.{RowUnswept, RowSwept, Unswept, Swept}
use Rattle.rectangle.proofs.Members.{up_from-bounds}
use Rattle.rectangle.proofs.Buffer.{byte_of, length-put_line, bytes_at-put, bytes_at-other, table_of}
use Rattle.rectangle.proofs.Area.{column-bytes}
use Rattle.rectangle.proofs.Alone.{seventy}
use Rattle.rectangle.proofs.Tests.{some-fails, from-every, every-below, fails-below}
use Rattle.tables.proofs.Summing.{summed, none-summed, clean-summed, sum-turn}

-- ---- the sums as tables
-- zeros are the sums of nothing
nothing-summed : (size k : ℕ) → size ≡ k * 70 → (n : ℕ) → n < k → bytes_at (replicate size 0) n ≡ line_of []
unfolding line_bytes
nothing-summed size k e n h =
    ext_get_or 0 (bytes_at (replicate size 0) n) (replicate 70 0) (long ∙ sym (length-replicate {A = ℕ} 70 0))
    (λ i j.
    let few : i < 70 = omega (arith, long) in
    byte_of (replicate size 0) n i few
    ∙ get_or-replicate size (n * 70 + i) 0 0 (omega (arith, bytes, suc-mul n 70))
    ∙ sym (get_or-replicate 70 i 0 0 few))
    ∙ none-summed
  where
    bytes : suc n * 70 ≤ k * 70
    bytes = mul-le-mul_right 70 h

    long : length (bytes_at (replicate size 0) n) ≡ 70
    long = seventy (replicate size 0) n (omega (arith, length-replicate {A = ℕ} size 0, bytes))

pub unswept : (rows columns : ℕ) (lines : List ℕ) (size : ℕ) → size ≡ 512 * 70 → rows ≤ 512 → columns ≤ 512
    → rows * columns * 70 ≤ length lines → Unswept rows columns lines (replicate size 0)
unswept rows columns lines size e rows_high columns_high bytes =
    record {
      rows_high = rows_high;
      columns_high = columns_high;
      line_bytes = bytes;
      nothing = λ c h. nothing-summed size 512 e c (omega arith);
    }

-- ---- the loop over the rows: r of them are summed
pub record Sweeping (rows columns : ℕ) (lines row_sums column_sums : List ℕ) (r : ℕ) : Type 0 where
  pub rows_high : rows ≤ 512
  pub columns_high : columns ≤ 512
  pub line_bytes : rows * columns * 70 ≤ length lines
  pub few : r ≤ rows
  pub row_room : length row_sums ≡ 512 * 70
  pub accepted : (n : ℕ) → n < r * columns → accepted_at lines n ≡ true
  pub row_sum : (k : ℕ) → k < r → bytes_at row_sums k ≡ line_of (row_parity columns lines k)
  pub column_sum : (c : ℕ) → c < columns → bytes_at column_sums c ≡ line_of (summed lines c columns r)

module _ (rows columns : ℕ) (lines row_sums column_sums : List ℕ) (r : ℕ)
    (s : Sweeping rows columns lines row_sums column_sums r) where
  -- the number of the row's first line
  abbrev first : ℕ
  first = r * columns

  module _ (h : r < rows) where
    -- the row's lines lie among the lines
    pub row_in : (first + columns ≤ rows * columns) × ((first + columns) * 70 ≤ length lines)
    row_in =
        let last : suc r * columns ≤ rows * columns = mul-le-mul_right columns h in
        let before : first + columns ≤ rows * columns = omega (arith, suc-mul r columns) in
        let bytes : (first + columns) * 70 ≤ rows * columns * 70 = mul-le-mul_right 70 before in
        (before, omega (arith, s.line_bytes))

    -- and its columns' sums have spare bits 0
    pub row-unswept : RowUnswept lines first columns column_sums
    row-unswept =
        record {
          inside = row_in.1;
          high = s.columns_high;
          clean = λ c i.
              clean-summed lines c columns r (bytes_at column_sums c)
              (λ j b. column-bytes rows columns (length lines) s.line_bytes c i j (omega arith)) (s.column_sum c i);
        }

    module _ (column_sums' : List ℕ) where
      -- a faulty line ends the sweep
      pub sweep-faulty : RowSwept lines first columns column_sums column_sums' None → Swept rows columns lines row_sums column_sums' false
      sweep-faulty w =
          let f = some-fails (accepted_at lines) (up_from first columns) (sym w.answer) in
          let below = (up_from-bounds first columns f.0 f.1).1 in
          record {
            answer = sym (fails-below (accepted_at lines) (rows * columns) f.0 (omega (arith, below, row_in.0)) f.2);
            row_table = λ z. absurd (true≢false (sym z));
            column_table = λ z. absurd (true≢false (sym z));
          }

      module _ (line : List ℕ) (w : RowSwept lines first columns column_sums column_sums' (Some line))
          (row_sums' : List ℕ) (g : row_sums' ≡ put_bytes row_sums r line) where
        whole : length row_sums ≡ 512 * line_bytes
        unfolding line_bytes
        whole = s.row_room

        below : r < 512
        below = omega (arith, s.rows_high)

        put : row_sums' ≡ put_line row_sums r (row_parity columns lines r)
        unfolding put_line row_parity row
        put =
            g
            ∙ ap (put_bytes row_sums r)
            w.row

        still-accepted : (n : ℕ) → n < first + columns → accepted_at lines n ≡ true
        still-accepted n i = go (dec_le first n)
          where
            go : Dec (first ≤ n) → accepted_at lines n ≡ true
            go (no d) = s.accepted n (omega arith)
            go (yes b) =
                let at : n ≡ first + (n - first) = omega arith in
                ap (accepted_at lines) at
                ∙ from-every (accepted_at lines) first columns (sym w.answer) (n - first) (omega arith)

        pub sweep-more : Sweeping rows columns lines row_sums' column_sums' (r + 1)
        unfolding places_at
        sweep-more =
            record {
              rows_high = s.rows_high;
              columns_high = s.columns_high;
              line_bytes = s.line_bytes;
              few = omega arith;
              row_room = ap length put ∙ length-put_line 512 row_sums whole r below (row_parity columns lines r) ∙ sym whole ∙ s.row_room;
              accepted = λ n i. still-accepted n (omega (arith, suc-mul r columns, ap (λ (k : ℕ). k * columns) (add-one r)));
              row_sum = below_more _ _
                  (λ k i.
                  ap (λ (b : List ℕ). bytes_at b k) put
                  ∙ bytes_at-other 512 row_sums whole r below (row_parity columns lines r) k (omega arith) (λ z. omega arith)
                  ∙ s.row_sum k i)
                  (ap (λ (b : List ℕ). bytes_at b r) put ∙ bytes_at-put 512 row_sums whole r below (row_parity columns lines r));
              column_sum = λ c i.
                  sum-turn lines c columns r (first + c) (bytes_at column_sums c) (bytes_at column_sums' c) (omega arith)
                  (λ j b. column-bytes rows columns (length lines) s.line_bytes c i j (omega arith)) (s.column_sum c i)
                  (w.added refl c i);
            }

  pub sweep-ends : rows ≤ r → Swept rows columns lines row_sums column_sums true
  unfolding row_table_of column_table_of column_parity column
  sweep-ends h =
      let e : r ≡ rows = omega (arith, s.few) in
      record {
        answer = sym (every-below (accepted_at lines) (rows * columns)
            (λ n i. s.accepted n (omega (arith, ap (λ (k : ℕ). k * columns) e))));
        row_table = λ z. table_of (row_parity columns lines) row_sums rows (λ k i. s.row_sum k (omega arith));
        column_table = λ z.
            table_of (column_parity rows columns lines) column_sums columns
            (λ c i. s.column_sum c i ∙ ap (λ (k : ℕ). line_of (summed lines c columns k)) e);
      }
