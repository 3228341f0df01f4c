-- "Of correct lines a parity line is itself a correct line": tables made from lines that read alone as accepted.
use mathlib.Core.Path.{◌≡◌, ap}
use mathlib.Core.Bool.{true, not}
use mathlib.Core.List.{List}
use Prim.Native.Nat.{ℕ, zero, suc, ◌+◌, ◌*◌, ◌<◌}
use native.Mathlib.Nat.{not-suc-le-zero}
use native.Mathlib.Omega.{arith}
use borrow.Author.Tests.{ne_eqb, not-true}
use lib.ListN.{length}
use Rattle.gf2.specs.Word.{Word}
use Rattle.gf2.proofs.Weight.{distance_self}
use Rattle.linecode.specs.Places.{line_bytes}
use Rattle.scheme.specs.Layer.{read_line, CorrectLine, parity_address, ReadsAs, Promises}
use Rattle.scheme.specs.Visit.{sum}
use Rattle.scheme.specs.Demand3.{◌∈◌}
use Rattle.scheme.proofs.Used.{reads-correct}
use Rattle.scheme.proofs.Written.{parity-correct}
use Rattle.rectangle.specs.Store.{line_layer, places_at, alone_at, stride, row, column, row_group, column_group}
use Rattle.rectangle.specs.Refusals.{parity_correct, accepted_at}
use Rattle.rectangle.specs.Tables.{row_parity, column_parity, row_table_of, column_table_of}
use Rattle.rectangle.proofs.LineLayer.{parity-passes}
use Rattle.rectangle.proofs.Buffer.{length-places_at, table_at}
use Rattle.rectangle.proofs.Groups.{row_inside, column-inside}

module _ (promises : Promises line_layer) where
  -- a correct line reads alone as itself
  pub correct-reads : (n : ℕ) (w : Word) → CorrectLine line_layer n w → ReadsAs w (read_line line_layer n w)
  correct-reads n w c =
      promises.corrects (line_layer.address n) w w c (promises.sized (line_layer.address n) w c) (omega (arith, distance_self w))

  pub alone-correct : (lines : List ℕ) (n : ℕ) → CorrectLine line_layer n (places_at lines n)
      → (alone_at lines n).line ≡ places_at lines n
  unfolding alone_at
  alone-correct lines n c = (correct-reads n (places_at lines n) c).gives

  pub correct-accepted : (lines : List ℕ) (n : ℕ) → CorrectLine line_layer n (places_at lines n) → accepted_at lines n ≡ true
  unfolding accepted_at alone_at
  correct-accepted lines n c =
      let r : ReadsAs (places_at lines n) (read_line line_layer n (places_at lines n)) = correct-reads n (places_at lines n) c in
      ap not (ne_eqb (read_line line_layer n (places_at lines n)).mark 4 (λ e. let z : ⊥ = omega arith in z))

  -- the exclusive or of correct lines at equal steps is a correct line
  pub sum-correct : (line : ℕ → Word) (first step count : ℕ) → 0 < count
      → ((m : ℕ) → m ∈ stride first step count → CorrectLine line_layer m (line m))
      → line_layer.Correct (parity_address line_layer (stride first step count)) (sum line (stride first step count))
  sum-correct line first step zero h c = absurd (not-suc-le-zero h)
  sum-correct line first step (suc count) h c = parity-correct line_layer promises line first (stride (first + step) step count) c

  -- ---- lines that read alone as accepted
  module _ (k : ℕ) (lines : List ℕ) (whole : length lines ≡ k * line_bytes) where
    pub accepted-correct : (n : ℕ) → n < k → accepted_at lines n ≡ true → CorrectLine line_layer n (alone_at lines n).line
    unfolding accepted_at alone_at
    accepted-correct n h e =
        reads-correct line_layer promises (line_layer.address n) (places_at lines n) (length-places_at k lines whole n h) (not-true _ e)

  -- ---- the tables made from them
  module _ (rows columns : ℕ) (some_rows : 0 < rows) (some : 0 < columns) (lines : List ℕ)
      (whole : length lines ≡ rows * columns * line_bytes)
      (accepted : (n : ℕ) → n < rows * columns → accepted_at lines n ≡ true) where
    pub row_parity-correct : (r : ℕ) → r < rows
        → line_layer.Correct (parity_address line_layer (row columns r)) (row_parity columns lines r)
    unfolding row_parity row
    row_parity-correct r h =
        sum-correct (λ n. (alone_at lines n).line) (r * columns) 1 columns some
        (λ m i.
        let inside : m < rows * columns = row_inside rows columns some r m h i in
        accepted-correct (rows * columns) lines whole m inside (accepted m inside))

    pub column_parity-correct : (c : ℕ) → c < columns
        → line_layer.Correct (parity_address line_layer (column rows columns c)) (column_parity rows columns lines c)
    unfolding column_parity column
    column_parity-correct c h =
        sum-correct (λ n. (alone_at lines n).line) c columns rows some_rows
        (λ m i.
        let inside : m < rows * columns = column-inside rows columns some c m h i in
        accepted-correct (rows * columns) lines whole m inside (accepted m inside))

    -- parity lines read back from the tables made
    pub row_table-at : (r : ℕ) → r < rows → places_at (row_table_of rows columns lines) r ≡ row_parity columns lines r
    unfolding row_table_of
    row_table-at r h =
        table_at (row_parity columns lines) rows
        (λ n i. promises.sized (parity_address line_layer (row columns n)) _ (row_parity-correct n i)) r h

    pub column_table-at : (c : ℕ) → c < columns → places_at (column_table_of rows columns lines) c ≡ column_parity rows columns lines c
    unfolding column_table_of
    column_table-at c h =
        table_at (column_parity rows columns lines) columns
        (λ n i. promises.sized (parity_address line_layer (column rows columns n)) _ (column_parity-correct n i)) c h

    -- tables whose parity lines have these places are accepted by refusals 13 and 14
    module _ (row_table column_table : List ℕ) (rows_agree : (r : ℕ) → r < rows → places_at row_table r ≡ row_parity columns lines r)
        (columns_agree : (c : ℕ) → c < columns → places_at column_table c ≡ column_parity rows columns lines c) where
      pub row-passes : (r : ℕ) → r < rows → parity_correct (row_group columns row_table r) ≡ true
      row-passes r h = parity-passes (row_group columns row_table r) _ (rows_agree r h) (row_parity-correct r h)

      pub column-passes : (c : ℕ) → c < columns → parity_correct (column_group rows columns column_table c) ≡ true
      column-passes c h = parity-passes (column_group rows columns column_table c) _ (columns_agree c h) (column_parity-correct c h)
