-- A check of a store, case by case.
use mathlib.Core.Path.{◌≡◌}
use mathlib.Core.Bool.{true, false}
use mathlib.Core.List.{List}
use Prim.Native.Nat.{ℕ}
use borrow.Author.Tests.{eq-eqb, ne_eqb}
use Rattle.rectangle.specs.Repair.{Buffers, StoreRepaired, hands_over, repair_store}
use Rattle.storefile.specs.Header.{lines_part, row_table_part, column_table_part, bytes_in}
use Rattle.storefile.specs.Opening.{opened, Opened}
use Rattle.results.specs.Marks.{counts_of}
use Rattle.report.specs.declared.report.Checked.{Checked}
use Rattle.report.specs.Check.{left_by, refused_with, repair_opened, counted, check_store}
use Rattle.storefile.specs.declared.header.Part.{Part}
use Rattle.results.specs.declared.marks.Counts.{Counts}

-- repair of three bodies, each found as a part of the file
pub repair-bodies : (file : List ℕ) (rows columns : ℕ) (b : Buffers) (p q r : Part) (lines row_table column_table : List ℕ)
    (s : StoreRepaired) → p ≡ lines_part rows columns → lines ≡ bytes_in file p → q ≡ row_table_part rows columns
    → row_table ≡ bytes_in file q → r ≡ column_table_part rows columns → column_table ≡ bytes_in file r
    → s ≡ repair_store rows columns lines row_table column_table b.lines b.marks b.row_table b.column_table
    → s ≡ repair_opened file rows columns b
unfolding repair_opened
repair-bodies file rows columns b p q r lines row_table column_table s ep el eq er eu ec es =
    rw (← ep, ← el, ← eq, ← er, ← eu, ← ec) es

module _ (limit : ℕ) (file : List ℕ) (b : Buffers) (o : Opened) (is : o ≡ opened limit file) where
  pub check-refused : (o.answer ≡ 0 → ⊥) → (k : Checked) → k ≡ refused_with o.answer
      → record { checked = k; buffers = b } ≡ check_store limit file b
  unfolding check_store
  check-refused d k e = rw (← is, ne_eqb o.answer 0 d, e)

  module _ (opens : o.answer ≡ 0) (s : StoreRepaired) (es : s ≡ repair_opened file o.rows o.columns b) where
    pub check-turned-back : hands_over s.answer ≡ false → (k : Checked) → k ≡ refused_with s.answer
        → record { checked = k; buffers = left_by s } ≡ check_store limit file b
    unfolding check_store counted
    check-turned-back h k e = rw (← is, eq-eqb o.answer 0 opens, ← es, h, e)

    pub check-counted : hands_over s.answer ≡ true → (n : Counts) → n ≡ counts_of s.marks
        → record {
          checked = record { answer = s.answer; rows = o.rows; columns = o.columns; counts = n; passes = s.passes };
          buffers = left_by s;
        } ≡ check_store limit file b
    unfolding check_store counted
    check-counted h n e = rw (← is, eq-eqb o.answer 0 opens, ← es, h, e)
