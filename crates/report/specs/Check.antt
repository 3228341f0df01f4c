-- Document 01, "Store file": a check of a whole store, repaired into lent buffers and its marks counted.
use Rattle.std.specs.Prelude.{cond, List, ℕ, eqb}
use Rattle.rectangle.specs.Repair.{Buffers, StoreRepaired, hands_over, repair_store}
use Rattle.storefile.specs.Header.{lines_part, row_table_part, column_table_part, bytes_in}
use Rattle.storefile.specs.Opening.{Opened, opened}
use Rattle.results.specs.Marks.{counts_of, no_counts}
use Rattle.report.specs.declared.report.Checked.{Checked}

-- the four buffers that repair writes
abbrev pub lent : List ℕ → List ℕ → List ℕ → List ℕ → Buffers
lent lines marks row_table column_table = record { lines = lines; marks = marks; row_table = row_table; column_table = column_table }

-- as repair leaves them
abbrev pub left_by : StoreRepaired → Buffers
left_by r = lent r.lines r.marks r.row_table r.column_table

-- what a check answers, and the four buffers as it leaves them
pub record StoreChecked : Type 0 where
  pub checked : Checked
  pub buffers : Buffers

-- a refusal: every value is 0
unfoldable pub refused_with : ℕ → Checked
refused_with answer = record { answer = answer; rows = 0; columns = 0; counts = no_counts; passes = 0 }

-- repair of an opened file's bodies into some buffers
unfoldable pub repair_opened : List ℕ → ℕ → ℕ → Buffers → StoreRepaired
repair_opened file rows columns b =
    repair_store rows columns
    (bytes_in file (lines_part rows columns))
    (bytes_in file (row_table_part rows columns))
    (bytes_in file (column_table_part rows columns))
    b.lines b.marks b.row_table b.column_table

-- where repair hands a store over, its marks are counted; its refusals write nothing
unfoldable pub counted : Opened → StoreRepaired → Checked
counted o r =
    cond (hands_over r.answer)
    (record { answer = r.answer; rows = o.rows; columns = o.columns; counts = counts_of r.marks; passes = r.passes })
    (refused_with r.answer)

-- the entry point: opening with a limit on rows and columns, then repair
unfoldable pub check_store : ℕ → List ℕ → Buffers → StoreChecked
check_store limit file b =
    let o = opened limit file in
    let r = repair_opened file o.rows o.columns b in
    cond (eqb o.answer 0)
    (record { checked = counted o r; buffers = left_by r })
    (record { checked = refused_with o.answer; buffers = b })
