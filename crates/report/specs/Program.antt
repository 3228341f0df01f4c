-- Document 01, "Store file": what the program `storecheck` prints for a file.
use Rattle.std.specs.Prelude.{List, ℕ, ◌*◌, replicate}
use Rattle.linecode.specs.Places.{line_bytes}
use Rattle.storefile.specs.Opening.{opened}
use Rattle.report.specs.Report.{ReportWritten, write_report}
use Rattle.report.specs.declared.report.Checked.{Checked}
use Rattle.rectangle.specs.Repair.{Buffers}
use Rattle.report.specs.Check.{check_store}

-- 3: the most rows and columns of a store that the program takes
unfoldable pub program_side : ℕ
program_side = 16

-- buffers of zeros that just hold a store of so many rows and columns
unfoldable pub zero_buffers : ℕ → ℕ → Buffers
zero_buffers rows columns =
    record {
      lines = replicate (rows * columns * line_bytes) 0;
      marks = replicate (rows * columns) 0;
      row_table = replicate (rows * line_bytes) 0;
      column_table = replicate (columns * line_bytes) 0;
    }

-- a check of a file; the store is repaired in such buffers, empty for a file that is not opened
unfoldable pub program_checked : List ℕ → Checked
program_checked file =
    let o = opened program_side file in
    (check_store program_side file (zero_buffers o.rows o.columns)).checked

-- the report on a file, in the first bytes of a text buffer
unfoldable pub program_report : List ℕ → List ℕ → ReportWritten
program_report file text = write_report (program_checked file) text
