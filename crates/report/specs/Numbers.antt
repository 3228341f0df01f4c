-- Document 01, "Store file": the report's numbers, as a program in another language reads them.
use Rattle.std.specs.Prelude.{List, [], ◌∷◌, ℕ}
use Rattle.rectangle.specs.Repair.{Buffers}
use Rattle.report.specs.declared.report.Checked.{Checked}
use Rattle.report.specs.Check.{check_store}

-- rows and columns, how many lines have each of the marks 0 to 4, and the passes
unfoldable pub check_numbers : Checked → List ℕ
check_numbers c =
    c.rows
    ∷ c.columns
    ∷ c.counts.clean
    ∷ c.counts.alone
    ∷ c.counts.trial
    ∷ c.counts.rebuilt
    ∷ c.counts.faulty
    ∷ c.passes
    ∷ []

-- what a check of a file of any size answers, its numbers, and the four buffers as it leaves them
pub record FileChecked : Type 0 where
  pub answer : ℕ
  pub numbers : List ℕ
  pub buffers : Buffers

-- the entry point: sides up to 512, so that 3 is never given
unfoldable pub check_file : List ℕ → Buffers → FileChecked
check_file file b =
    let r = check_store 512 file b in
    record { answer = r.checked.answer; numbers = check_numbers r.checked; buffers = r.buffers }
