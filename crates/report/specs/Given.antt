-- What a check and the report give, in the numbers of the definitions.
use Rattle.std.specs.Prelude.{ℕ, Result, Ok, Err}
use Rattle.rectangle.specs.Answers.{number_of, outcome_number}
use Rattle.rectangle.specs.declared.answers.Refusal.{Refusal}
use Rattle.report.specs.declared.report.Checked.{Checked}
use Rattle.report.specs.Check.{refused_with}
use Rattle.report.specs.declared.check.Found.{Found}

-- what a check finds, and of a refusal its number and zeros
abbrev pub checked_as : Result Found Refusal → Checked
checked_as (Ok found) =
    record {
      answer = outcome_number found.outcome;
      rows = found.sides.rows;
      columns = found.sides.columns;
      counts = found.counts;
      passes = found.passes;
    }
checked_as (Err refusal) = refused_with (number_of refusal)

-- the report's length, which is 0 where none is written
abbrev pub size_of : Result ℕ Refusal → ℕ
size_of (Ok size) = size
size_of (Err refusal) = 0
