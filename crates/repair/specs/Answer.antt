-- What repair answers, in the numbers of document 01.
use Rattle.std.specs.Prelude.{ℕ, Result, Ok, Err}
use Rattle.rectangle.specs.declared.answers.Refusal.{Refusal}
use Rattle.rectangle.specs.Answers.{number_of, outcome_number}
use Rattle.repair.specs.declared.Repaired.{Repaired}

-- the outcome's number, or the refusal's
abbrev pub repair_answer : Result Repaired Refusal → ℕ
repair_answer (Ok repaired) = outcome_number repaired.outcome
repair_answer (Err refusal) = number_of refusal

-- the passes; a call that is turned back makes none
abbrev pub repair_passes : Result Repaired Refusal → ℕ
repair_passes (Ok repaired) = repaired.passes
repair_passes (Err refusal) = 0
