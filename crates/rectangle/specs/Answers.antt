-- Document 01, "Turned back, in checking order": the numbers of refusals and of the outcomes with which repair hands a store over.
use Rattle.std.specs.Prelude.{◌≡◌, ◌≢◌, ℕ, Result, Ok, Err, MatchResult}
use Rattle.rectangle.specs.declared.answers.Refusal.{Refusal}
use Rattle.rectangle.specs.declared.answers.Refusal.TheVariants.{Short, Sides, Limit, Contents, Lines, Tables, Room, Number, Faulty, RowParity, ColumnParity, NoReport}
use Rattle.rectangle.specs.declared.answers.Outcome.{Outcome}
use Rattle.rectangle.specs.declared.answers.Outcome.TheVariants.{Done, Left, Differs}

-- a refusal's number
abbrev pub number_of : Refusal → ℕ
number_of Short = 1
number_of Sides = 2
number_of Limit = 3
number_of Contents = 4
number_of Lines = 5
number_of Tables = 6
number_of Room = 7
number_of Number = 8
number_of Faulty = 10
number_of (RowParity row) = 13
number_of (ColumnParity column) = 14
number_of NoReport = 15

-- what a call answers in numbers: 0, or its refusal's number
abbrev pub answer_of : {A : Type 0} → Result A Refusal → ℕ
answer_of (Ok given) = 0
answer_of (Err refusal) = number_of refusal

-- the number that comes with an answer: with 13 that of the bad row, with 14 that of the bad column, otherwise 0
abbrev pub index_of : Refusal → ℕ
index_of (RowParity row) = row.0
index_of (ColumnParity column) = column.0
index_of _ = 0

abbrev pub index_with : {A : Type 0} → Result A Refusal → ℕ
index_with (Ok given) = 0
index_with (Err refusal) = index_of refusal

-- an outcome's number
abbrev pub outcome_number : Outcome → ℕ
outcome_number Done = 0
outcome_number Left = 11
outcome_number Differs = 12

-- a number's outcome, where it has one
abbrev pub OutcomeOf : ℕ → Result Outcome ℕ → Type 0
OutcomeOf number r = MatchResult r (λ outcome. outcome_number outcome ≡ number) (λ n. (n ≡ number) × ((o : Outcome) → outcome_number o ≢ number))

-- what a call answers in numbers that hands a store over: its outcome's number, or its refusal's
abbrev pub outcome_answer : Result Outcome Refusal → ℕ
outcome_answer (Ok outcome) = outcome_number outcome
outcome_answer (Err refusal) = number_of refusal
