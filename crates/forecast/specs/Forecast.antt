-- Request Q-6, "What would rebuilding alone save?": one byte for each line is read, and a mark for each line written.
use Rattle.std.specs.Prelude.{Bool, cond, ◌&&◌, List, [], ◌∷◌, ℕ, ◌*◌, eqb, length}
use Rattle.scheme.specs.Visit.{Group}
use Rattle.scheme.specs.Repair.{Repaired, marks_of}
use Rattle.scheme.specs.Forecast.{foreseen}
use Rattle.rectangle.specs.Store.{groups}
use Rattle.rectangle.specs.Refusals.{unless, sides_fit}

-- the groups in visiting order; "without any line's bytes", so their parity lines are empty
unfoldable pub bare_groups : ℕ → ℕ → List Group
bare_groups rows columns = groups rows columns [] []

-- "the marks (0 for whole) and passes that repair would give if no trial took and all parity lines were usable"
unfoldable pub foreseen_in : ℕ → ℕ → List ℕ → Repaired
foreseen_in rows columns pattern = foreseen (bare_groups rows columns) pattern

-- 7: "one byte for each line"
unfoldable pub one_for_each : ℕ → ℕ → List ℕ → Bool
one_for_each rows columns bytes = eqb (length bytes) (rows * columns)

-- "Errors: 2 and 7, otherwise 0."
unfoldable pub forecast_refusal : ℕ → ℕ → List ℕ → List ℕ → ℕ
forecast_refusal rows columns pattern marks =
    unless (sides_fit rows columns) 2
    (unless (one_for_each rows columns pattern && one_for_each rows columns marks) 7 0)

-- the answers that a forecast may give: 0 and its refusals
abbrev pub forecast_answers : List ℕ
forecast_answers = 0 ∷ 2 ∷ 7 ∷ []

-- what a forecast answers, its passes, and the marks as it leaves them
pub record Forecast : Type 0 where
  pub answer : ℕ
  pub passes : ℕ
  pub marks : List ℕ

-- the entry point: marks are those handed in where it is refused
unfoldable pub forecast : ℕ → ℕ → List ℕ → List ℕ → Forecast
forecast rows columns pattern marks =
    let refusal = forecast_refusal rows columns pattern marks in
    let end = foreseen_in rows columns pattern in
    cond (eqb refusal 0)
    (record { answer = 0; passes = end.passes; marks = marks_of end.cells })
    (record { answer = refusal; passes = 0; marks = marks })
