-- Request Q-6: what is promised of the forecast, for every rectangle and in bytes.
use Rattle.std.specs.Prelude.{◌≡◌, ◌⊎◌, ◌↔◌, true, false, not, List, map, ℕ, ◌≤◌, ◌<◌, ◌*◌, eqb, length, get_or}
use Rattle.scheme.specs.Layer.{read_line}
use Rattle.scheme.specs.Visit.{Group, select}
use Rattle.scheme.specs.Repair.{Repaired, read_all, passes_from, marks_of}
use Rattle.scheme.specs.Parity.{unusable}
use Rattle.scheme.specs.Demand3.{◌∈◌}
use Rattle.scheme.specs.Forecast.{never, as_forecast}
use Rattle.rectangle.specs.Store.{line_layer, lines_in, row, column, groups}
use Rattle.rectangle.specs.Refusals.{sides_fit, accepted_at}
use Rattle.rectangle.specs.Repair.{Buffers, hands_over}
use Rattle.demands.specs.Demands.{Rectangle, count, repair_of, groups_of}
use Rattle.forecast.specs.Forecast.{forecast_answers, Forecast, forecast}

-- ---- "Errors: 2 and 7, otherwise 0.": 2 exactly if the sides don't fit, 0 exactly if they do and pattern and marks have a byte for each
-- line; and document 01: refusals "write nothing", and their passes are 0
pub record AnswersOnly (rows columns : ℕ) (pattern marks : List ℕ) (given : Forecast) : Type 0 where
  pub answers : given.answer ∈ forecast_answers
  pub two : (given.answer ≡ 2) ↔ (sides_fit rows columns ≡ false)
  pub done : (given.answer ≡ 0)
      ↔ ((sides_fit rows columns ≡ true) × (length pattern ≡ rows * columns) × (length marks ≡ rows * columns))
  pub refused : (given.answer ≡ 0 → ⊥) → (given.marks ≡ marks) × (given.passes ≡ 0)

abbrev pub ForecastAnswers : Type 0
ForecastAnswers =
    (rows columns : ℕ) (pattern marks : List ℕ) → AnswersOnly rows columns pattern marks (forecast rows columns pattern marks)

-- ---- "the marks (0 for whole) and passes"
-- the number of bytes other than 0
unfoldable pub faulty_bytes : List ℕ → ℕ
faulty_bytes pattern = length (select (λ byte. not (eqb byte 0)) pattern)

-- a mark for each line, 0 exactly for those whole before, 3 rebuilt or 4 faulty for the others; passes are 0 exactly if none was faulty,
-- and never more than the lines that were
pub record Foreseen (lines : ℕ) (pattern : List ℕ) (given : Forecast) : Type 0 where
  pub each : length given.marks ≡ lines
  pub whole : (n : ℕ) → (get_or given.marks n 0 ≡ 0) ↔ (get_or pattern n 0 ≡ 0)
  pub others : (n : ℕ) → (get_or pattern n 0 ≡ 0 → ⊥) → (get_or given.marks n 0 ≡ 3) ⊎ (get_or given.marks n 0 ≡ 4)
  pub none : (given.passes ≡ 0) ↔ (faulty_bytes pattern ≡ 0)
  pub most : given.passes ≤ faulty_bytes pattern

abbrev pub ForecastGives : Type 0
ForecastGives =
    (rows columns : ℕ) (pattern marks : List ℕ) → (forecast rows columns pattern marks).answer ≡ 0
    → Foreseen (rows * columns) pattern (forecast rows columns pattern marks)

-- ---- "0 whole, anything else faulty": which other bytes stand there makes no difference
abbrev pub OnlyZerosCount : Type 0
OnlyZerosCount =
    (rows columns : ℕ) (one two marks : List ℕ) → length one ≡ length two → ((n : ℕ) → (get_or one n 0 ≡ 0) ↔ (get_or two n 0 ≡ 0))
    → forecast rows columns one marks ≡ forecast rows columns two marks

-- ---- "repair must leave no more lines faulty than this forecast does, and only lines that it names"
-- the number of marks 4
unfoldable pub faulty_marks : List ℕ → ℕ
faulty_marks marks = length (select (λ mark. eqb mark 4) marks)

pub record WithinMarks (given foreseen : List ℕ) : Type 0 where
  pub only : (n : ℕ) → get_or given n 0 ≡ 4 → get_or foreseen n 0 ≡ 4
  pub no_more : faulty_marks given ≤ faulty_marks foreseen

-- a pattern that names every line faulty after the first reading, for a rectangle "with usable parity lines"; it may name others
pub record NamesFaulty (r : Rectangle) (pattern : List ℕ) : Type 0 where
  pub each : length pattern ≡ count r
  pub named : (n : ℕ) → n < count r → get_or pattern n 0 ≡ 0 → accepted_at r.lines n ≡ true
  pub usable : (g : Group) → g ∈ groups r.rows r.columns r.row_table r.column_table → unusable line_layer g ≡ false

-- the forecast for a rectangle
abbrev pub forecast_for : Rectangle → List ℕ → List ℕ → Forecast
forecast_for r pattern marks = forecast r.rows r.columns pattern marks

-- what repair hands over, whatever it answers: 0, 11 or 12
abbrev pub RepairWithinForecast : Type 0
RepairWithinForecast =
    (r : Rectangle) (b : Buffers) (pattern marks : List ℕ) → NamesFaulty r pattern → length marks ≡ count r
    → hands_over (repair_of r b).answer ≡ true → WithinMarks (repair_of r b).marks (forecast_for r pattern marks).marks

-- ---- "the marks (0 for whole) and passes that repair would give if no trial took"
-- "with those faulty lines after the first reading": it names those and no other
pub record FaultySo (r : Rectangle) (pattern : List ℕ) : Type 0 where
  pub names : NamesFaulty r pattern
  pub no_other : (n : ℕ) → n < count r → accepted_at r.lines n ≡ true → get_or pattern n 0 ≡ 0

-- such a rectangle and pattern there are, with a line that is faulty and one that is not; `cases` computes one
pub record FaultySoMet : Type 0 where
  pub rectangle : Rectangle
  pub pattern : List ℕ
  pub so : FaultySo rectangle pattern
  pub named : (n : ℕ) × (n < count rectangle) × (accepted_at rectangle.lines n ≡ false)
  pub whole : (n : ℕ) × (n < count rectangle) × (accepted_at rectangle.lines n ≡ true)

-- marks, 1 read as 0, and passes are those foreseen
pub record AsForeseen (given : List ℕ) (number : ℕ) (foreseen : Forecast) : Type 0 where
  pub marks : map as_forecast given ≡ foreseen.marks
  pub passes : number ≡ foreseen.passes

-- where no line is mended by trial, they are those that repair hands over
abbrev pub ForecastIsRepair : Type 0
ForecastIsRepair =
    (r : Rectangle) (b : Buffers) (pattern marks : List ℕ) → FaultySo r pattern → length marks ≡ count r
    → hands_over (repair_of r b).answer ≡ true → ((n : ℕ) → get_or (repair_of r b).marks n 0 ≡ 2 → ⊥)
    → AsForeseen (repair_of r b).marks (repair_of r b).passes (forecast_for r pattern marks)

-- and always those of its steps on the same lines, read as they are and then passed over with a reading that accepts nothing
unfoldable pub untried_on : Rectangle → Repaired
untried_on r = passes_from never (groups_of r) (read_all (read_line line_layer) 0 (lines_in (count r) r.lines))

abbrev pub ForecastIsUntried : Type 0
ForecastIsUntried =
    (r : Rectangle) (pattern marks : List ℕ) → FaultySo r pattern → (forecast_for r pattern marks).answer ≡ 0
    → AsForeseen (marks_of (untried_on r).cells) (untried_on r).passes (forecast_for r pattern marks)

-- ---- the forecast of more faults leaves those faulty that the other leaves, and so no fewer
abbrev pub MoreFaultsLeaveMore : Type 0
MoreFaultsLeaveMore =
    (rows columns : ℕ) (fewer more marks marks' : List ℕ) → (forecast rows columns fewer marks).answer ≡ 0
    → (forecast rows columns more marks').answer ≡ 0 → ((n : ℕ) → get_or more n 0 ≡ 0 → get_or fewer n 0 ≡ 0)
    → WithinMarks (forecast rows columns fewer marks).marks (forecast rows columns more marks').marks

-- ---- it ends only when a pass rebuilds nothing: no row and no column holds exactly one of the lines left faulty, a stopping set
abbrev pub faulty_in : List ℕ → List ℕ → ℕ
faulty_in marks members = length (select (λ n. eqb (get_or marks n 0) 4) members)

pub record StoppingSet (rows columns : ℕ) (marks : List ℕ) : Type 0 where
  pub each_row : (k : ℕ) → k < rows → faulty_in marks (row columns k) ≡ 1 → ⊥
  pub each_column : (k : ℕ) → k < columns → faulty_in marks (column rows columns k) ≡ 1 → ⊥

-- and it gives up no other line: what is left is the largest such part of the lines named
pub record LargestLeft (rows columns : ℕ) (pattern left : List ℕ) : Type 0 where
  pub stopping : StoppingSet rows columns left
  pub largest : (part : List ℕ) → StoppingSet rows columns part → ((n : ℕ) → get_or part n 0 ≡ 4 → get_or pattern n 0 ≡ 0 → ⊥)
      → (n : ℕ) → get_or part n 0 ≡ 4 → get_or left n 0 ≡ 4

abbrev pub ForecastLeavesLargest : Type 0
ForecastLeavesLargest =
    (rows columns : ℕ) (pattern marks : List ℕ) → (forecast rows columns pattern marks).answer ≡ 0
    → LargestLeft rows columns pattern (forecast rows columns pattern marks).marks
