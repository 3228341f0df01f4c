-- Request Q-6, "What would rebuilding alone save?": the passes of repair, run with a reading that accepts nothing, and what they tell of
-- repair. For any list of groups and any reading.
use Rattle.std.specs.Prelude.{◌≡◌, cond, List, [], map, ℕ, ◌≤◌, eqb, length}
use Rattle.scheme.specs.Layer.{Cell, Reading}
use Rattle.scheme.specs.Visit.{Group, State, cell_at, faulty_of, visit}
use Rattle.scheme.specs.Repair.{Repaired, pass, faulty_count, passes_from, marks_of}
use Rattle.scheme.specs.Demand3.{◌∈◌}

-- "if no trial took": a reading that accepts nothing
abbrev pub never : Reading
never n found = record { line = found; mark = 4 }

-- "without any line's bytes": a line of which one byte is known, "0 whole, anything else faulty"
abbrev pub flagged : ℕ → Cell
flagged byte = record { line = []; mark = cond (eqb byte 0) 0 4 }

-- what rebuilding alone leaves of lines known so, and its passes
unfoldable pub foreseen : List Group → List ℕ → Repaired
foreseen gs pattern = passes_from never gs (map flagged pattern)

-- groups of the same lines, whatever their parity lines are
abbrev pub SameLines : List Group → List Group → Type 0
SameLines gs hs = map (λ g. g.members) gs ≡ map (λ g. g.members) hs

-- every line that is faulty in the one store is faulty in the other
abbrev pub FaultyWithin : State → State → Type 0
FaultyWithin s t = (n : ℕ) → (cell_at s n).mark ≡ 4 → (cell_at t n).mark ≡ 4

-- "repair must leave no more lines faulty than this forecast does, and only lines that it names"
pub record Bounds (left forecast : State) : Type 0 where
  pub only : FaultyWithin left forecast
  pub no_more : faulty_count left ≤ faulty_count forecast

-- so of every store with those faulty lines or with fewer; with a reading that accepts nothing on both sides, the forecast of more faults
-- leaves those faulty that the other leaves
abbrev pub ForecastBounds : Type 0
ForecastBounds =
    (read : Reading) (gs hs : List Group) → SameLines gs hs → (s t : State) → FaultyWithin s t
    → Bounds (passes_from read gs s).cells (passes_from never hs t).cells

-- no line is mended by trial: a trial that is accepted gives its line mark 2, and an accepted line is never altered later
abbrev pub NoneByTrial : State → Type 0
NoneByTrial s = (n : ℕ) → (cell_at s n).mark ≡ 2 → ⊥

-- a mark as the forecast gives it: 1 read as 0
abbrev pub as_forecast : ℕ → ℕ
as_forecast mark = cond (eqb mark 1) 0 mark

-- the marks of t are those of s, so read
abbrev pub SameMarks : State → State → Type 0
SameMarks s t = map as_forecast (marks_of s) ≡ marks_of t

-- "the marks (0 for whole) and passes that repair would give"
pub record Exact (repaired forecast : Repaired) : Type 0 where
  pub marks : SameMarks repaired.cells forecast.cells
  pub passes : repaired.passes ≡ forecast.passes

-- where the forecast is exact: its marks and passes are those that repair gives, or would give
pub record ForecastExact : Type 0 where
  -- a visit that mends no line by trial is one with a reading that accepts nothing
  pub by_visit : (read : Reading) (g : Group) (s : State) → ((n : ℕ) → (cell_at (visit read g s) n).mark ≡ 2 → (cell_at s n).mark ≡ 2)
      → visit read g s ≡ visit never g s
  -- where no trial took, repair's marks and passes are the forecast's
  pub by_passes : (read : Reading) (gs hs : List Group) → SameLines gs hs → (s t : State) → SameMarks s t
      → NoneByTrial (passes_from read gs s).cells → Exact (passes_from read gs s) (passes_from never hs t)
  -- and where one would take, those of repair's passes without trials are: lines and parity lines do not matter
  pub untried : (gs hs : List Group) → SameLines gs hs → (s t : State) → SameMarks s t
      → Exact (passes_from never gs s) (passes_from never hs t)

-- no group holds exactly one faulty line: a stopping set, as the field calls it
abbrev pub StoppingSet : List Group → State → Type 0
StoppingSet gs left = (g : Group) → g ∈ gs → length (faulty_of left g.members) ≡ 1 → ⊥

-- it ends only when a pass rebuilds nothing, and what is left faulty is the largest stopping set among the faulty lines
pub record Ends (gs : List Group) (first left : State) : Type 0 where
  pub idle : pass never gs left ≡ left
  pub stopping : StoppingSet gs left
  pub largest : (part : State) → StoppingSet gs part → FaultyWithin part first → FaultyWithin part left

abbrev pub ForecastEnds : Type 0
ForecastEnds = (gs : List Group) (s : State) → Ends gs s (passes_from never gs s).cells
