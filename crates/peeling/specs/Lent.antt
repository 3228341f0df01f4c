-- What the functions of the forecast ask of marks and counts, and what they make of the store that has these marks.
use Rattle.std.specs.Prelude.{◌≡◌, Bool, cond, ◌&&◌, List, Result, Ok, Err, ℕ, ◌+◌, ◌*◌, ◌≤◌, ◌<◌, eqb, ltb, length, get_or}
use Rattle.rectangle.specs.declared.answers.Refusal.{Refusal}
use Rattle.scheme.specs.Visit.{Group, State, select, visit}
use Rattle.scheme.specs.Repair.{marks_of, pass, passes_from}
use Rattle.scheme.specs.Forecast.{never, flagged}
use Rattle.groups.specs.Lent.{members_of}
use Rattle.forecast.specs.Forecast.{bare_groups}

-- each group's number is how many of its lines pass a test
abbrev pub CountedBy : ℕ → ℕ → (ℕ → Bool) → List ℕ → Type 0
CountedBy rows columns test faulty =
    (k : ℕ) → k < rows + columns → get_or faulty k 0 ≡ length (select test (members_of rows columns k))

-- a line is marked faulty
abbrev pub marked_faulty : List ℕ → ℕ → Bool
marked_faulty marks n = eqb (get_or marks n 0) 4

-- a line is one of the first n, and marked faulty
abbrev pub faulty_before : List ℕ → ℕ → ℕ → Bool
faulty_before marks n m = ltb m n && marked_faulty marks m

-- a rectangle's sides, and room for a number for each group
pub record Sides (rows columns : ℕ) (faulty : List ℕ) : Type 0 where
  pub rows_low : 2 ≤ rows
  pub rows_high : rows ≤ 512
  pub columns_low : 2 ≤ columns
  pub columns_high : columns ≤ 512
  pub counts : length faulty ≡ 1024

-- a mark for each line, and beside each group how many of its lines are marked faulty
pub record Counted (rows columns : ℕ) (marks faulty : List ℕ) : Type 0 where
  pub sides : Sides rows columns faulty
  pub mark_bytes : length marks ≡ rows * columns
  pub each : CountedBy rows columns (marked_faulty marks) faulty

-- a faulty line counts 1
abbrev pub one_if_faulty : ℕ → ℕ
one_if_faulty mark = cond (eqb mark 4) 1 0

-- whatever store has these marks before, f of it has those after
abbrev pub Becomes : (State → State) → List ℕ → List ℕ → Type 0
Becomes f marks marks' = (s : State) → marks ≡ marks_of s → marks' ≡ marks_of (f s)

-- so after the visit of a group of these lines, whatever its parity line is
abbrev pub Visits : List ℕ → List ℕ → List ℕ → Type 0
Visits members marks marks' = (g : Group) → g.members ≡ members → Becomes (visit never g) marks marks'

-- after a pass over all groups
abbrev pub Passes : ℕ → ℕ → List ℕ → List ℕ → Type 0
Passes rows columns = Becomes (pass never (bare_groups rows columns))

-- and after all passes, which are so many
pub record RanPasses (rows columns : ℕ) (marks marks' : List ℕ) (passes : ℕ) : Type 0 where
  pub cells : Becomes (λ s. (passes_from never (bare_groups rows columns) s).cells) marks marks'
  pub number : (s : State) → marks ≡ marks_of s → passes ≡ (passes_from never (bare_groups rows columns) s).passes

-- the mark that a byte of the pattern gives
abbrev pub mark_of : ℕ → ℕ
mark_of byte = (flagged byte).mark

-- the passes that a forecast answers: none where it is turned back
abbrev pub passes_of : Result ℕ Refusal → ℕ
passes_of (Ok passes) = passes
passes_of (Err refusal) = 0
