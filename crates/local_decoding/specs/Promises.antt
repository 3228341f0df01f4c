-- What is promised of a read of one line beyond its definition (request Q-4); the proofs stand in proofs/.
use Rattle.std.specs.Prelude.{◌≡◌, ◌⊎◌, ◌↔◌, true, List, ℕ, ◌/◌, ◌≤◌, ◌<◌, length, get_or}
use Rattle.linecode.specs.Places.{line_bytes, places, line_of}
use Rattle.linecode.specs.declared.alone.Reading as Given
use Rattle.scheme.specs.Layer.{CorrectLine}
use Rattle.scheme.specs.Visit.{cell_at}
use Rattle.scheme.specs.Demand3.{◌∈◌}
use Rattle.rectangle.specs.Store.{line_layer, bytes_at, places_at, alone_at, in_bytes}
use Rattle.rectangle.specs.Repair.{Buffers, hands_over}
use Rattle.demands.specs.Demands.{Rectangle, count, Room, repair_of, Written, WithinBounds, DamagedSo}
use Rattle.local_decoding.specs.Lookup.{after_row, one_answers, all_zeroed, OneRead, read_one}

-- the entry point on a rectangle
unfoldable pub read_in : Rectangle → ℕ → Buffers → List ℕ → OneRead
read_in r n work line = read_one r.rows r.columns r.lines r.row_table r.column_table n work line

-- a read that is not refused
abbrev pub Done : OneRead → Type 0
Done given = (given.answer ≡ 0) ⊎ (given.answer ≡ 11)

-- the line with its mark
abbrev pub line_with : OneRead → Given.Reading
line_with given = record { line = given.line; mark = given.mark }

-- ---- "The line and its mark must be those that whole repair would give, also where that ends in 11 or 12", "its answer is 11 exactly if
-- this line stays faulty, otherwise 0", "The work buffers .. are all zero after answers 0 and 11"
pub record AsRepairGives (r : Rectangle) (n : ℕ) (work : Buffers) (given : OneRead) : Type 0 where
  -- repair is not refused there; it answers 0, 11 or 12
  pub repaired : hands_over (repair_of r work).answer ≡ true
  pub line : given.line ≡ bytes_at (repair_of r work).lines n
  pub mark : given.mark ≡ get_or (repair_of r work).marks n 0
  pub eleven : (given.answer ≡ 11) ↔ (given.mark ≡ 4)
  pub cleared : given.work ≡ all_zeroed work

abbrev pub OneAsRepair : Type 0
OneAsRepair =
    (r : Rectangle) (n : ℕ) (work : Buffers) (line : List ℕ) → Done (read_in r n work line)
    → AsRepairGives r n work (read_in r n work line)

-- ---- "a read of line n that reads it alone, then makes its row's visit as repair does, and only if both fail runs the whole repair": what
-- the last step tells, and what the line is by it
pub record StepTells (r : Rectangle) (n : ℕ) (given : OneRead) : Type 0 where
  pub steps : (1 ≤ given.step) × (given.step ≤ 3)
  -- alone
  pub one : (given.step ≡ 1) ↔ ((alone_at r.lines n).mark ≡ 4 → ⊥)
  pub alone : given.step ≡ 1 → line_with given ≡ in_bytes (alone_at r.lines n)
  -- by the visit
  pub by_row : given.step ≡ 2
      → line_with given ≡ in_bytes (cell_at (after_row r.rows r.columns r.lines r.row_table (n / r.columns)) n)
  -- "only if both fail": then, and always then, the whole repair was run
  pub three : (given.step ≡ 3) ↔ ((cell_at (after_row r.rows r.columns r.lines r.row_table (n / r.columns)) n).mark ≡ 4)
  -- a line that stays faulty has had all three steps
  pub whole : given.answer ≡ 11 → given.step ≡ 3

abbrev pub StepsTell : Type 0
StepsTell = (r : Rectangle) (n : ℕ) (work : Buffers) (line : List ℕ) → Done (read_in r n work line) → StepTells r n (read_in r n work line)

-- ---- "Errors: 2, 5, 6, 7 and 8": no answer is given but these, 0 and 11, so never 12; each of these five writes nothing, and step and
-- mark are 0
pub record OneRefused : Type 0 where
  pub answers : (r : Rectangle) (n : ℕ) (work : Buffers) (line : List ℕ) → (read_in r n work line).answer ∈ one_answers
  pub nothing : (r : Rectangle) (n : ℕ) (work : Buffers) (line : List ℕ) → (Done (read_in r n work line) → ⊥)
      → read_in r n work line ≡ record { answer = (read_in r n work line).answer; step = 0; mark = 0; line = line; work = work }
  -- it is done exactly where repair hands over and the line's length and number fit
  pub only : (r : Rectangle) (n : ℕ) (work : Buffers) (line : List ℕ) → hands_over (repair_of r work).answer ≡ true
      → length line ≡ line_bytes → n < count r → Done (read_in r n work line)
  pub asked : (r : Rectangle) (n : ℕ) (work : Buffers) (line : List ℕ) → Done (read_in r n work line)
      → (hands_over (repair_of r work).answer ≡ true) × (length line ≡ line_bytes) × (n < count r)

-- ---- Document 00: "a caption mended into the wrong words stands there as the play."
pub record OneSafe : Type 0 where
  -- whatever was damaged: with 0 the line is a correct line, with 11 it is as found, spare bits 0
  pub correct : (r : Rectangle) (n : ℕ) (work : Buffers) (line : List ℕ) → (read_in r n work line).answer ≡ 0
      → CorrectLine line_layer n (places (read_in r n work line).line)
  pub as_found : (r : Rectangle) (n : ℕ) (work : Buffers) (line : List ℕ) → (read_in r n work line).answer ≡ 11
      → (read_in r n work line).line ≡ line_of (places_at r.lines n)
  -- within the bounds of demand 3, whatever the order: with 0 it is the line written
  pub not_wrong : (written received : Rectangle) → Written written → WithinBounds written received → (n : ℕ) (work : Buffers) (line : List ℕ)
      → (read_in received n work line).answer ≡ 0 → (read_in received n work line).line ≡ bytes_at written.lines n
  -- damaged so as demand 3 asks, every line wanted is the line written
  pub returned : (written received : Rectangle) → Written written → DamagedSo written received → (n : ℕ) (work : Buffers) (line : List ℕ)
      → Room received work → length line ≡ line_bytes → n < count written
      → ((read_in received n work line).answer ≡ 0) × ((read_in received n work line).line ≡ bytes_at written.lines n)
