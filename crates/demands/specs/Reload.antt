-- Request Q-2, "Which table to reload": what 13, 14 and the number that comes with them tell of the tables, and that 9 is not given.
use Rattle.std.specs.Prelude.{◌≡◌, true, List, ℕ, ◌/◌, ◌%◌, ◌<◌, length}
use Rattle.linecode.specs.Places.{data_bytes}
use Rattle.scheme.specs.Layer.{parity_address}
use Rattle.scheme.specs.Demand3.{◌∈◌}
use Rattle.rectangle.specs.Store.{line_layer, places_at, row, column}
use Rattle.rectangle.specs.Refusals.{sides_fit, holds, tables_fit, tables_answers, change_answers, repair_answers}
use Rattle.rectangle.specs.Change.{LineChanged}
use Rattle.rectangle.specs.Repair.{Buffers}
use Rattle.demands.specs.Demands.{Rectangle, count, tables_for, change_in, repair_of}

-- ---- "13, a bad row parity line, and 14, a bad column parity line": those of row k and of column k are correct lines
abbrev pub RowCorrect : Rectangle → ℕ → Type 0
RowCorrect r k = line_layer.Correct (parity_address line_layer (row r.columns k)) (places_at r.row_table k)

abbrev pub ColumnCorrect : Rectangle → ℕ → Type 0
ColumnCorrect r k = line_layer.Correct (parity_address line_layer (column r.rows r.columns k)) (places_at r.column_table k)

-- ---- "the number of the first bad row or column is returned with it, otherwise 0": a change tests its own row and column alone
-- "otherwise 0": with any other answer than 13 and 14
abbrev pub OtherwiseZero : ℕ → ℕ → Type 0
OtherwiseZero answer number = (answer ≡ 13 → ⊥) → (answer ≡ 14 → ⊥) → number ≡ 0

-- what a change's answer and number tell, of line n's own row and column
pub record ChangeNames (r : Rectangle) (n : ℕ) (given : LineChanged) : Type 0 where
  pub row : given.answer ≡ 13 → (given.number ≡ n / r.columns) × (RowCorrect r given.number → ⊥)
  pub column : given.answer ≡ 14 → (given.number ≡ n % r.columns) × (ColumnCorrect r given.number → ⊥)
  pub row_first : given.answer ≡ 14 → RowCorrect r (n / r.columns)
  pub otherwise : OtherwiseZero given.answer given.number
  -- where the line is changed, both of its parity lines were correct
  pub row_correct : given.answer ≡ 0 → RowCorrect r (n / r.columns)
  pub column_correct : given.answer ≡ 0 → ColumnCorrect r (n % r.columns)

abbrev pub ChangeNamesOwn : Type 0
ChangeNamesOwn = (r : Rectangle) (n : ℕ) (payload : List ℕ) → ChangeNames r n (change_in r n payload)

-- ---- 13 and 14 "stand in 9's place": where nothing before them is refused, a bad parity line is answered with them
-- the sides, the lines and the tables fit
pub record Fits (r : Rectangle) : Type 0 where
  pub sides : sides_fit r.rows r.columns ≡ true
  pub line_bytes : holds (count r) r.lines ≡ true
  pub table_bytes : tables_fit r.rows r.columns r.row_table r.column_table ≡ true

pub record BadRefused : Type 0 where
  pub change_row : (r : Rectangle) → Fits r → (n : ℕ) (payload : List ℕ) → length payload ≡ data_bytes → n < count r
      → (RowCorrect r (n / r.columns) → ⊥) → (change_in r n payload).answer ≡ 13
  pub change_column : (r : Rectangle) → Fits r → (n : ℕ) (payload : List ℕ) → length payload ≡ data_bytes → n < count r
      → RowCorrect r (n / r.columns) → (ColumnCorrect r (n % r.columns) → ⊥) → (change_in r n payload).answer ≡ 14

-- ---- "9 is no longer given.": each of these entry points gives its own answers only; for files and the single line it is said where
-- they are defined
pub record AnswersGiven : Type 0 where
  pub tables : (r : Rectangle) (old_rows old_columns : List ℕ) → (tables_for r old_rows old_columns).answer ∈ tables_answers
  pub change : (r : Rectangle) (n : ℕ) (payload : List ℕ) → (change_in r n payload).answer ∈ change_answers
  pub repair : (r : Rectangle) (b : Buffers) → (repair_of r b).answer ∈ repair_answers

-- and 9 is in none of the three lists
pub record NineNotGiven : Type 0 where
  pub tables : (r : Rectangle) (old_rows old_columns : List ℕ) → (tables_for r old_rows old_columns).answer ≡ 9 → ⊥
  pub change : (r : Rectangle) (n : ℕ) (payload : List ℕ) → (change_in r n payload).answer ≡ 9 → ⊥
  pub repair : (r : Rectangle) (b : Buffers) → (repair_of r b).answer ≡ 9 → ⊥

-- ---- request Q-3: "repair no longer gives 13 or 14"
pub record NeitherByRepair : Type 0 where
  pub thirteen : (r : Rectangle) (b : Buffers) → (repair_of r b).answer ≡ 13 → ⊥
  pub fourteen : (r : Rectangle) (b : Buffers) → (repair_of r b).answer ≡ 14 → ⊥
