-- Document 01, "Turned back, in checking order": for each entry point the first refusal of the list that fits, or 0.
use Rattle.std.specs.Prelude.{◌≡◌, Bool, true, false, not, cond, ◌&&◌, List, [], ◌∷◌, ◌++◌, ℕ, ◌*◌, ◌/◌, ◌%◌, eqb, leb, ltb, length}
use Rattle.linecode.specs.Places.{data_bytes, line_bytes}
use Rattle.linecode.specs.Code.{up_from}
use Rattle.scheme.specs.Layer.{parity_address}
use Rattle.scheme.specs.Visit.{Group, is_faulty}
use Rattle.rectangle.specs.Store.{line_layer, is_correct_under, alone_at, row_group, column_group}

-- a test that fails gives its refusal, and otherwise the next test is made
abbrev pub unless : Bool → ℕ → ℕ → ℕ
unless passed refusal next = cond passed next refusal

-- every one of a list passes a test
abbrev pub every : {A : Type 0} → (A → Bool) → List A → Bool
every test [] = true
every test (a ∷ l) = test a && every test l

-- 2: rows and columns lie in 2 to 512
unfoldable pub side_fits : ℕ → Bool
side_fits n = leb 2 n && leb n 512

unfoldable pub sides_fit : ℕ → ℕ → Bool
sides_fit rows columns = side_fits rows && side_fits columns

-- 5, 6 and 7: a buffer has the bytes of k lines
unfoldable pub holds : ℕ → List ℕ → Bool
holds k buffer = eqb (length buffer) (k * line_bytes)

-- 6: a table is 70 bytes for each of its rows or columns
unfoldable pub tables_fit : ℕ → ℕ → List ℕ → List ℕ → Bool
tables_fit rows columns row_table column_table = holds rows row_table && holds columns column_table

-- 13 and 14, in place of 9: a row's or a column's parity line, spare bits apart, is a correct line
unfoldable pub parity_correct : Group → Bool
parity_correct g = is_correct_under (parity_address line_layer g.members) g.parity

-- 13, then 14: a row's parity line is correct, then a column's; then the next test
abbrev pub parity_refusal : Bool → Bool → ℕ → ℕ
parity_refusal of_row of_column next = unless of_row 13 (unless of_column 14 next)

-- 13 and 14 "stand in 9's place": the answer by which of the two parity lines is bad
pub record ThirteenThenFourteen : Type 0 where
  pub row : (of_column : Bool) (next : ℕ) → parity_refusal false of_column next ≡ 13
  pub column : (next : ℕ) → parity_refusal true false next ≡ 14
  pub neither : (next : ℕ) → parity_refusal true true next ≡ next

-- 10: a line is not faulty where it is read alone
unfoldable pub accepted_at : List ℕ → ℕ → Bool
accepted_at lines n = not (is_faulty (alone_at lines n))

-- making both tables: lines read, tables written
unfoldable pub tables_refusal : ℕ → ℕ → List ℕ → List ℕ → List ℕ → ℕ
tables_refusal rows columns lines row_table column_table =
    unless (sides_fit rows columns) 2
    (unless (holds (rows * columns) lines) 5
    (unless (tables_fit rows columns row_table column_table) 6
    (unless (every (accepted_at lines) (up_from 0 (rows * columns))) 10 0)))

-- the answers that making tables may give: 0 and its refusals
abbrev pub tables_answers : List ℕ
tables_answers = 0 ∷ 2 ∷ 5 ∷ 6 ∷ 10 ∷ []

-- changing line n: only its own row's parity line is tested for 13, its own column's for 14, and it alone for 10
unfoldable pub change_refusal : ℕ → ℕ → List ℕ → List ℕ → List ℕ → ℕ → List ℕ → ℕ
change_refusal rows columns lines row_table column_table n payload =
    unless (sides_fit rows columns) 2
    (unless (holds (rows * columns) lines) 5
    (unless (tables_fit rows columns row_table column_table) 6
    (unless (eqb (length payload) data_bytes) 7
    (unless (ltb n (rows * columns)) 8
    (parity_refusal
    (parity_correct (row_group columns row_table (n / columns)))
    (parity_correct (column_group rows columns column_table (n % columns)))
    (unless (accepted_at lines n) 10 0))))))

-- the answers that a change may give: 0 and its refusals
abbrev pub change_answers : List ℕ
change_answers = 0 ∷ 2 ∷ 5 ∷ 6 ∷ 7 ∷ 8 ∷ 13 ∷ 14 ∷ 10 ∷ []

-- repair: the buffers that it writes are out and marks, for lines and marks, and row_out and column_out, for both tables
unfoldable pub repair_refusal : ℕ → ℕ → List ℕ → List ℕ → List ℕ → List ℕ → List ℕ → List ℕ → List ℕ → ℕ
repair_refusal rows columns lines row_table column_table out marks row_out column_out =
    unless (sides_fit rows columns) 2
    (unless (holds (rows * columns) lines) 5
    (unless (tables_fit rows columns row_table column_table) 6
    (unless (tables_fit rows columns row_out column_out) 6
    (unless (holds (rows * columns) out && eqb (length marks) (rows * columns)) 7 0))))

-- the answers that repair may give: 0 and its refusals, and 11 and 12 of its steps
abbrev pub repair_refusals : List ℕ
repair_refusals = 0 ∷ 2 ∷ 5 ∷ 6 ∷ 7 ∷ []

abbrev pub repair_answers : List ℕ
repair_answers = repair_refusals ++ (11 ∷ 12 ∷ [])

-- the number that comes with an answer: with 13 that of the bad row, with 14 that of the bad column, otherwise 0
unfoldable pub number_with : ℕ → ℕ → ℕ → ℕ
number_with answer row column = cond (eqb answer 13) row (cond (eqb answer 14) column 0)
