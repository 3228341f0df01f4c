-- Request Q-4, "One caption wanted during the show": line n read alone, then by its row's visit, and only then by the whole repair.
use Rattle.std.specs.Prelude.{cond, List, [], ◌∷◌, ℕ, ◌*◌, ◌/◌, eqb, ltb, length, get_or, replicate}
use Rattle.linecode.specs.Places.{line_bytes}
use Rattle.scheme.specs.Layer.{read_line}
use Rattle.scheme.specs.Visit.{State, cell_at, is_faulty, visit}
use Rattle.scheme.specs.Repair.{read_all}
use Rattle.scheme.specs.Parity.{as_read}
use Rattle.rectangle.specs.Store.{line_layer, bytes_at, lines_in, alone_at, row_group}
use Rattle.rectangle.specs.Refusals.{unless, repair_refusal}
use Rattle.rectangle.specs.Repair.{Buffers, StoreRepaired, repair_store}

-- "then makes its row's visit as repair does": the store after a visit of row r, its parity line as read, from the first reading on
unfoldable pub after_row : ℕ → ℕ → List ℕ → List ℕ → ℕ → State
after_row rows columns lines row_table r =
    visit (read_line line_layer) (as_read line_layer (row_group columns row_table r))
    (read_all (read_line line_layer) 0 (lines_in (rows * columns) lines))

-- "It stops as soon as the line is whole, and returns the last step taken: 1 alone, 2 row, 3 whole repair."
unfoldable pub last_step : ℕ → ℕ → List ℕ → List ℕ → ℕ → ℕ
last_step rows columns lines row_table n =
    cond (is_faulty (alone_at lines n))
    (cond (is_faulty (cell_at (after_row rows columns lines row_table (n / columns)) n)) 3 2)
    1

-- repair, with the four work buffers as those that it writes
abbrev pub repair_in : ℕ → ℕ → List ℕ → List ℕ → List ℕ → Buffers → StoreRepaired
repair_in rows columns lines row_table column_table work =
    repair_store rows columns lines row_table column_table work.lines work.marks work.row_table work.column_table

-- "Errors: 2, 5, 6, 7 and 8": what repair refuses, then a line of another length, then a number that is not below the lines
unfoldable pub one_refusal : ℕ → ℕ → List ℕ → List ℕ → List ℕ → ℕ → Buffers → List ℕ → ℕ
one_refusal rows columns lines row_table column_table n work line =
    let of_repair = repair_refusal rows columns lines row_table column_table work.lines work.marks work.row_table work.column_table in
    unless (eqb of_repair 0) of_repair
    (unless (eqb (length line) line_bytes) 7
    (unless (ltb n (rows * columns)) 8 0))

-- the answers that a read of one line may give: 0, its refusals, and 11
abbrev pub one_answers : List ℕ
one_answers = 0 ∷ 2 ∷ 5 ∷ 6 ∷ 7 ∷ 8 ∷ 11 ∷ []

-- "all zero after answers 0 and 11"
abbrev pub zeroed : List ℕ → List ℕ
zeroed buffer = replicate (length buffer) 0

-- and so all four of them
abbrev pub all_zeroed : Buffers → Buffers
all_zeroed work =
    record {
      lines = zeroed work.lines;
      marks = zeroed work.marks;
      row_table = zeroed work.row_table;
      column_table = zeroed work.column_table;
    }

-- what a read of one line answers, its last step, the line's mark, and the line buffer and the four work buffers as it leaves them
pub record OneRead : Type 0 where
  pub answer : ℕ
  pub step : ℕ
  pub mark : ℕ
  pub line : List ℕ
  pub work : Buffers

-- "The line and its mark must be those that whole repair would give .. its answer is 11 exactly if this line stays faulty, otherwise 0."
abbrev pub given_by : StoreRepaired → ℕ → ℕ → Buffers → OneRead
given_by repaired n step work =
    let mark = get_or repaired.marks n 0 in
    record {
      answer = cond (eqb mark 4) 11 0;
      step = step;
      mark = mark;
      line = bytes_at repaired.lines n;
      work = all_zeroed work;
    }

-- the entry point: a refusal writes nothing, and its step and mark are 0
unfoldable pub read_one : ℕ → ℕ → List ℕ → List ℕ → List ℕ → ℕ → Buffers → List ℕ → OneRead
read_one rows columns lines row_table column_table n work line =
    let refusal = one_refusal rows columns lines row_table column_table n work line in
    cond (eqb refusal 0)
    (given_by (repair_in rows columns lines row_table column_table work) n (last_step rows columns lines row_table n) work)
    (record { answer = refusal; step = 0; mark = 0; line = line; work = work })
