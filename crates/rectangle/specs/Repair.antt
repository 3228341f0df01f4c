-- Document 01, "Repair", with request Q-3: lines and tables are read; a line buffer, one mark byte per line and both tables are written.
use Rattle.std.specs.Prelude.{Bool, cond, ◌||◌, List, map, ℕ, ◌*◌, eqb}
use Rattle.scheme.specs.Layer.{Layer, read_line}
use Rattle.scheme.specs.Visit.{Group, State}
use Rattle.scheme.specs.Repair.{Repaired, repair, lines_of, marks_of, answer}
use Rattle.scheme.specs.Parity.{as_read, parity_after}
use Rattle.rectangle.specs.Store.{line_layer, lines_in, buffer_of, row_groups, column_groups, groups}
use Rattle.rectangle.specs.Refusals.{repair_refusal}

-- all groups as repair uses them: each parity line as read, unusable groups without lines
unfoldable pub used_groups : Layer → ℕ → ℕ → List ℕ → List ℕ → List Group
used_groups layer rows columns row_table column_table = map (as_read layer) (groups rows columns row_table column_table)

-- the SuDoku steps on the lines of a rectangle
unfoldable pub repaired_by : Layer → ℕ → ℕ → List ℕ → List ℕ → List ℕ → Repaired
repaired_by layer rows columns lines row_table column_table =
    repair (read_line layer) (used_groups layer rows columns row_table column_table) (lines_in (rows * columns) lines)

abbrev pub repaired : ℕ → ℕ → List ℕ → List ℕ → List ℕ → Repaired
repaired = repaired_by line_layer

-- the table of some groups as the steps leave it, spare bits 0
unfoldable pub table_after : Layer → State → List Group → List ℕ
table_after layer s gs = buffer_of (map (parity_after layer s) gs)

-- the four buffers that repair writes, as they are handed in
pub record Buffers : Type 0 where
  pub lines : List ℕ
  pub marks : List ℕ
  pub row_table : List ℕ
  pub column_table : List ℕ

-- what repair answers, its passes, and the four buffers as it leaves them
pub record StoreRepaired : Type 0 where
  pub answer : ℕ
  pub passes : ℕ
  pub lines : List ℕ
  pub marks : List ℕ
  pub row_table : List ℕ
  pub column_table : List ℕ

-- the answers with which repair hands a store over: 0, 11 and 12; any other is a refusal
unfoldable pub hands_over : ℕ → Bool
hands_over answer = eqb answer 0 || (eqb answer 11 || eqb answer 12)

-- what the steps hand over
unfoldable pub handed_over : Layer → ℕ → ℕ → List ℕ → List ℕ → Repaired → StoreRepaired
handed_over layer rows columns row_table column_table r =
    record {
      answer = answer (used_groups layer rows columns row_table column_table) r.cells;
      passes = r.passes;
      lines = buffer_of (lines_of r.cells);
      marks = marks_of r.cells;
      row_table = table_after layer r.cells (row_groups rows columns row_table);
      column_table = table_after layer r.cells (column_groups rows columns column_table);
    }

-- repair with a line code: a refusal writes nothing
unfoldable pub repair_by : Layer → ℕ → ℕ → List ℕ → List ℕ → List ℕ → List ℕ → List ℕ → List ℕ → List ℕ → StoreRepaired
repair_by layer rows columns lines row_table column_table out marks row_out column_out =
    let refusal = repair_refusal rows columns lines row_table column_table out marks row_out column_out in
    cond (eqb refusal 0)
    (handed_over layer rows columns row_table column_table (repaired_by layer rows columns lines row_table column_table))
    (record { answer = refusal; passes = 0; lines = out; marks = marks; row_table = row_out; column_table = column_out })

-- the entry point
abbrev pub repair_store : ℕ → ℕ → List ℕ → List ℕ → List ℕ → List ℕ → List ℕ → List ℕ → List ℕ → StoreRepaired
repair_store = repair_by line_layer
