-- Request Q-3, "Parity lines in the same magnetic cells": what repair makes of the tables. Facts about a group are said for any list of
-- groups; rows and columns are instances.
use Rattle.std.specs.Prelude.{◌≡◌, true, false, List, ℕ, ◌*◌, ◌≤◌, ◌<◌, length, get_or}
use Rattle.linecode.specs.Places.{line_bytes, line_of}
use Rattle.scheme.specs.Layer.{CorrectLine, parity_address}
use Rattle.scheme.specs.Visit.{Group, sum}
use Rattle.scheme.specs.Parity.{read_parity, unusable, no_lines}
use Rattle.scheme.specs.Demand3.{◌∈◌}
use Rattle.rectangle.specs.Store.{line_layer, bytes_at, places_at, row_groups, column_groups, groups}
use Rattle.rectangle.specs.Repair.{Buffers, hands_over}
use Rattle.demands.specs.Demands.{Rectangle, count, repair_of, groups_of, EqualTables}
use Rattle.demands.specs.Demands.{SameShape, TurnsAmong, Order, DamagedSo, damage, Agrees}

-- ---- "accepted ones as read, faulty ones as found unless made afresh": the table of some groups, as it is handed over beside lines
pub record TableGiven (gs : List Group) (lines table : List ℕ) (answer : ℕ) : Type 0 where
  pub bytes : length table ≡ length gs * line_bytes
  -- an accepted parity line is never altered, and it is a correct line
  pub accepted : (k : ℕ) → k < length gs → unusable line_layer (get_or gs k no_lines) ≡ false
      → bytes_at table k ≡ line_of (read_parity line_layer (get_or gs k no_lines)).line
  pub correct : (k : ℕ) → k < length gs → unusable line_layer (get_or gs k no_lines) ≡ false
      → line_layer.Correct (parity_address line_layer (get_or gs k no_lines).members) (places_at table k)
  -- where lines are left faulty, a faulty one is as found, spare bits 0
  pub as_found : answer ≡ 11 → (k : ℕ) → k < length gs → unusable line_layer (get_or gs k no_lines) ≡ true
      → bytes_at table k ≡ line_of (get_or gs k no_lines).parity
  -- "When no line is left faulty, unusable parity lines are made afresh.": the sum of its group's lines as they are handed over
  pub afresh : (answer ≡ 11 → ⊥) → (k : ℕ) → k < length gs → unusable line_layer (get_or gs k no_lines) ≡ true
      → bytes_at table k ≡ line_of (sum (places_at lines) (get_or gs k no_lines).members)
  -- and so then every one is a correct line
  pub all_correct : (answer ≡ 11 → ⊥) → (k : ℕ) → k < length gs
      → line_layer.Correct (parity_address line_layer (get_or gs k no_lines).members) (places_at table k)

pub record TablesGiven : Type 0 where
  pub rows : (r : Rectangle) (b : Buffers) → hands_over (repair_of r b).answer ≡ true
      → TableGiven (row_groups r.rows r.columns r.row_table) (repair_of r b).lines (repair_of r b).row_table (repair_of r b).answer
  pub columns : (r : Rectangle) (b : Buffers) → hands_over (repair_of r b).answer ≡ true
      → TableGiven (column_groups r.rows r.columns r.column_table) (repair_of r b).lines (repair_of r b).column_table
      (repair_of r b).answer

-- ---- "Answer 12 compares only the accepted ones.": with 0 each of them is the sum of its group's lines, with 12 some is not
pub record Differs (gs : List Group) (lines : List ℕ) : Type 0 where
  pub group : Group
  pub listed : group ∈ gs
  pub usable : unusable line_layer group ≡ false
  pub differs : sum (places_at lines) group.members ≡ (read_parity line_layer group).line → ⊥

pub record AcceptedCompared : Type 0 where
  pub agree : (r : Rectangle) (b : Buffers) → (repair_of r b).answer ≡ 0
      → (g : Group) → g ∈ groups r.rows r.columns r.row_table r.column_table → unusable line_layer g ≡ false
      → sum (places_at (repair_of r b).lines) g.members ≡ (read_parity line_layer g).line
  pub differ : (r : Rectangle) (b : Buffers) → (repair_of r b).answer ≡ 12
      → Differs (groups r.rows r.columns r.row_table r.column_table) (repair_of r b).lines

-- ---- whatever was damaged: every line handed over with another mark than 4 is a correct line (a mark left out would be a 4)
abbrev pub GivenCorrect : Type 0
GivenCorrect =
    (r : Rectangle) (b : Buffers) → hands_over (repair_of r b).answer ≡ true
    → (n : ℕ) → n < count r → (get_or (repair_of r b).marks n 4 ≡ 4 → ⊥) → CorrectLine line_layer n (places_at (repair_of r b).lines n)

-- ---- and with answer 0 what is handed over agrees with its tables, so that any of its lines can be changed at once
-- the rectangle that repair hands over
abbrev pub handed : Rectangle → Buffers → Rectangle
handed r b =
    record {
      rows = r.rows;
      columns = r.columns;
      lines = (repair_of r b).lines;
      row_table = (repair_of r b).row_table;
      column_table = (repair_of r b).column_table;
    }

abbrev pub WholeAfterZero : Type 0
WholeAfterZero = (r : Rectangle) (b : Buffers) → (repair_of r b).answer ≡ 0 → Agrees (handed r b)

-- ---- where every parity line is correct, as demand 3 asked before, all groups are used as they are found
abbrev pub CorrectAsFound : Type 0
CorrectAsFound =
    (r : Rectangle)
    → ((g : Group) → g ∈ groups r.rows r.columns r.row_table r.column_table
    → line_layer.Correct (parity_address line_layer g.members) g.parity)
    → groups_of r ≡ groups r.rows r.columns r.row_table r.column_table

-- ---- demand 3 before the request: "both parity tables are undamaged", and every group counts in the order
module _ (written received : Rectangle) where
  pub record DamagedBefore : Type 0 where
    pub shape : SameShape written received
    pub tables : EqualTables received written
    pub five : (n : ℕ) → n < count written → damage written received n ≤ 5
    pub ordered : Order written received (TurnsAmong written received (λ k. Unit {0}) (λ k. Unit {0}))

-- whatever was damaged so before is damaged so now
abbrev pub BeforeImplies : Type 0
BeforeImplies = (written received : Rectangle) → DamagedBefore written received → DamagedSo written received
