-- `tables::sweep` meets its contract: before row r the first r rows are summed.
use Rattle.tables.proofs.Sweeping.{Sweeping}
use Rattle.tables.proofs.sweep.Given as goal

abbrev pub invariant-loop-r : goal.invariant-loop-r
invariant-loop-r l = Sweeping l.sides.rows l.sides.columns l.lines l.row_sums l.column_sums l.r
