-- `tables::sum_row` meets its contract: after each turn the first c lines of the row are summed.
use Prim.Native.Nat.{◌-◌}
use Rattle.tables.proofs.SweepingRow.{RowTurn}
use Rattle.tables.proofs.sum_row.Given as goal

abbrev pub invariant-loop-c : goal.invariant-loop-c
invariant-loop-c l =
    RowTurn l.lines l.first l.columns l.initial.column_sums l.column_sums l.sum l.c

abbrev pub decreases-loop-c : goal.decreases-loop-c
decreases-loop-c l = l.columns - l.c
