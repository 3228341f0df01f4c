-- `tables::sum_row` meets its contract: after each turn the first c lines of the row are summed.
use native.Mathlib.Omega.{arith}
use Rattle.tables.proofs.SweepingRow.{row-starts, row-faulty, row_more, row_ends}
use Rattle.tables.proofs.sum_row.Goals as goal

pub loop-c-init : goal.loop-c-init
loop-c-init c = row-starts _ _ _ _ c.told-column_sums c.requires

pub returns-in_err-next : goal.returns-in_err-next
returns-in_err-next c =
    rw c.from_residual.ensures
    (row-faulty _ _ _ _ c.told-column_sums c.requires c.loop-c.column_sums c.loop-c.sum c.loop-c.c c.loop-c.invariant
    c.min.result (omega arith) _ c.in_err-next.ensures)

pub loop-c-preserved : goal.loop-c-preserved
loop-c-preserved c =
    row_more _ _ _ _ c.told-column_sums c.requires c.loop-c.column_sums c.loop-c.sum c.loop-c.c c.loop-c.invariant
    c.min.result (omega arith) _ _ c.in_ok-next.ensures

pub returns : goal.returns
returns c =
    row_ends _ _ _ _ c.told-column_sums c.requires c.loop-c.column_sums c.loop-c.sum c.loop-c.c c.loop-c.invariant
    c.loop-c-test.false
