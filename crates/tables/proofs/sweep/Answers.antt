-- `tables::sweep` meets its contract: before row r the first r rows are summed.
use Rattle.tables.proofs.Sweeping.{row-unswept, sweep-faulty, sweep-more, sweep-ends}
use Rattle.tables.proofs.sweep.Goals as goal

pub sum_row-requires : goal.sum_row-requires
sum_row-requires c =
    row-unswept c.args.sides.rows _ _ c.loop-r.row_sums c.loop-r.column_sums c.loop-r.r c.loop-r.invariant c.loop-r-test.true

pub returns-in_default : goal.returns-in_default
returns-in_default c =
    sweep-faulty _ _ _ c.loop-r.row_sums c.loop-r.column_sums c.loop-r.r c.loop-r.invariant c.loop-r-test.true _ c.in_default.ensures

pub loop-r-preserved : goal.loop-r-preserved
loop-r-preserved c =
    sweep-more _ _ _ c.loop-r.row_sums c.loop-r.column_sums c.loop-r.r c.loop-r.invariant c.loop-r-test.true _ _ c.in-Some.ensures _
    c.put_row_parity.ensures

pub returns : goal.returns
returns c = sweep-ends _ _ _ c.loop-r.row_sums c.loop-r.column_sums c.loop-r.r c.loop-r.invariant c.loop-r-test.false
