-- `peeling::counts::count_row` meets its contract: after c turns the row's first c lines are counted.
use Rattle.peeling.proofs.Counting.{RowOpen}
use Rattle.peeling.proofs.counts.count_row.Given as goal

abbrev pub invariant-loop-c : goal.invariant-loop-c
invariant-loop-c l = RowOpen l.sides.rows l.sides.columns l.marks l.row.0 l.faulty l.found l.c
