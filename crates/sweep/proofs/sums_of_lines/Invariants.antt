-- `sweep::sums_of_lines` meets its contract: after i turns the first i lines are summed.
use Rattle.sweep.proofs.Summing.{Lines}
use Rattle.sweep.proofs.sums_of_lines.Given as goal

abbrev pub invariant-loop-i : goal.invariant-loop-i
invariant-loop-i l = Lines l.buffer l.sums l.n l.i
