-- `sweep::blocks` meets its contract: after k turns the first k blocks are summed.
use Rattle.sweep.proofs.Summing.{Blocks}
use Rattle.sweep.proofs.blocks.Given as goal

abbrev pub invariant-loop-k : goal.invariant-loop-k
invariant-loop-k l = Blocks l.line l.sums l.k
