-- `peeling::pattern::mark_lines` meets its contract: after n turns the first n lines are marked.
use Rattle.peeling.proofs.Marking.{Marking}
use Rattle.peeling.proofs.pattern.mark_lines.Given as goal

abbrev pub invariant-loop-n : goal.invariant-loop-n
invariant-loop-n l = Marking l.pattern l.marks l.n
