-- `peeling::passes::run_passes` meets its contract: the passes made and those still to come are all passes.
use Rattle.peeling.proofs.Running.{Running}
use Rattle.peeling.proofs.passes.run_passes.Given as goal

abbrev pub invariant-loop-before : goal.invariant-loop-before
invariant-loop-before l =
    Running l.sides.rows l.sides.columns l.initial.marks l.marks l.faulty l.passes l.before

abbrev pub decreases-loop-before : goal.decreases-loop-before
decreases-loop-before l = l.before
