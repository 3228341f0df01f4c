-- `peeling::passes::visit_all` meets its contract: after k turns the first k groups are visited.
use Rattle.peeling.proofs.Passing.{Passing}
use Rattle.peeling.proofs.passes.visit_all.Given as goal

abbrev pub invariant-loop-k : goal.invariant-loop-k
invariant-loop-k l = Passing l.sides.rows l.sides.columns l.initial.marks l.marks l.faulty l.k
