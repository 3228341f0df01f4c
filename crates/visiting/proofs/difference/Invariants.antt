-- `visiting::difference` meets its contract.
use Rattle.visiting.proofs.Summing.{Summing}
use Rattle.visiting.proofs.difference.Given as goal

abbrev pub invariant-loop-i : goal.invariant-loop-i
invariant-loop-i l = Summing l.out l.initial.sum l.span.first l.span.step l.span.count l.sum l.i
