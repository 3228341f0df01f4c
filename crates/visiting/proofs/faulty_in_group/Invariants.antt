-- `visiting::faulty_in_group` meets its contract.
use Rattle.visiting.proofs.Counting.{Counting}
use Rattle.visiting.proofs.faulty_in_group.Given as goal

abbrev pub invariant-loop-i : goal.invariant-loop-i
invariant-loop-i l = Counting l.marks l.span.first l.span.step l.span.count l.found l.i
