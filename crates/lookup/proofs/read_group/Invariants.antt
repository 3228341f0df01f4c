-- `lookup::read_group` meets its contract: after i turns the first i lines of the group stand in the buffers as they read alone.
use Rattle.lookup.proofs.Group.{Filling}
use Rattle.lookup.proofs.read_group.Given as goal

abbrev pub invariant-loop-i : goal.invariant-loop-i
invariant-loop-i l = Filling l.lines l.initial.out l.initial.marks l.span.first l.span.step l.span.count l.out l.marks l.i
