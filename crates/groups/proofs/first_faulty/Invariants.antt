-- `groups::first_faulty` meets its contract.
use mathlib.Core.Path.{◌≡◌}
use Rattle.rectangle.specs.Store.{stride}
use Rattle.groups.specs.Lent.{faulty_among}
use Rattle.groups.proofs.Walk.{left}
use Rattle.groups.proofs.first_faulty.Given as goal

abbrev pub invariant-loop-i : goal.invariant-loop-i
invariant-loop-i l =
    faulty_among l.marks (stride l.span.first l.span.step l.span.count)
    ≡ faulty_among l.marks (left l.span.first l.span.step l.span.count l.i)
