-- `visiting::trial` meets its contract: after i turns the first i lines of the group have tried the places.
use mathlib.Core.Path.{◌≡◌}
use Rattle.groups.proofs.Searching.{Searching}
use Rattle.visiting.proofs.Trying.{Trying}
use Rattle.visiting.proofs.trial.Given as goal

abbrev pub invariant-search : goal.invariant-search
invariant-search l =
    (l.out ≡ l.initial.out) × (l.marks ≡ l.initial.marks) × Searching l.line l.tries l.n l.place-index

abbrev pub invariant-loop-i : goal.invariant-loop-i
invariant-loop-i l = Trying l.initial.out l.initial.marks l.span.first l.span.step l.span.count l.tries l.out l.marks l.i
