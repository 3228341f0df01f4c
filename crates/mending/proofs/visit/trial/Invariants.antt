-- `mending::visit::trial` meets its contract: after i turns the first i lines of the group have tried the places.
use mathlib.Core.Path.{◌≡◌}
use mathlib.Core.List.{◌++◌}
use Rattle.groups.proofs.Searching.{Searching}
use Rattle.mending.proofs.Trying.{Trying}
use Rattle.mending.proofs.visit.trial.Given as goal

abbrev pub invariant-search : goal.invariant-search
invariant-search l =
    (l.out ≡ l.initial.out) × (l.marks ≡ l.initial.marks) × (l.row_lacks ≡ l.initial.row_lacks) × (l.column_lacks ≡ l.initial.column_lacks) × (l.faulty ≡ l.initial.faulty)
    × Searching l.line l.tries l.n l.place-index

abbrev pub invariant-loop-i : goal.invariant-loop-i
invariant-loop-i l =
    Trying l.sides.rows l.sides.columns l.initial.out l.initial.marks (l.initial.row_lacks ++ l.initial.column_lacks) l.initial.faulty l.chosen.span.first l.chosen.span.step l.chosen.span.count l.tries
    l.out l.marks (l.row_lacks ++ l.column_lacks) l.faulty l.i
