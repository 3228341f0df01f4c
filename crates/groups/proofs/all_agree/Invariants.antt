-- `groups::all_agree` meets its contract.
use mathlib.Core.List.{◌++◌}
use Prim.Native.Nat.{◌+◌}
use Rattle.groups.specs.Lent.{agrees_at}
use Rattle.rectangle.proofs.InTurn.{Passed}
use Rattle.groups.proofs.all_agree.Given as goal

abbrev pub invariant-loop-k : goal.invariant-loop-k
invariant-loop-k l = Passed (agrees_at (l.row_lacks ++ l.column_lacks) l.parity_marks) (l.sides.rows + l.sides.columns) l.k
