-- `repair::passes::run_passes` meets its contract: the passes made and those still to come are all passes.
use mathlib.Core.Path.{◌≡◌}
use mathlib.Core.List.{◌++◌}
use Prim.Native.Nat.{◌*◌}
use lib.ListN.{length}
use Rattle.repair.proofs.Running.{Running}
use Rattle.repair.proofs.passes.run_passes.Given as goal

abbrev pub invariant-loop-before : goal.invariant-loop-before
invariant-loop-before l =
    Running l.sides.rows l.sides.columns l.parity_marks l.initial.out l.initial.marks (l.initial.row_lacks ++ l.initial.column_lacks) l.initial.faulty l.out l.marks (l.row_lacks ++ l.column_lacks) l.faulty l.passes l.before
    × (length l.row_lacks ≡ l.sides.rows * 70) × (length l.column_lacks ≡ l.sides.columns * 70)

abbrev pub decreases-loop-before : goal.decreases-loop-before
decreases-loop-before l = l.before
