-- `repair::passes::visit_all` meets its contract: after k turns the first k groups are visited.
use mathlib.Core.Path.{◌≡◌}
use mathlib.Core.List.{◌++◌}
use Prim.Native.Nat.{◌*◌}
use lib.ListN.{length}
use Rattle.repair.proofs.Passing.{Passing}
use Rattle.repair.proofs.passes.visit_all.Given as goal

abbrev pub invariant-loop-k : goal.invariant-loop-k
invariant-loop-k l =
    Passing l.sides.rows l.sides.columns l.parity_marks l.initial.out l.initial.marks (l.initial.row_lacks ++ l.initial.column_lacks) l.initial.faulty l.out l.marks (l.row_lacks ++ l.column_lacks) l.faulty l.k
    × (length l.row_lacks ≡ l.sides.rows * 70) × (length l.column_lacks ≡ l.sides.columns * 70)
