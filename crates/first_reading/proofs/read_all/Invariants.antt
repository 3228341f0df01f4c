-- `first_reading::read_all` meets its contract: after r turns the first r rows are read.
use mathlib.Core.Path.{◌≡◌}
use mathlib.Core.List.{◌++◌}
use Prim.Native.Nat.{◌*◌}
use lib.ListN.{length}
use Rattle.first_reading.proofs.Sweeping.{Swept}
use Rattle.first_reading.proofs.read_all.Given as goal

abbrev pub invariant-loop-r : goal.invariant-loop-r
invariant-loop-r l = Swept l.sides.rows l.sides.columns l.found (l.initial.row_lacks ++ l.initial.column_lacks) l.initial.faulty l.out l.marks (l.row_lacks ++ l.column_lacks) l.faulty l.first l.r
    × (length l.row_lacks ≡ l.sides.rows * 70) × (length l.column_lacks ≡ l.sides.columns * 70)
