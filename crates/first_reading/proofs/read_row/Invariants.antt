-- `first_reading::read_row` meets its contract: after some turns the first c lines of the row are read and added.
use mathlib.Core.Path.{◌≡◌}
use mathlib.Core.List.{◌++◌}
use Prim.Native.Nat.{◌-◌, ◌*◌}
use lib.ListN.{length}
use Rattle.first_reading.proofs.Sweeping.{Sweeping}
use Rattle.first_reading.proofs.read_row.Given as goal

abbrev pub invariant-loop-c : goal.invariant-loop-c
invariant-loop-c l =
    Sweeping l.sides.rows l.sides.columns l.found l.initial.out l.initial.marks (l.row_lacks ++ l.initial.column_lacks) l.initial.faulty l.row.0 l.first l.out l.marks (l.row_lacks ++ l.column_lacks) l.faulty l.tally.difference l.tally.hurt l.c
    × (length l.column_lacks ≡ l.sides.columns * 70)

abbrev pub decreases-loop-c : goal.decreases-loop-c
decreases-loop-c l = l.sides.columns - l.c
