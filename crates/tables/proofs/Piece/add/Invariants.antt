-- `tables::Piece::add` meets its contract: before line i the first i lines are added.
use Prim.Native.Nat.{◌+◌}
use Rattle.rectangle.specs.Store.{bytes_at}
use Rattle.tables.specs.Sweep.{LinesAdded}
use Rattle.tables.proofs.Piece.add.Given as goal

abbrev pub invariant-loop-i : goal.invariant-loop-i
invariant-loop-i l =
    LinesAdded (λ k. bytes_at l.self.buffer.now (l.self.first + k)) l.i l.c l.initial.column_sums l.column_sums l.initial.total l.total
