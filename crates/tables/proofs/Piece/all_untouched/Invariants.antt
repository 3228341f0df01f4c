-- `tables::Piece::all_untouched` meets its contract: before line i the first i lines read as they stand.
use Prim.Native.Nat.{◌+◌}
use Rattle.rectangle.specs.Store.{bytes_at}
use Rattle.tables.proofs.Pieces.{PieceTurn}
use Rattle.tables.proofs.Piece.all_untouched.Given as goal

abbrev pub invariant-loop-i : goal.invariant-loop-i
invariant-loop-i l = PieceTurn l.self.buffer.now l.self.first (λ k. bytes_at l.self.buffer.now (l.self.first + k)) l.i
