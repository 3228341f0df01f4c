-- `tables::Piece::read` meets its contract: before line i the first i lines are read.
use mathlib.Core.Path.{◌≡◌}
use lib.ListN.{length}
use Rattle.rectangle.specs.Store.{bytes_at}
use Rattle.tables.proofs.Pieces.{PieceTurn}
use Rattle.tables.proofs.Piece.read.Given as goal

abbrev pub invariant-loop-i : goal.invariant-loop-i
invariant-loop-i l = (length l.room ≡ 560) × PieceTurn l.self.buffer.now l.self.first (bytes_at l.room) l.i
