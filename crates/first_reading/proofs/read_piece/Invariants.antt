-- `first_reading::read_piece` meets its contract: after i turns i lines of the piece are read.
use Rattle.first_reading.proofs.FirstReading.{ReadingOn}
use Rattle.first_reading.proofs.read_piece.Given as goal

abbrev pub invariant-loop-i : goal.invariant-loop-i
invariant-loop-i l = ReadingOn l.found l.initial.out l.initial.marks l.n l.count l.out l.marks l.i
