-- `first_reading::add_piece` meets its contract: after i turns i lines of the piece are added.
use Rattle.first_reading.proofs.Adding.{Adding}
use Rattle.first_reading.proofs.add_piece.Given as goal

abbrev pub invariant-loop-i : goal.invariant-loop-i
invariant-loop-i l =
    Adding l.sides.rows l.out l.marks l.initial.column_lacks l.initial.faulty l.n l.column.0 l.count l.initial.row.difference l.initial.row.hurt l.column_lacks l.faulty l.row.difference l.row.hurt l.i
