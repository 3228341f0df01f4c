-- `tables::Piece::sum` meets its contract: the lines are added from where they are, or read first.
use Rattle.rectangle.proofs.Buffer.{piece-sums}
use Rattle.tables.proofs.Pieces.{taken-sums, piece-summed}
use Rattle.tables.proofs.Piece.sum.Goals as goal

pub all_untouched-requires-clause-summed : goal.all_untouched-requires-clause-summed
all_untouched-requires-clause-summed c =
    taken-sums _ _ _ _
    (piece-sums c.args.self.buffer.now c.args.self.first c.args.self.count c.sums_of_lines-sums.result c.sums_of_lines-sums.ensures)

pub read-requires-clause-summed : goal.read-requires-clause-summed
read-requires-clause-summed c =
    taken-sums _ _ _ _
    (piece-sums c.args.self.buffer.now c.args.self.first c.args.self.count c.sums_of_lines-sums.result c.sums_of_lines-sums.ensures)

pub returns-then-all_untouched : goal.returns-then-all_untouched
returns-then-all_untouched c = piece-summed _ _ _ _ _ _ _ _ _ (c.all_untouched.ensures c.if-all_untouched.true) c.add.ensures
