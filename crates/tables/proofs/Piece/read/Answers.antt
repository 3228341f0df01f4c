-- `tables::Piece::read` meets its contract: before line i the first i lines are read.
use mathlib.Core.Path.{◌∙◌}
use native.Mathlib.Omega.{arith}
use Rattle.tables.proofs.Pieces.{piece-more, piece-ends}
use Rattle.tables.proofs.Piece.read.Goals as goal

pub loop-i-preserved : goal.loop-i-preserved
loop-i-preserved c = (
  c.read_into-mark.auto.out ∙ c.loop-i.invariant.0,
  piece-more _ _ _ c.args.self.few c.loop-i.room c.loop-i.invariant.0 c.loop-i.i c.loop-i.invariant.1
      (omega arith) _ c.read_into-mark.ensures.0 c.read_into-mark.result c.read_into-mark.ensures.1 (λ z. omega arith),
)

pub returns : goal.returns
returns c = piece-ends _ _ _ c.loop-i.i _ c.loop-i.invariant.1 (omega arith)
