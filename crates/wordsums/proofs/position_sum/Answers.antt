-- `wordsums::position_sum` meets its contract: the data and the four bytes after them are bytes 0 to 67.
use mathlib.Core.Path.{ap, ◌∙◌}
use Rattle.gf2.specs.Check.{column_sum}
use Rattle.linecode.specs.Code.{positions}
use Rattle.linecode.proofs.Bytes.{array-length}
use Rattle.linecode.proofs.Positions.{length-positions}
use Rattle.linecode.proofs.WordBytes.{last-half, protected-sum}
use Rattle.wordsums.proofs.position_sum.Goals as goal

pub returns : goal.returns
returns c =
    let whole = array-length 70 c.args.line _ c.well_formed.0 in
    c.sum_with.ensures
    ∙ ap (column_sum positions) (last-half c.args.line whole c.half_at.result c.half_at.ensures)
    ∙ protected-sum c.args.line whole positions length-positions
