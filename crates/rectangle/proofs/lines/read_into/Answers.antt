-- `rectangle::lines::read_into` meets its contract: a line that reads as it stands is copied, any other is put as it reads.
use mathlib.Core.Path.{sym}
use Rattle.rectangle.proofs.LineLayer.{read_at}
use Rattle.rectangle.proofs.Alone.{put_alone}
use Rattle.rectangle.proofs.lines.read_into.Goals as goal

pub returns-then-is_untouched : goal.returns-then-is_untouched
returns-then-is_untouched c =
    put_alone c.args.found.now c.args.n _ _ _
    (read_at c.args.found.now c.args.n _ _ c.line_at-line.ensures
    (sym (c.is_untouched.ensures c.if-is_untouched.true)))
    _ c.put_line.ensures

pub returns : goal.returns
returns c =
    put_alone c.args.found.now c.args.n _ _ _
    (read_at c.args.found.now c.args.n _ _ c.line_at-line.ensures c.read_summed-read.ensures)
    _ c.put_line-2.ensures
