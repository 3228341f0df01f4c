-- `rectangle::lines::line_at` meets its contract.
use mathlib.Core.Path.{◌∙◌}
use Rattle.rectangle.proofs.Copying.{loaded-line}
use Rattle.rectangle.proofs.lines.line_at.Goals as goal

pub returns : goal.returns
returns c = c.load.ensures ∙ loaded-line c.args.buffer.now c.args.n c.requires
