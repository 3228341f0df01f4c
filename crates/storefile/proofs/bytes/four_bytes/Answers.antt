-- `storefile::bytes::four_bytes` meets its contract.
use mathlib.Core.Path.{◌∙◌}
use Rattle.storefile.proofs.Numbers.{le-four}
use Rattle.storefile.proofs.bytes.four_bytes.Goals as goal

pub returns : goal.returns
returns c = c.from_le_bytes.ensures ∙ le-four c.args.file.now c.args.at c.requires
