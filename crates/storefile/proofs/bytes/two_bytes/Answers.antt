-- `storefile::bytes::two_bytes` meets its contract.
use mathlib.Core.Path.{◌∙◌}
use Rattle.storefile.proofs.Numbers.{le-two}
use Rattle.storefile.proofs.bytes.two_bytes.Goals as goal

pub returns : goal.returns
returns c = c.from_le_bytes.ensures ∙ le-two c.args.file.now c.args.at c.requires
