-- `linecode::crc::stored` meets its contract.
use mathlib.Core.Path.{◌∙◌}
use native.Mathlib.Omega.{arith}
use Rattle.linecode.proofs.Bytes.{array-length, array-bytes}
use Rattle.linecode.proofs.Stores.{stored_crc-number}
use Rattle.linecode.proofs.crc.stored.Goals as goal

pub returns : goal.returns
returns c =
    c.from_le_bytes.ensures ∙ omega arith
    ∙ stored_crc-number c.args.line (array-length 70 c.args.line _ c.well_formed.0) (array-bytes 70 c.args.line _ c.well_formed.0)
