-- `single::crc::matches` meets its contract.
use Rattle.linecode.proofs.Bytes.{array-length}
use Rattle.linecode.proofs.Line.{length-places}
use Rattle.paper_order.proofs.Matching.{matches-numbers}
use Rattle.single.proofs.crc.matches.Goals as goal

pub returns : goal.returns
returns c =
    matches-numbers _ _ _ (length-places c.args.line (array-length 70 c.args.line _ c.well_formed.0)) c.requires c.stored.ensures
