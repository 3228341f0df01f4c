-- `linecode::place::clear_spare` meets its contract.
use Rattle.linecode.proofs.Bytes.{array-length, array-bytes}
use Rattle.linecode.proofs.Stores.{cleared}
use Rattle.linecode.proofs.place.clear_spare.Goals as goal

pub returns : goal.returns
returns c =
    cleared c.args.line (array-length 70 c.args.line _ c.well_formed.0) (array-bytes 70 c.args.line _ c.well_formed.0)
