-- `single::crc::of_data` meets its contract.
use Rattle.linecode.proofs.Bytes.{array-length}
use Rattle.linecode.proofs.CrcRegister.{crc-after}
use Rattle.single.proofs.crc.of_data.Goals as goal

pub returns : goal.returns
returns c =
    crc-after c.args.line _ (array-length 70 c.args.line _ c.well_formed.0) c.after_data.ensures
