-- The first 28 bytes of the buffer are 28.
use Rattle.std.proofs.Common.{arith}
use Rattle.std.proofs.lemmas.List.{length-take-le}
use Rattle.storecheck.proofs.read_header.Goals as goal

pub returns : goal.returns
returns g c = omega (arith, c.read_full.ensures.0, c.read_full.auto.buf, length-take-le 28 c.args.file.now c.requires)
