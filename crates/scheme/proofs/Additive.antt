-- Parity is linear, for any group and any widths.
use mathlib.Core.Path.{sym}
use Rattle.scheme.specs.Linear.{ParityLinear}
use Rattle.scheme.proofs.Sums.{sum-xor}

pub parity-linear : ParityLinear
parity-linear line other members = sym (sum-xor line other members)
