-- `storefile::bytes::put_number` meets its contract.
use mathlib.Core.Path.{ap, ◌∙◌}
use native.Mathlib.Omega.{arith}
use lib.ListN.{take}
use Rattle.storefile.proofs.Numbers.{low-bytes, length-little_endian}
use Rattle.storefile.proofs.Placing.{placed-part}
use Rattle.storefile.proofs.bytes.put_number.Goals as goal

pub returns : goal.returns
returns g c =
    let written = c.copy_from_slice.ensures.after ∙ ap (take g.row.N) c.to_le_bytes.ensures ∙ low-bytes g.row.N c.args.n c.requires.few in
    rw written (placed-part c.args.out.now c.args.at _ _ (omega (arith, length-little_endian g.row.N c.args.n)))
