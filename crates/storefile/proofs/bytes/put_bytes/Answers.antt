-- `storefile::bytes::put_bytes` meets its contract.
use mathlib.Core.Path.{refl}
use native.Mathlib.Omega.{arith}
use Rattle.storefile.proofs.Placing.{placed-part}
use Rattle.storefile.proofs.bytes.put_bytes.Goals as goal

pub returns : goal.returns
returns c =
    record {
      after = refl;
      put = rw c.copy_from_slice.ensures.after (placed-part c.args.out.now c.args.at c.args.bytes.now _ (omega arith));
    }
