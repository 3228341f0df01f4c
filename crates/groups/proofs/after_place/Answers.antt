-- `groups::after_place` meets its contract.
use native.Mathlib.Omega.{arith}
use Rattle.linecode.proofs.Bytes.{array-length}
use Rattle.groups.proofs.Listing.{byte_past}
use Rattle.groups.proofs.after_place.Goals as goal

pub returns-then-line-i-eq0 : goal.returns-then-line-i-eq0
returns-then-line-i-eq0 c =
    (omega arith, omega arith, byte_past c.args.line (array-length 70 c.args.line _ c.well_formed.0) c.args.i c.if-i-lt536.true c.if-i-eq0.true c.if-line-i-eq0.true)
