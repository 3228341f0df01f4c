-- `parity::read_again` meets its contract.
use native.Mathlib.Omega.{arith}
use mathlib.Core.Path.{◌∙◌}
use Rattle.std.proofs.Common.{◌≢◌}
use Rattle.linecode.proofs.Bytes.{array-length}
use Rattle.rectangle.proofs.LineLayer.{read-unchanged}
use Rattle.parity.proofs.read_again.Goals as goal

pub returns : goal.returns
returns c =
    let other : c.args.mark ≢ 1 = omega arith in
    c.clear_spare.ensures
    ∙ read-unchanged c.args.found (array-length 70 c.args.found _ c.well_formed.1.0) (λ e. other (c.requires ∙ e))
