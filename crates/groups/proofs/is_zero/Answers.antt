-- `groups::is_zero` meets its contract.
use Rattle.linecode.proofs.Bytes.{array-length}
use Rattle.groups.proofs.Added.{zero-test}
use Rattle.std.proofs.Common.{rules}
use Rattle.groups.proofs.is_zero.Goals as goal

pub returns : goal.returns
returns c = zero-test c.all.result c.args.line (array-length 70 c.args.line _ c.well_formed.0) (search rules)
