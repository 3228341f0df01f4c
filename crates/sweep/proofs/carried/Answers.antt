-- `sweep::carried` meets its contract.
use Rattle.sweep.proofs.Entries.{carried-low, carried-high}
use Rattle.sweep.proofs.carried.Goals as goal

pub returns : goal.returns
returns c =
    rw c.to_le_bytes.ensures
    (carried-low c.args.table.now.entries.now c.args.table.now.lent c.args.r, carried-high c.args.table.now.entries.now c.args.table.now.lent c.args.r)
