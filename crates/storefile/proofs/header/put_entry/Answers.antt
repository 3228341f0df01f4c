-- `storefile::header::put_entry` meets its contract.
use Rattle.storefile.proofs.Headers.{entry-put}
use Rattle.storefile.proofs.header.put_entry.Goals as goal

pub returns : goal.returns
returns c = entry-put c.args.out.now c.args.at c.requires c.args.p _ _ c.put_number.ensures c.put_number-2.ensures
