-- `storefile::opening::part_of` meets its contract.
use Rattle.storefile.proofs.Openings.{part-reached}
use Rattle.storefile.proofs.opening.part_of.Goals as goal

pub returns : goal.returns
returns c = part-reached c.args.file.now c.args.p _ _ c.min.ensures c.min-2.ensures
