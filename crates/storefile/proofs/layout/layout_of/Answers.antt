-- `storefile::layout::layout_of` meets its contract.
use Rattle.storefile.proofs.Layouts.{layout-given}
use Rattle.storefile.proofs.layout.layout_of.Goals as goal

pub returns : goal.returns
returns c = layout-given c.args.file.now c.open.result c.open.ensures c.map.result c.map.ensures.cases
