-- `visiting::visit_group` meets its contract.
use Rattle.scheme.specs.Visit.{visit}
use Rattle.visiting.proofs.Becoming.{becomes-then}
use Rattle.visiting.proofs.visit_group.Goals as goal

pub returns : goal.returns
unfolding visit
returns c = becomes-then _ _ _ _ _ _ c.try_group.auto.marks _ _ c.try_group.ensures c.settle_group.ensures
