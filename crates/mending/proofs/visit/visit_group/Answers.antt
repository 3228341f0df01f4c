-- `mending::visit::visit_group` meets its contract.
use Rattle.scheme.specs.Visit.{visit}
use mathlib.Core.Path.{◌∙◌}
use Rattle.groups.proofs.Joined.{joined_length}
use Rattle.groups.proofs.Rooms.{same-room}
use Rattle.mending.proofs.visit.visit_group.Goals as goal

pub settle_group-requires : goal.settle_group-requires
settle_group-requires c =
    record {
      ready = record {
        room = same-room _ _ _ _ _ _ _ _ _ _ c.requires.ready.room c.try_group.auto.out c.try_group.auto.marks (joined_length c.args.row_lacks.now c.args.column_lacks.now c.try_group.new.row_lacks c.try_group.new.column_lacks c.try_group.auto.row_lacks c.try_group.auto.column_lacks) c.try_group.auto.faulty;
        held = (c.requires.ready.held.0, _, c.try_group.ensures _ _ c.requires.ready.held.2);
        row_bytes = c.try_group.auto.row_lacks ∙ c.requires.ready.row_bytes;
        column_bytes = c.try_group.auto.column_lacks ∙ c.requires.ready.column_bytes;
      };
      group = c.requires.group;
    }

pub returns : goal.returns
unfolding visit
returns c = λ parity s carried. c.settle_group.ensures parity _ (c.try_group.ensures parity s carried)
