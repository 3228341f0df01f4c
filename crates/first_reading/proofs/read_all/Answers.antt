-- `first_reading::read_all` meets its contract: after r turns the first r rows are read.
use mathlib.Core.Path.{◌∙◌}
use Rattle.groups.proofs.Joined.{joined_length}
use Rattle.groups.proofs.Rooms.{same-room}
use Rattle.first_reading.proofs.Sweeping.{swept-start, swept-next, swept-end}
use Rattle.first_reading.proofs.read_all.Goals as goal

pub loop-r-init : goal.loop-r-init
loop-r-init c =
    (swept-start _ _ _ _ _ _ _ c.requires.room, c.requires.lines.1, c.requires.lines.2)

pub loop-r-preserved : goal.loop-r-preserved
loop-r-preserved c = (
  swept-next _ _ _ _ _ _ _ _ _ _ _ _ _ _ _ c.loop-r.invariant.0 c.loop-r-test.true
      (same-room _ _ _ _ _ _ _ _ _ _ c.loop-r.invariant.0.room c.read_row.auto.out c.read_row.auto.marks (joined_length c.loop-r.row_lacks c.loop-r.column_lacks c.read_row.new.row_lacks c.read_row.new.column_lacks c.read_row.auto.row_lacks c.read_row.auto.column_lacks) c.read_row.auto.faulty)
      c.read_row.ensures,
  c.read_row.auto.row_lacks ∙ c.loop-r.invariant.1,
  c.read_row.auto.column_lacks ∙ c.loop-r.invariant.2,
)

pub returns : goal.returns
returns c = swept-end _ _ _ _ _ _ _ _ _ _ _ c.loop-r.invariant.0 c.loop-r-test.false c.requires.lines.0
