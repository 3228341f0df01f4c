-- `repair::steps` meets its contract.
use mathlib.Core.Path.{◌∙◌}
use Rattle.groups.proofs.Joined.{both-length}
use Rattle.repair.proofs.Handing.{zero-marks-long, room_for, finished}
use Rattle.repair.proofs.steps.Goals as goal

pub run_passes-passes-requires : goal.run_passes-passes-requires
run_passes-passes-requires c =
    let rows_long = c.read_all.auto.row_lacks ∙ c.requires.room.2 in
    let columns-long = c.read_all.auto.column_lacks ∙ c.requires.room.3 in
    record {
      ready = record {
        room = room_for _ _ _ _ _ _ _ _ c.requires.room.0 c.read_all.auto.out c.read_all.auto.marks (both-length c.read_all.new.row_lacks c.read_all.new.column_lacks _ _ rows_long columns-long) (c.read_all.auto.faulty ∙ zero-marks-long);
        held = (c.requires.some.0, _, c.read_all.ensures _ c.requires.some.1);
        row_bytes = rows_long;
        column_bytes = columns-long;
      };
      marks = c.requires.room.4;
    }

pub returns : goal.returns
returns c =
    λ parity tracked.
    finished _ _ _ parity _ _ _ _ _ _ _ _ _ _ _ (c.read_all.ensures parity tracked) c.run_passes-passes.ensures
    (c.run_passes-passes.auto.marks ∙ c.read_all.auto.marks ∙ c.requires.room.0.mark_bytes) c.outcome_after-outcome.ensures
