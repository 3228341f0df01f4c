-- `repair::passes::run_passes` meets its contract: the passes made and those still to come are all passes.
use native.Mathlib.Omega.{arith}
use mathlib.Core.Path.{◌∙◌}
use Rattle.std.proofs.Common.{◌≢◌}
use mathlib.Core.List.{◌++◌}
use Rattle.groups.specs.Lent.{Room}
use Rattle.groups.proofs.Joined.{joined_length}
use Rattle.groups.proofs.Rooms.{same-room}
use Rattle.repair.proofs.Running.{running-start, running-some, running-end, running-idle, running-less, running-next}
use Rattle.repair.proofs.passes.run_passes.Goals as goal

pub loop-before-init : goal.loop-before-init
loop-before-init c =
    (running-start _ _ _ _ _ _ _ _ c.requires.ready.held c.requires.ready.room c.count_faulty-before.ensures, c.requires.ready.row_bytes, c.requires.ready.column_bytes)

pub visit_all-requires : goal.visit_all-requires
visit_all-requires c =
    record {
      ready = record {
        room = c.loop-before.invariant.0.room;
        held = running-some _ _ _ _ _ _ _ _ _ _ _ _ _ c.loop-before.invariant.0 c.requires.ready.held;
        row_bytes = c.loop-before.invariant.1;
        column_bytes = c.loop-before.invariant.2;
      };
      marks = c.requires.marks;
    }

pub returns-then-left-before : goal.returns-then-left-before
returns-then-left-before c =
    let after-pass : Room c.args.sides.rows c.args.sides.columns c.visit_all.new.out c.visit_all.new.marks (c.visit_all.new.row_lacks ++ c.visit_all.new.column_lacks) c.visit_all.new.faulty =
    same-room _ _ _ _ _ _ _ _ _ _ c.loop-before.invariant.0.room c.visit_all.auto.out c.visit_all.auto.marks (joined_length c.loop-before.row_lacks c.loop-before.column_lacks c.visit_all.new.row_lacks c.visit_all.new.column_lacks c.visit_all.auto.row_lacks c.visit_all.auto.column_lacks) c.visit_all.auto.faulty in
    running-idle _ _ _ _ _ _ _ _ _ _ _ _ _ c.loop-before.invariant.0 c.loop-before-test.true _ _ _ _ after-pass c.visit_all.ensures _ c.count_faulty-left.ensures c.if-left-before.true

pub loop-before-smaller : goal.loop-before-smaller
loop-before-smaller c =
    let after-pass : Room c.args.sides.rows c.args.sides.columns c.visit_all.new.out c.visit_all.new.marks (c.visit_all.new.row_lacks ++ c.visit_all.new.column_lacks) c.visit_all.new.faulty =
    same-room _ _ _ _ _ _ _ _ _ _ c.loop-before.invariant.0.room c.visit_all.auto.out c.visit_all.auto.marks (joined_length c.loop-before.row_lacks c.loop-before.column_lacks c.visit_all.new.row_lacks c.visit_all.new.column_lacks c.visit_all.auto.row_lacks c.visit_all.auto.column_lacks) c.visit_all.auto.faulty in
    let other : c.count_faulty-left.result ≢ c.loop-before.before = omega arith in
    running-less _ _ _ _ _ _ _ _ _ _ _ _ _ c.loop-before.invariant.0 c.loop-before-test.true _ _ _ _ after-pass c.visit_all.ensures _ c.count_faulty-left.ensures other c.requires.ready.held

pub loop-before-preserved : goal.loop-before-preserved
loop-before-preserved c =
    let after-pass : Room c.args.sides.rows c.args.sides.columns c.visit_all.new.out c.visit_all.new.marks (c.visit_all.new.row_lacks ++ c.visit_all.new.column_lacks) c.visit_all.new.faulty =
    same-room _ _ _ _ _ _ _ _ _ _ c.loop-before.invariant.0.room c.visit_all.auto.out c.visit_all.auto.marks (joined_length c.loop-before.row_lacks c.loop-before.column_lacks c.visit_all.new.row_lacks c.visit_all.new.column_lacks c.visit_all.auto.row_lacks c.visit_all.auto.column_lacks) c.visit_all.auto.faulty in
    let other : c.count_faulty-left.result ≢ c.loop-before.before = omega arith in (
      running-next _ _ _ _ _ _ _ _ _ _ _ _ _ c.loop-before.invariant.0 c.loop-before-test.true _ _ _ _ after-pass c.visit_all.ensures _ c.count_faulty-left.ensures other c.requires.ready.held,
      c.visit_all.auto.row_lacks ∙ c.loop-before.invariant.1,
      c.visit_all.auto.column_lacks ∙ c.loop-before.invariant.2,
    )

pub returns : goal.returns
returns c = running-end _ _ _ _ _ _ _ _ _ _ _ _ _ c.loop-before.invariant.0 c.loop-before-test.false
