-- `peeling::counts::count_row` meets its contract: after c turns the row's first c lines are counted.
use Prim.Native.Nat.{◌+◌, ◌*◌}
use lib.ListN.{get_or}
use Rattle.peeling.proofs.Counting.{one-small, row-start, row-few, column-few, row_next}
use native.Mathlib.Omega.{arith}
use Rattle.peeling.proofs.counts.count_row.Goals as goal

pub loop-c-init : goal.loop-c-init
loop-c-init c = row-start _ _ _ _ c.requires.room.2 _ c.requires.room.0 c.requires.counted

pub overflow_add-found : goal.overflow_add-found
overflow_add-found c =
    let at = c.args.row.0 * c.args.sides.columns + c.loop-c.c in
    omega (arith, row-few _ _ _ _ c.requires.room.2 _ _ _ c.loop-c.invariant, one-small (get_or c.args.marks.now at 0) _ c.one_if_faulty-more.ensures)

pub more-requires : goal.more-requires
more-requires c =
    let at = c.args.row.0 * c.args.sides.columns + c.loop-c.c in
    rw c.into.ensures (
      omega (arith, c.loop-c.invariant.sides.rows_high, c.loop-c.invariant.sides.columns_high),
      c.loop-c.invariant.sides.counts,
      omega (arith, column-few _ _ _ _ c.requires.room.2 _ _ _ c.loop-c.invariant c.loop-c-test.true, one-small (get_or c.args.marks.now at 0) _ c.one_if_faulty-more.ensures),
    )

pub loop-c-preserved : goal.loop-c-preserved
loop-c-preserved c =
    let counted = rw c.into.ensures at c.more.ensures in
    row_next _ _ _ _ c.requires.room.2 _ _ _ c.loop-c.invariant c.loop-c-test.true _ _ c.one_if_faulty-more.ensures counted
