-- `first_reading::add_piece` meets its contract: after i turns i lines of the piece are added.
use mathlib.Core.Path.{ap, ◌∙◌}
use Prim.Native.Nat.{◌+◌}
use Rattle.first_reading.specs.declared.OpenRow.{OpenRow}
use Rattle.first_reading.proofs.Adding.{Place, adding-place, adding-faulty, adding_other, adding-end}
use native.Mathlib.Omega.{arith}
use Rattle.first_reading.proofs.add_piece.Goals as goal
use Rattle.first_reading.proofs.add_piece.Goals.{then-marks-m-eq4, else-marks-m-eq4}

pub overflow_add-row : goal.overflow_add-row
overflow_add-row c =
    let place : Place c.args.sides.rows c.args.out.now c.args.marks.now c.loop-i.column_lacks c.loop-i.faulty c.loop-i.row.hurt (c.args.n + c.loop-i.i) (c.args.column.0 + c.loop-i.i) =
    adding-place _ _ _ _ _ _ _ _ _ _ _ _ _ _ _ c.loop-i.invariant c.loop-i-test.true c.requires in omega (arith, place.own_few)

pub more-requires : goal.more-requires
more-requires c =
    let place : Place c.args.sides.rows c.args.out.now c.args.marks.now c.loop-i.column_lacks c.loop-i.faulty c.loop-i.row.hurt (c.args.n + c.loop-i.i) (c.args.column.0 + c.loop-i.i) =
    adding-place _ _ _ _ _ _ _ _ _ _ _ _ _ _ _ c.loop-i.invariant c.loop-i-test.true c.requires in (place.group, c.loop-i.invariant.counts, omega (arith, place.column_few))

pub loop-i-preserved : goal.loop-i-preserved
loop-i-preserved c =
    elim c.if-marks-m-eq4.branch [
      | then-marks-m-eq4 w ↦
          adding-faulty _ _ _ _ _ _ _ _ _ _ _ _ _ _ _ c.loop-i.invariant c.loop-i-test.true _ _ _ c.line_at-line.ensures c.add_to_column_sum.auto.column_sums c.add_to_column_sum.ensures (ap (λ (r : OpenRow). r.difference) w.row-is ∙ c.xor_bytes-row.ensures) _ _ w.if-marks-m-eq4.true (w.faulty-is ∙ w.more.ensures) (ap (λ (r : OpenRow). r.hurt) w.row-is)
      | else-marks-m-eq4 w ↦
          adding_other _ _ _ _ _ _ _ _ _ _ _ _ _ _ _ c.loop-i.invariant c.loop-i-test.true _ _ _ c.line_at-line.ensures c.add_to_column_sum.auto.column_sums c.add_to_column_sum.ensures (ap (λ (r : OpenRow). r.difference) w.row-is ∙ c.xor_bytes-row.ensures) _ _ w.if-marks-m-eq4.false w.faulty-is (ap (λ (r : OpenRow). r.hurt) w.row-is)
    ]

pub returns : goal.returns
returns c = adding-end _ _ _ _ _ _ _ _ _ _ _ _ _ _ _ c.loop-i.invariant c.loop-i-test.false
