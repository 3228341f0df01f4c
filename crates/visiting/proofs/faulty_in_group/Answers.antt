-- `visiting::faulty_in_group` meets its contract.
use Rattle.visiting.proofs.Counting.{counting-faulty, counting-other, counting-end}
use Rattle.visiting.proofs.faulty_in_group.Goals as goal
use Rattle.visiting.proofs.faulty_in_group.Goals.{then-marks-line-eq4, else-marks-line-eq4}

pub loop-i-preserved : goal.loop-i-preserved
loop-i-preserved c =
    elim c.if-marks-line-eq4.branch [
      | then-marks-line-eq4 w ↦ counting-faulty _ _ _ _ _ _ c.loop-i.invariant c.loop-i-test.true _ c.line.ensures _ w.if-marks-line-eq4.true w.found-is
      | else-marks-line-eq4 w ↦ counting-other _ _ _ _ _ _ c.loop-i.invariant c.loop-i-test.true _ c.line.ensures _ w.if-marks-line-eq4.false w.found-is
    ]

pub returns : goal.returns
returns c = counting-end _ _ _ _ _ _ c.loop-i.invariant c.loop-i-test.false
