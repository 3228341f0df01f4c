-- `groups::first_faulty` meets its contract.
use Rattle.groups.specs.Lent.{faulty_among}
use Rattle.groups.proofs.Walk.{left-next, left_end, among-faulty, among-other}
use Rattle.groups.proofs.first_faulty.Goals as goal

pub returns-then-marks-n-eq4 : goal.returns-then-marks-n-eq4
returns-then-marks-n-eq4 c =
    rw (c.loop-i.invariant, left-next _ _ _ _ _ c.line-n.ensures c.loop-i-test.true, among-faulty _ _ _ c.if-marks-n-eq4.true)

pub loop-i-preserved : goal.loop-i-preserved
loop-i-preserved c =
    rw (c.loop-i.invariant, left-next _ _ _ _ _ c.line-n.ensures c.loop-i-test.true) (among-other _ _ _ c.if-marks-n-eq4.false)

pub returns : goal.returns
unfolding faulty_among
returns c = rw (c.loop-i.invariant, left_end _ _ _ _ c.loop-i-test.false)
