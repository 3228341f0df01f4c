-- `visiting::difference` meets its contract.
use Rattle.linecode.proofs.Bytes.{array-length}
use Rattle.visiting.proofs.Summing.{summing-next}
use Rattle.visiting.proofs.difference.Goals as goal

pub loop-i-preserved : goal.loop-i-preserved
loop-i-preserved c =
    summing-next _ _ _ _ _ c.loop-i.sum c.loop-i.i c.loop-i.invariant c.line_at.result _ _ c.line.ensures
    (array-length 70 c.line_at.result _ c.line_at.type_inv) c.line_at.ensures c.xor_bytes-next.ensures
