-- `lookup::read_group` meets its contract: after i turns the first i lines of the group stand in the buffers as they read alone.
use Rattle.rectangle.proofs.LineLayer.{read_at}
use Rattle.lookup.proofs.Group.{filling-next}
use Rattle.lookup.proofs.read_group.Goals as goal

pub loop-i-preserved : goal.loop-i-preserved
loop-i-preserved c =
    filling-next _ _ _ _ _ _ _ _ _ c.loop-i.invariant c.loop-i-test.true _ c.line-n.ensures c.read_line-read.result _
    (read_at _ _ _ _ c.line_at.ensures c.read_line-read.ensures) c.put_line.ensures c.put_line.auto.buffer
