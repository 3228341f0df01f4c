-- `rectangle::lines::put_line` meets its contract: the 70 bytes from the line's first one on are the line's.
use Rattle.linecode.proofs.Bytes.{array-length}
use Rattle.rectangle.proofs.Copying.{put-whole}
use Rattle.rectangle.proofs.lines.put_line.Goals as goal

pub returns : goal.returns
returns c =
    put-whole c.args.buffer.now c.args.line _ c.args.n (array-length 70 c.args.line _ c.well_formed.1.1.0) c.copy_from_slice.ensures.after
