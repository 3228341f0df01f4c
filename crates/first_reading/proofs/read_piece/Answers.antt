-- `first_reading::read_piece` meets its contract: after i turns i lines of the piece are read.
use native.Mathlib.Omega.{arith}
use Rattle.rectangle.proofs.Buffer.{piece-sums}
use Rattle.first_reading.proofs.FirstReading.{reading-next}
use Rattle.first_reading.proofs.read_piece.Goals as goal

pub read_into-mark-requires : goal.read_into-mark-requires
read_into-mark-requires c =
    record {
      inside = (omega (arith, c.requires.inside.0, c.requires.inside.2, c.loop-i-test.true), omega (arith, c.requires.inside.0, c.loop-i.invariant.out_bytes, c.loop-i-test.true));
      summed = piece-sums c.args.found.now c.args.n c.args.count c.sums_of_lines-sums.result c.sums_of_lines-sums.ensures _ c.loop-i-test.true;
    }

pub loop-i-preserved : goal.loop-i-preserved
loop-i-preserved c =
    reading-next _ _ _ _ _ _ _ _ _ _ c.loop-i.invariant c.loop-i-test.true
    c.requires.inside.0 c.read_into-mark.auto.out c.read_into-mark.ensures.0
    c.read_into-mark.ensures.1
