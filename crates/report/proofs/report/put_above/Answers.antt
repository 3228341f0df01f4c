-- `report::report::put_above` meets its contract.
use Rattle.report.specs.Report.{lines_above}
use Rattle.storefile.proofs.Placing.{put_then}
use native.Mathlib.Omega.{arith}
use Rattle.report.proofs.report.put_above.Goals as goal

pub returns : goal.returns
unfolding lines_above
returns c =
    record {
      written = put_then _ _ _ _ _ _ _ _ (omega (arith, c.put_store-counted.ensures.short, c.put_counts-passes.ensures.short, c.requires))
          (put_then _ _ _ _ _ _ _ _ (omega (arith, c.put_store-counted.ensures.short, c.requires)) c.put_store-counted.ensures.written c.put_counts-passes.ensures.written)
          c.put_line.ensures.written;
      short = omega (arith, c.put_store-counted.ensures.short, c.put_counts-passes.ensures.short, c.put_line.ensures.short);
    }
