-- `report::report::put_counts` meets its contract.
use Rattle.report.specs.Report.{count_lines}
use Rattle.storefile.proofs.Placing.{put_then}
use native.Mathlib.Omega.{arith}
use Rattle.report.proofs.report.put_counts.Goals as goal

pub returns : goal.returns
unfolding count_lines
returns c =
    record {
      written = put_then _ _ _ _ _ _ _ _
          (omega (arith, c.put_line-alone.ensures.short, c.put_line-trial.ensures.short, c.put_line-rebuilt.ensures.short, c.put_line-faulty.ensures.short, c.requires))
          (put_then _ _ _ _ _ _ _ _ (omega (arith, c.put_line-alone.ensures.short, c.put_line-trial.ensures.short, c.put_line-rebuilt.ensures.short, c.requires))
          (put_then _ _ _ _ _ _ _ _ (omega (arith, c.put_line-alone.ensures.short, c.put_line-trial.ensures.short, c.requires))
          (put_then _ _ _ _ _ _ _ _ (omega (arith, c.put_line-alone.ensures.short, c.requires)) c.put_line-alone.ensures.written c.put_line-trial.ensures.written)
          c.put_line-rebuilt.ensures.written)
          c.put_line-faulty.ensures.written)
          c.put_line.ensures.written;
      short = omega (arith, c.put_line-alone.ensures.short, c.put_line-trial.ensures.short, c.put_line-rebuilt.ensures.short, c.put_line-faulty.ensures.short, c.put_line.ensures.short);
    }
