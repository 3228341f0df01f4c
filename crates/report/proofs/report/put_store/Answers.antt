-- `report::report::put_store` meets its contract.
use Rattle.report.specs.Report.{store_line}
use Rattle.storefile.proofs.Placing.{put_then}
use native.Mathlib.Omega.{arith}
use Rattle.report.proofs.report.put_store.Goals as goal

pub returns : goal.returns
unfolding store_line
returns c =
    record {
      written = put_then _ _ _ _ _ _ _ _ (omega (arith, c.put_bytes-first.ensures.after, c.put_spaced-second.ensures.short, c.put_spaced-end.ensures.short, c.requires))
          (put_then _ _ _ _ _ _ _ _ (omega (arith, c.put_bytes-first.ensures.after, c.put_spaced-second.ensures.short, c.requires))
          (put_then _ _ _ _ _ _ _ _ (omega (arith, c.put_bytes-first.ensures.after, c.requires)) c.put_bytes-first.ensures c.put_spaced-second.ensures.written)
          c.put_spaced-end.ensures.written)
          c.put_bytes.ensures;
      short = omega (arith, c.put_bytes-first.ensures.after, c.put_spaced-second.ensures.short, c.put_spaced-end.ensures.short, c.put_bytes.ensures.after);
    }
