-- `report::report::put_spaced` meets its contract.
use mathlib.Core.Path.{◌∙◌}
use native.Mathlib.Omega.{arith}
use Rattle.report.specs.Report.{spaced}
use Rattle.storefile.proofs.Placing.{put_then}
use Rattle.report.proofs.Writing.{decimal-written}
use Rattle.report.proofs.report.put_spaced.Goals as goal

pub returns-clause-written : goal.returns-clause-written
unfolding spaced
returns-clause-written c =
    let digits = c.as_bytes.ensures.value ∙ c.format.ensures.text ∙ decimal-written c.args.n c.ranges.n.fits in
    put_then _ _ _ _ _ _ _ _ (omega (arith, c.put_bytes-first.ensures.after)) c.put_bytes-first.ensures (rw digits at c.put_bytes.ensures)
