-- `report::program::report_on` meets its contract.
use Rattle.report.specs.Program.{program_report}
use Rattle.report.proofs.Printing.{report-inside}
use Rattle.report.proofs.program.report_on.Goals as goal

pub returns : goal.returns
unfolding program_report
returns c =
    record {
      inside = report-inside _ c.args.text.now _ _ _ c.report.ensures c.report.auto.out;
      printed = rw (← c.checked.ensures, ← c.into.ensures) c.report.ensures;
    }
