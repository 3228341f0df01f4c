-- `report::program::checked` meets its contract.
use Rattle.std.proofs.lemmas.Result.{err_from_is_err_and}
use Rattle.report.proofs.Printing.{program-checks, program-refuses}
use Rattle.report.proofs.program.checked.Goals as goal

pub returns-in_err-sides : goal.returns-in_err-sides
returns-in_err-sides c =
    let p = err_from_is_err_and c.from_residual.result c.from_residual.ensures.1 in
    rw (p.1, p.2) (program-refuses c.args.file.now _ c.in_err-sides.ensures.opens)

pub returns : goal.returns
returns c =
    let within = c.in_ok-sides.ensures.within in
    program-checks c.args.file.now _ _ c.in_ok-sides.ensures.opens within.0 within.1 _ c.lines-lines.ensures _ _ c.check_within.ensures
