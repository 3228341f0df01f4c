-- `report::check::check_within` meets its contract.
use mathlib.Core.Path.{refl}
use Rattle.std.proofs.lemmas.Result.{err_from_is_err_and}
use Rattle.rectangle.proofs.Numbers.{number-not-zero, number-hands-nothing, outcome-hands-over}
use Rattle.report.specs.Check.{lent}
use Rattle.report.proofs.Checking.{check-refused, check-turned-back, check-counted}
use Rattle.report.proofs.check.check_within.Goals as goal

pub returns-in_err-sides : goal.returns-in_err-sides
returns-in_err-sides c =
    let p = err_from_is_err_and c.from_residual.result c.from_residual.ensures.1 in
    let lent_as_is = lent c.args.out.now c.args.marks.now c.args.row_out.now c.args.column_out.now in
    rw (p.1, p.2)
    (check-refused c.args.limit c.args.file.now lent_as_is _ c.in_err-sides.ensures.opens (number-not-zero c.in_err-sides.field-0.0) _ refl)

pub returns-in_err-repaired : goal.returns-in_err-repaired
returns-in_err-repaired c =
    let p = err_from_is_err_and c.from_residual-in_err-repaired.result c.from_residual-in_err-repaired.ensures.1 in
    rw (p.1, p.2)
    (check-turned-back c.args.limit c.args.file.now _ _ c.in_ok-sides.ensures.opens refl _ c.in_err-repaired.ensures
    (number-hands-nothing c.in_err-repaired.field-0.0) _ refl)

pub returns : goal.returns
returns c =
    check-counted c.args.limit c.args.file.now _ _ c.in_ok-sides.ensures.opens refl _ c.in_ok-repaired.ensures
    (outcome-hands-over c.in_ok-repaired.repaired.outcome) _ c.count_all.ensures
