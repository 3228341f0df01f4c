-- `repair::check` meets its contract: where the sizes are refused. The search finds the rest.
use Rattle.std.proofs.lemmas.Result.{err_from_is_err_and}
use Rattle.rectangle.proofs.Numbers.{number-not-zero}
use Rattle.repair.proofs.Refusing.{refused-sizes}
use Rattle.repair.proofs.check.Goals as goal

pub returns-in_err-store-clause-answer : goal.returns-in_err-store-clause-answer
returns-in_err-store-clause-answer c =
    let p = err_from_is_err_and c.from_residual.result c.from_residual.ensures.1 in
    rw (p.1, p.2) (refused-sizes _ _ _ _ _ _ _ _ _ _ c.in_err-store.ensures.answer (number-not-zero _))
