-- `repair::repair` meets its contract.
use mathlib.Core.Path.{refl, sym, ◌∙◌}
use Rattle.std.proofs.lemmas.Result.{err_from_is_err_and}
use Rattle.rectangle.specs.Store.{line_layer}
use Rattle.rectangle.proofs.Numbers.{number-not-zero}
use Rattle.rectangle.proofs.Runs.{repair-runs, repair-refused}
use Rattle.repair.proofs.repair.Goals as goal

pub returns-in_err-store : goal.returns-in_err-store
returns-in_err-store c =
    let p = err_from_is_err_and c.from_residual.result c.from_residual.ensures.1 in
    rw (p.1, p.2) (sym (repair-refused _ _ _ _ _ line_layer _ _ _ _ _ (sym c.in_err-store.ensures.answer) (number-not-zero c.in_err-store.field-0.0)))

pub returns : goal.returns
returns c =
    (rw (c.in_ok-store.ensures.given.0, c.in_ok-store.ensures.given.1, c.in_ok-store.ensures.given.2, c.in_ok-store.ensures.given.3, c.in_ok-store.ensures.given.4) at c.repair_fitting.ensures) ∙ sym (repair-runs _ _ _ _ _ line_layer _ _ _ _ 0 (sym c.in_ok-store.ensures.answer) refl)
