-- `wear::numbers::add_numbers` meets its contract.
use mathlib.Core.Path.{◌∙◌}
use Rattle.std.proofs.lemmas.Result.{err_from_is_err_and}
use Rattle.wear.proofs.Ten.{not_ten, numbers_taken, numbers_refused}
use Rattle.wear.proofs.numbers.add_numbers.Goals as goal

pub returns-in_err-wear : goal.returns-in_err-wear
returns-in_err-wear c =
    let p = err_from_is_err_and c.from_residual.result c.from_residual.ensures.1 in
    rw (p.1, p.2, c.in_err-wear.ensures.1) (not_ten c.args.numbers.now _ c.in_err-wear.ensures.0)

pub returns-in_err-after : goal.returns-in_err-after
returns-in_err-after c =
    let p = err_from_is_err_and c.from_residual-in_err-after.result c.from_residual-in_err-after.ensures.1 in
    rw (p.1, p.2) (numbers_refused c.args.numbers.now _ c.in_ok-wear.ensures.0 _ (rw c.in_ok-wear.ensures.1 at c.in_err-after.ensures))

pub returns : goal.returns
returns c =
    numbers_taken c.args.numbers.now _ c.in_ok-wear.ensures.0 _ (rw c.in_ok-wear.ensures.1 at c.in_ok-after.ensures) _
    (c.copy_from_slice.ensures.after ∙ c.write.ensures)
