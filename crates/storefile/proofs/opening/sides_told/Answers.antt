-- `storefile::opening::sides_told` meets its contract.
use native.Mathlib.Omega.{arith}
use Rattle.std.proofs.lemmas.Result.{err_from_is_err_and}
use Rattle.storefile.proofs.Small.{sides_given, sides_refused}
use Rattle.storefile.proofs.Openings.{sides-refused, limit-refused, sides-told}
use Rattle.storefile.proofs.opening.sides_told.Goals as goal

pub returns-in_err-sides : goal.returns-in_err-sides
returns-in_err-sides c =
    let p = err_from_is_err_and c.from_residual.result c.from_residual.ensures.1 in
    let n = sides_refused _ _ _ c.in_err-sides.ensures.answer in
    rw (p.1, p.2, n.1)
    (sides-refused c.args.limit c.args.file.now (omega arith) _ _ c.two_bytes-rows.ensures c.two_bytes-columns.ensures n.0, λ z. omega arith)

pub returns-then-limit-max : goal.returns-then-limit-max
returns-then-limit-max c = (
  limit-refused c.args.limit c.args.file.now (omega arith) _ _ c.two_bytes-rows.ensures c.two_bytes-columns.ensures
      (sides_given _ _ c.in_ok-sides.ensures.answer) (omega arith),
  λ z. omega arith,
)

pub returns : goal.returns
returns c =
    rw (c.in_ok-sides.ensures.given.0, c.in_ok-sides.ensures.given.1)
    (sides-told c.args.limit c.args.file.now (omega arith) _ _ c.two_bytes-rows.ensures c.two_bytes-columns.ensures
    (sides_given _ _ c.in_ok-sides.ensures.answer) (omega arith))
