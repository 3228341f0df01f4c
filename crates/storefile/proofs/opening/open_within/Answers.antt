-- `storefile::opening::open_within` meets its contract.
use mathlib.Core.Path.{sym, ◌∙◌}
use Rattle.std.proofs.lemmas.Result.{err_from_is_err_and}
use Rattle.storefile.proofs.Openings.{told-refused, contents-refused, opens, sides-within}
use Rattle.storefile.proofs.opening.open_within.Goals as goal

pub returns-in_err-sides-clause-opens : goal.returns-in_err-sides-clause-opens
returns-in_err-sides-clause-opens c =
    let p = err_from_is_err_and c.from_residual.result c.from_residual.ensures.1 in
    rw (p.1, p.2) (told-refused c.args.limit c.args.file.now _ c.in_err-sides.ensures.0)

pub returns-then-not-contents_fit-clause-opens : goal.returns-then-not-contents_fit-clause-opens
returns-then-not-contents_fit-clause-opens c =
    contents-refused c.args.limit c.args.file.now _ _ c.in_ok-sides.ensures (sym c.contents_fit.ensures ∙ c.if-not-contents_fit.true)

pub returns-clause-opens : goal.returns-clause-opens
returns-clause-opens c =
    opens c.args.limit c.args.file.now _ _ c.in_ok-sides.ensures (sym c.contents_fit.ensures ∙ c.if-not-contents_fit.false)

pub returns-clause-within : goal.returns-clause-within
returns-clause-within c = sides-within c.args.limit _ _ (c.in_ok-sides.ensures).within
