-- `storefile::header::write_header` meets its contract.
use Rattle.std.proofs.lemmas.Result.{err_from_is_err_and}
use Rattle.storefile.proofs.Small.{sides_given, sides_refused}
use Rattle.storefile.proofs.Headers.{header-refused-2, header-refused-7, header-given}
use Rattle.storefile.proofs.header.write_header.Goals as goal

pub returns-in_err-sides : goal.returns-in_err-sides
returns-in_err-sides c =
    let p = err_from_is_err_and c.from_residual.result c.from_residual.ensures.1 in
    let n = sides_refused c.args.rows c.args.columns _ c.in_err-sides.ensures.answer in
    rw (p.1, p.2, n.1) (header-refused-2 c.args.rows c.args.columns c.args.out.now n.0)

pub returns-then-out-ne28 : goal.returns-then-out-ne28
returns-then-out-ne28 c = header-refused-7 c.args.rows c.args.columns c.args.out.now (sides_given c.args.rows c.args.columns c.in_ok-sides.ensures.answer) c.if-out-ne28.true

pub returns : goal.returns
returns c =
    header-given c.args.rows c.args.columns c.args.out.now (sides_given c.args.rows c.args.columns c.in_ok-sides.ensures.answer) c.if-out-ne28.false _
    (rw (c.in_ok-sides.ensures.given.0, c.in_ok-sides.ensures.given.1) at c.put_header.ensures)
