-- `change::line_to_change` meets its contract: each way out is one of the tests.
use mathlib.Core.Path.{refl, sym, ap}
use Rattle.linecode.specs.declared.alone.Reading.{Reading}
use Rattle.rectangle.proofs.LineLayer.{read_at}
use native.Mathlib.Omega.{arith}
use Rattle.rectangle.proofs.Numbers.{handed-on, number-not-zero}
use Rattle.rectangle.proofs.Refusing.{sizes-passed}
use Rattle.change.proofs.Refusing.{change-sizes, numberless, wrong-payload, past-last, bad-parity, faulty, passes}
use Rattle.change.proofs.line_to_change.Goals as goal

pub returns-in_err-sides-clause-answer : goal.returns-in_err-sides-clause-answer
returns-in_err-sides-clause-answer c =
    rw ((handed-on c.from_residual.result _ c.from_residual.ensures.1).0)
    (sym (change-sizes _ _ _ _ _ _ _ _ c.in_err-sides.ensures.answer (number-not-zero _)))

pub returns-in_err-sides-clause-number : goal.returns-in_err-sides-clause-number
returns-in_err-sides-clause-number c =
    let on = handed-on c.from_residual.result _ c.from_residual.ensures.1 in
    rw (on.0, on.1) (numberless _ _ _ _ _ _ _ _ c.in_err-sides.ensures.answer)

pub returns-then-payload-ne64-clause-answer : goal.returns-then-payload-ne64-clause-answer
returns-then-payload-ne64-clause-answer c =
    wrong-payload _ _ _ _ _ _ _ (sizes-passed _ _ _ _ _ 0 c.in_ok-sides.ensures.answer refl) c.if-payload-ne64.true

pub returns-then-lines-n-clause-answer : goal.returns-then-lines-n-clause-answer
returns-then-lines-n-clause-answer c =
    past-last _ _ _ _ _ _ _ (sizes-passed _ _ _ _ _ 0 c.in_ok-sides.ensures.answer refl) c.if-payload-ne64.false (let size = rw (c.in_ok-sides.ensures.given.0, c.in_ok-sides.ensures.given.1) at c.lines.ensures in omega (arith, size, c.if-lines-n.true))

pub returns-in_err-check_parity-clause-answer : goal.returns-in_err-check_parity-clause-answer
returns-in_err-check_parity-clause-answer c =
    rw ((handed-on c.from_residual-in_err-check_parity.result _ c.from_residual-in_err-check_parity.ensures.1).0)
    (bad-parity _ _ _ _ _ _ _ (sizes-passed _ _ _ _ _ 0 c.in_ok-sides.ensures.answer refl) c.if-payload-ne64.false (let size = rw (c.in_ok-sides.ensures.given.0, c.in_ok-sides.ensures.given.1) at c.lines.ensures in omega (arith, size, c.if-lines-n.false))
    _ _ (rw c.in_ok-sides.ensures.given.1 at c.row_of-row.ensures) (rw c.in_ok-sides.ensures.given.1 at c.column_of-column.ensures) _ c.in_err-check_parity.ensures.answer (number-not-zero _))

pub returns-then-read-eq4-clause-answer : goal.returns-then-read-eq4-clause-answer
returns-then-read-eq4-clause-answer c =
    let read = read_at _ _ _ _ c.line_at.ensures c.read_line-read.ensures in
    faulty _ _ _ _ _ _ _ (sizes-passed _ _ _ _ _ 0 c.in_ok-sides.ensures.answer refl) c.if-payload-ne64.false (let size = rw (c.in_ok-sides.ensures.given.0, c.in_ok-sides.ensures.given.1) at c.lines.ensures in omega (arith, size, c.if-lines-n.false))
    _ _ (rw c.in_ok-sides.ensures.given.1 at c.row_of-row.ensures) (rw c.in_ok-sides.ensures.given.1 at c.column_of-column.ensures) 0 c.in_ok-check_parity.ensures.answer refl _ (ap (λ (r : Reading). r.mark) read) (omega arith)

pub returns-clause-answer : goal.returns-clause-answer
returns-clause-answer c =
    let read = read_at _ _ _ _ c.line_at.ensures c.read_line-read.ensures in
    passes _ _ _ _ _ _ _ (sizes-passed _ _ _ _ _ 0 c.in_ok-sides.ensures.answer refl) c.if-payload-ne64.false (let size = rw (c.in_ok-sides.ensures.given.0, c.in_ok-sides.ensures.given.1) at c.lines.ensures in omega (arith, size, c.if-lines-n.false))
    _ _ (rw c.in_ok-sides.ensures.given.1 at c.row_of-row.ensures) (rw c.in_ok-sides.ensures.given.1 at c.column_of-column.ensures) 0 c.in_ok-check_parity.ensures.answer refl _ (ap (λ (r : Reading). r.mark) read) (λ z. omega arith)

pub returns-clause-line : goal.returns-clause-line
returns-clause-line c = ap (λ (r : Reading). r.line) (read_at _ _ _ _ c.line_at.ensures c.read_line-read.ensures)
