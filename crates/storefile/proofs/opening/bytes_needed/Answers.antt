-- `storefile::opening::bytes_needed` meets its contract.
use mathlib.Core.Path.{sym, ap, ◌∙◌}
use Prim.Native.Nat.{ℕ, ◌+◌}
use native.Mathlib.Omega.{arith}
use Rattle.storefile.proofs.Small.{file_small}
use Rattle.storefile.proofs.Needed.{needed-settled, needed-elsewhere, needed-there, needed-whole}
use Rattle.storefile.proofs.opening.bytes_needed.Goals as goal

pub overflow_add-result : goal.overflow_add-result
overflow_add-result c =
    let sides = c.in-Ok.sides in
    let few = file_small _ _ sides.rows_fit.1 sides.columns_fit.1 in
    omega (arith, c.file_length-in-Ok.ensures)

pub returns-in-Ok : goal.returns-in-Ok
returns-in-Ok c =
    ap (λ (n : ℕ). n + 1) c.file_length-in-Ok.ensures
    ∙ needed-whole c.args.limit c.args.start.now _ _ c.in-Ok.ensures (sym c.entries_fit.ensures ∙ c.if-entries_fit.true)
    (λ e. c.if-start-file_length.true (e ∙ sym c.file_length.ensures))

pub returns-in_default : goal.returns-in_default
returns-in_default c =
    needed-there c.args.limit c.args.start.now _ _ c.in-Ok.ensures (sym c.entries_fit.ensures ∙ c.if-entries_fit.true)
    (c.if-start-file_length.false ∙ c.file_length.ensures)

pub returns-in_default-2 : goal.returns-in_default-2
returns-in_default-2 c =
    needed-elsewhere c.args.limit c.args.start.now _ _ c.in-Ok.ensures (sym c.entries_fit.ensures ∙ c.if-entries_fit.false)

pub returns-in_default-3 : goal.returns-in_default-3
returns-in_default-3 c = needed-settled c.args.limit c.args.start.now _ c.in_default.ensures.0 c.in_default.ensures.1
