-- `tables::make_tables` meets its contract: each way out is one of the refusals, or both tables made.
use mathlib.Core.Path.{refl, sym, ap, ◌∙◌}
use Prim.Native.Nat.{ℕ}
use native.Mathlib.Omega.{arith}
use lib.ListN.{take}
use Rattle.rectangle.proofs.Groups.{sides}
use Rattle.rectangle.proofs.Numbers.{handed-on, number-not-zero}
use Rattle.rectangle.proofs.Refusing.{sizes-passed}
use Rattle.tables.proofs.Refusing.{tables-sizes, tables-faulty, tables-refused, tables-made}
use Rattle.tables.proofs.Sweeping.{unswept}
use Rattle.tables.proofs.make_tables.Goals as goal

pub returns-in_err-sides : goal.returns-in_err-sides
returns-in_err-sides c =
    rw ((handed-on c.from_residual.result _ c.from_residual.ensures.1).0)
    (tables-refused _ _ _ _ _ _ (tables-sizes _ _ _ _ _ _ c.in_err-sides.ensures.answer (number-not-zero _)) (number-not-zero _))

pub sweep-requires : goal.sweep-requires
sweep-requires c =
    let p = sizes-passed _ _ _ _ _ 0 c.in_ok-sides.ensures.answer refl in
    let s = sides _ _ p.sides in
    rw (c.in_ok-sides.ensures.given.0, c.in_ok-sides.ensures.given.1)
    (unswept c.args.rows c.args.columns c.args.lines.now 35840 refl s.rows_high s.columns_high (omega (arith, p.line_bytes)))

pub returns-then-not-sweep : goal.returns-then-not-sweep
returns-then-not-sweep c =
    let p = sizes-passed _ _ _ _ _ 0 c.in_ok-sides.ensures.answer refl in
    tables-refused _ _ _ _ _ 10 (tables-faulty _ _ _ _ _ p (sym (rw (c.in_ok-sides.ensures.given.0, c.in_ok-sides.ensures.given.1) at c.sweep.ensures).answer ∙ c.if-not-sweep.true)) (λ z. omega arith)

pub copy_sums-requires : goal.copy_sums-requires
copy_sums-requires c =
    let p = sizes-passed _ _ _ _ _ 0 c.in_ok-sides.ensures.answer refl in
    omega (arith, p.row_bytes, (sides _ _ p.sides).rows_high, c.sweep.array_long)

pub copy_sums-requires-2 : goal.copy_sums-requires-2
copy_sums-requires-2 c =
    let p = sizes-passed _ _ _ _ _ 0 c.in_ok-sides.ensures.answer refl in
    omega (arith, p.column_bytes, (sides _ _ p.sides).columns_high, c.sweep.array_long2)

pub returns : goal.returns
returns c =
    let p = sizes-passed _ _ _ _ _ 0 c.in_ok-sides.ensures.answer refl in
    let all = c.if-not-sweep.false in
    tables-made _ _ _ _ _ _ _ p (sym (rw (c.in_ok-sides.ensures.given.0, c.in_ok-sides.ensures.given.1) at c.sweep.ensures).answer ∙ all)
    (c.copy_sums.ensures ∙ ap (λ (k : ℕ). take k c.sweep.new.row_sums) p.row_bytes ∙ (rw (c.in_ok-sides.ensures.given.0, c.in_ok-sides.ensures.given.1) at c.sweep.ensures).row_table all)
    (c.copy_sums-2.ensures ∙ ap (λ (k : ℕ). take k c.sweep.new.column_sums) p.column_bytes ∙ (rw (c.in_ok-sides.ensures.given.0, c.in_ok-sides.ensures.given.1) at c.sweep.ensures).column_table all)
