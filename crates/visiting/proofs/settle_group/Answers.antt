-- `visiting::settle_group` meets its contract.
use native.Mathlib.Omega.{arith}
use mathlib.Core.Path.{◌≡◌, sym, ◌∙◌}
use Rattle.linecode.proofs.Bytes.{array-length}
use Rattle.visiting.proofs.Cases.{only-inside, rebuilt}
use Rattle.visiting.proofs.settle_group.Goals as goal

pub line_at-requires : goal.line_at-requires
line_at-requires c =
    let one : c.faulty_in_group.result ≡ 1 = omega arith in
    let below = only-inside _ _ _ _ _ c.requires _ c.faulty_in_group.ensures one _ (sym c.in-Some.is ∙ c.first_faulty.ensures) in
    omega (arith, c.requires.room)

pub put_line-requires : goal.put_line-requires
put_line-requires c =
    let one : c.faulty_in_group.result ≡ 1 = omega arith in
    let below = only-inside _ _ _ _ _ c.requires _ c.faulty_in_group.ensures one _ (sym c.in-Some.is ∙ c.first_faulty.ensures) in
    omega (arith, c.requires.room)

pub bounds-marks-n : goal.bounds-marks-n
bounds-marks-n c =
    let one : c.faulty_in_group.result ≡ 1 = omega arith in
    only-inside _ _ _ _ _ c.requires _ c.faulty_in_group.ensures one _ (sym c.in-Some.is ∙ c.first_faulty.ensures)

pub returns : goal.returns
returns c =
    let one : c.faulty_in_group.result ≡ 1 = omega arith in
    rebuilt _ _ _ _ _ c.requires c.args.parity (array-length 70 c.args.parity _ c.well_formed.1.1.0) _ c.faulty_in_group.ensures _ c.difference-lack.ensures one _
    (sym c.in-Some.is ∙ c.first_faulty.ensures) _ _ _ (array-length 70 c.difference-lack.result _ c.difference-lack.type_inv) c.line_at.ensures c.xor_lines-rebuilt.ensures c.put_line.ensures
