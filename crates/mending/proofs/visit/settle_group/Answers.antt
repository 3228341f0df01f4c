-- `mending::visit::settle_group` meets its contract.
use mathlib.Core.Path.{◌≡◌, sym, subst, ◌∙◌}
use lib.ListN.{get_or}
use native.Mathlib.Omega.{arith}
use Rattle.groups.specs.Lent.{Carried, number_of}
use Rattle.groups.proofs.Joined.{which-difference}
use Rattle.mending.proofs.Settling.{only-inside, only-faulty, word-long, line-rebuilt, group-settled, unsettled, unsettled-none}
use Rattle.mending.proofs.visit.settle_group.Goals as goal

pub line_at-requires : goal.line_at-requires
line_at-requires c =
    let one : get_or c.args.faulty.now (number_of c.args.sides.rows c.args.chosen.which) 0 ≡ 1 = omega (arith, c.count-alone.ensures) in
    let first = sym c.in-Some.is ∙ c.first_faulty.ensures in
    omega (arith, only-inside _ _ _ _ _ _ c.requires.ready.room _ _ _ _ c.requires.group.numbered one _ first c.requires.ready.held, c.requires.ready.room.rect.out_bytes)

pub mend-requires : goal.mend-requires
mend-requires c =
    let one : get_or c.args.faulty.now (number_of c.args.sides.rows c.args.chosen.which) 0 ≡ 1 = omega (arith, c.count-alone.ensures) in
    let first = sym c.in-Some.is ∙ c.first_faulty.ensures in
    record {
      ready = c.requires.ready;
      faulty = (
        only-inside _ _ _ _ _ _ c.requires.ready.room _ _ _ _ c.requires.group.numbered one _ first c.requires.ready.held,
        only-faulty _ _ _ _ _ _ c.requires.ready.room _ _ _ _ c.requires.group.numbered one _ first c.requires.ready.held,
        omega arith,
      );
    }

pub returns : goal.returns
returns c =
    let one : get_or c.args.faulty.now (number_of c.args.sides.rows c.args.chosen.which) 0 ≡ 1 = omega (arith, c.count-alone.ensures) in
    let first = sym c.in-Some.is ∙ c.first_faulty.ensures in
    let lack = c.difference-lack.ensures ∙ which-difference _ _ _ c.args.sides.columns c.requires.ready.row_bytes _ c.requires.group.within in
    λ parity s carried.
    subst (Carried _ _ parity _ _ _ _)
    (group-settled _ _ _ _ _ _ c.requires.ready.room _ _ _ _ c.requires.group.numbered one _ first parity s carried _ _ _ lack c.line_at.ensures c.xor_lines-rebuilt.ensures)
    (c.mend.ensures parity s _ carried
    (word-long _ _ _ _ _ _ c.requires.ready.room _ _ _ _ c.requires.group.numbered one _ first parity s carried _ _ _ lack c.line_at.ensures c.xor_lines-rebuilt.ensures)
    (line-rebuilt _ _ _ _ _ _ c.requires.ready.room _ _ _ _ c.requires.group.numbered one _ first parity s carried _ _ _ lack c.line_at.ensures c.xor_lines-rebuilt.ensures))

pub returns-in_default : goal.returns-in_default
returns-in_default c =
    λ parity s carried. unsettled-none _ _ _ _ _ _ c.requires.ready.room _ _ _ _ c.requires.group.numbered parity s carried (sym c.in_default.is ∙ c.first_faulty.ensures)

pub returns-then-not-alone : goal.returns-then-not-alone
returns-then-not-alone c =
    λ parity s carried.
    unsettled _ _ _ _ _ _ c.requires.ready.room _ _ _ _ c.requires.group.numbered parity s carried (λ e. c.if-not-alone.true (c.count-alone.ensures ∙ e))
