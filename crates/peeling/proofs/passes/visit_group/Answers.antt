-- `peeling::passes::visit_group` meets its contract.
use mathlib.Core.Path.{◌≡◌, sym, ◌∙◌}
use lib.ListN.{get_or}
use native.Mathlib.Omega.{arith}
use Rattle.groups.specs.Lent.{number_of}
use Rattle.peeling.proofs.Visiting.{listed, chosen-line, one_inside, one-visited, passed_over, passed_by}
use Rattle.peeling.proofs.passes.visit_group.Goals as goal

pub returns-then-not-alone : goal.returns-then-not-alone
returns-then-not-alone c =
    (passed_over _ _ _ _ c.requires.0 _ c.requires.1 (λ e. c.if-not-alone.true (c.count-alone.ensures ∙ e)), c.requires.0)

pub returns-in_default : goal.returns-in_default
returns-in_default c =
    let found = chosen-line _ _ _ _ _ c.choose-chosen.ensures.0 _ _ _ c.choose-chosen.ensures.1 _ c.first_faulty.ensures in
    (passed_by _ _ _ _ c.requires.0 _ c.requires.1 (sym c.in_default.is ∙ found), c.requires.0)

pub rebuild-requires : goal.rebuild-requires
rebuild-requires c =
    let one : get_or c.args.faulty.now (number_of c.args.sides.rows c.args.which) 0 ≡ 1 = omega (arith, c.count-alone.ensures) in
    let found = chosen-line _ _ _ _ _ c.choose-chosen.ensures.0 _ _ _ c.choose-chosen.ensures.1 _ c.first_faulty.ensures in
    let line = one_inside _ _ _ _ c.requires.0 _ (listed c.args.sides.rows c.args.sides.columns c.args.which c.requires.1) one _ (sym c.in-Some.is ∙ found) in
    (c.requires.0, line.0, line.1)

pub returns : goal.returns
returns c =
    let one : get_or c.args.faulty.now (number_of c.args.sides.rows c.args.which) 0 ≡ 1 = omega (arith, c.count-alone.ensures) in
    let found = chosen-line _ _ _ _ _ c.choose-chosen.ensures.0 _ _ _ c.choose-chosen.ensures.1 _ c.first_faulty.ensures in (
      rw c.rebuild.ensures.0 (one-visited _ _ _ _ c.requires.0 _ (listed c.args.sides.rows c.args.sides.columns c.args.which c.requires.1) one _ (sym c.in-Some.is ∙ found)),
      c.rebuild.ensures.1,
    )
