-- `peeling::passes::visit_all` meets its contract: after k turns the first k groups are visited.
use mathlib.Core.Path.{sym, ap, subst, ◌∙◌}
use Rattle.groups.specs.Lent.{number_of, Within}
use Rattle.groups.proofs.Numbers.{which-number, which-within}
use Rattle.peeling.proofs.Passing.{passing-next, passing-end}
use Rattle.peeling.proofs.passes.visit_all.Goals as goal

pub visit_group-requires : goal.visit_group-requires
visit_group-requires c =
    let within = which-within c.args.sides.rows c.loop-k.k c.args.sides.columns c.loop-k-test.true in
    (c.loop-k.invariant.counted, subst (Within c.args.sides.rows c.args.sides.columns) (sym c.nth.ensures) within)

pub loop-k-preserved : goal.loop-k-preserved
loop-k-preserved c =
    let number = ap (number_of c.args.sides.rows) c.nth.ensures ∙ which-number c.args.sides.rows c.loop-k.k in
    passing-next _ _ _ _ _ _ c.loop-k.invariant _ _ _ c.loop-k-test.true number c.visit_group.ensures.0 c.visit_group.ensures.1

pub returns : goal.returns
returns c = (passing-end _ _ _ _ _ _ c.loop-k.invariant c.loop-k-test.false, c.loop-k.invariant.counted)
