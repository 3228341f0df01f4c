-- `groups::all_agree` meets its contract.
use native.Mathlib.Omega.{arith}
use mathlib.Core.Path.{sym, ◌∙◌}
use Rattle.groups.proofs.Joined.{visited-number, visited-reached, visited-agrees}
use Rattle.rectangle.proofs.InTurn.{passed-next, not-every, every_one}
use Rattle.groups.proofs.all_agree.Goals as goal

pub agrees-requires : goal.agrees-requires
agrees-requires c = (
  omega (arith, visited-number c.args.row_lacks.now c.args.column_lacks.now _ _ c.requires.0 _ c.loop-k-test.true _ c.nth.ensures),
  c.requires.2,
  visited-reached _ _ _ _ c.requires.0 _ c.loop-k-test.true _ c.nth.ensures c.requires.1,
)

pub returns-then-not-agrees : goal.returns-then-not-agrees
returns-then-not-agrees c =
    not-every _ _ _ c.loop-k.invariant c.loop-k-test.true
    (sym (c.agrees.ensures ∙ visited-agrees _ _ _ _ c.requires.0 _ c.loop-k-test.true _ c.nth.ensures _) ∙ c.if-not-agrees.true)

pub loop-k-preserved : goal.loop-k-preserved
loop-k-preserved c =
    passed-next _ _ _ c.loop-k.invariant c.loop-k-test.true
    (sym (c.agrees.ensures ∙ visited-agrees _ _ _ _ c.requires.0 _ c.loop-k-test.true _ c.nth.ensures _) ∙ c.if-not-agrees.false)

pub returns : goal.returns
returns c = every_one _ _ _ c.loop-k.invariant c.loop-k-test.false
