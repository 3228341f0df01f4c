-- `sweep::sums_of_lines` meets its contract: after i turns the first i lines are summed.
use mathlib.Core.Path.{ap, ◌∙◌}
use mathlib.Core.List.{List}
use Prim.Native.Nat.{ℕ}
use native.Mathlib.Omega.{arith}
use Rattle.std.proofs.lemmas.Option.{MatchOption-at_some}
use Rattle.linecode.specs.Places.{places}
use Rattle.sweep.specs.Sums.{both_sums}
use Rattle.sweep.proofs.Summing.{lines_start, lines_next}
use Rattle.sweep.proofs.sums_of_lines.Goals as goal

pub loop-i-init : goal.loop-i-init
loop-i-init c = lines_start _ _

pub loop-i-preserved : goal.loop-i-preserved
loop-i-preserved c =
    lines_next _ c.loop-i.sums _ c.loop-i.i _ c.loop-i.invariant (omega (arith, c.requires.0))
    (c.sums_in.ensures ∙ ap (λ (l : List ℕ). both_sums (places l)) (MatchOption-at_some _ _ _ c.unwrap.ensures c.as_array.ensures.cases).same)

pub returns : goal.returns
returns c = λ j h. c.loop-i.invariant.each j (omega (arith, c.loop-i-test.false))
