-- `sweep::blocks` meets its contract: after k turns the first k blocks are summed.
use mathlib.Core.Path.{◌≡◌, refl, ap, ◌∙◌, subst}
use mathlib.Core.List.{List}
use Prim.Native.Nat.{ℕ, ◌+◌, ◌-◌, ◌*◌}
use native.Mathlib.Omega.{arith}
use lib.ListN.{take, drop}
use Rattle.std.proofs.lemmas.Option.{MatchOption-at_some}
use Rattle.sweep.specs.Sums.{Summed}
use Rattle.sweep.proofs.Summing.{blocks_start, blocks-next}
use Rattle.sweep.proofs.blocks.Goals as goal

pub loop-k-init : goal.loop-k-init
loop-k-init c = blocks_start c.args.line.now _ refl

pub loop-k-preserved : goal.loop-k-preserved
loop-k-preserved c =
    let size : 16 * c.loop-k.k + 16 - 16 * c.loop-k.k ≡ 16 = omega arith in
    blocks-next c.args.line.now c.loop-k.sums c.loop-k.k c.block.result c.loop-k.invariant c.loop-k-test.true
    (subst (λ (bs : List ℕ). Summed bs c.block.result)
    ((MatchOption-at_some _ _ _ c.unwrap.ensures c.as_array.ensures.cases).same
    ∙ ap (λ (n : ℕ). take n (drop (16 * c.loop-k.k) c.args.line.now)) size)
    c.block.ensures)

pub returns : goal.returns
returns c = λ k h. c.loop-k.invariant.each k (omega (arith, c.loop-k-test.false))
