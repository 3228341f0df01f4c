-- `peeling::passes::run_passes` meets its contract: the passes made and those still to come are all passes.
use native.Mathlib.Nat.{mul-le-mul_right}
use Rattle.peeling.proofs.Running.{running_idle, running-start, running-end, running-less, running-next}
use native.Mathlib.Omega.{arith}
use Rattle.peeling.proofs.passes.run_passes.Goals as goal

pub loop-before-init : goal.loop-before-init
loop-before-init c = running-start _ _ _ _ _ c.requires c.count_faulty-before.ensures

pub overflow_add-passes : goal.overflow_add-passes
overflow_add-passes c =
    omega (arith, c.loop-before.invariant.bound, mul-le-mul_right c.args.sides.columns c.loop-before.invariant.counted.sides.rows_high, c.loop-before.invariant.counted.sides.columns_high)

pub loop-before-smaller : goal.loop-before-smaller
loop-before-smaller c =
    running-less _ _ _ _ _ _ _ c.loop-before.invariant (omega arith) _ _ c.visit_all.ensures.0 c.visit_all.ensures.1 _ c.count_faulty-left.ensures (λ z. omega arith)

pub loop-before-preserved : goal.loop-before-preserved
loop-before-preserved c =
    running-next _ _ _ _ _ _ _ c.loop-before.invariant (omega arith) _ _ c.visit_all.ensures.0 c.visit_all.ensures.1 _ c.count_faulty-left.ensures (λ z. omega arith)

pub returns : goal.returns
returns c = running-end _ _ _ _ _ _ _ c.loop-before.invariant (omega arith)

pub returns-then-left-before : goal.returns-then-left-before
returns-then-left-before c =
    running_idle _ _ _ _ _ _ _ c.loop-before.invariant (omega arith) _ _ c.visit_all.ensures.0 c.visit_all.ensures.1 _ c.count_faulty-left.ensures (omega arith)
