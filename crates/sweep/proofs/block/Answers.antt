-- `sweep::block` meets its contract: after k turns the entries of the last k bytes are added.
use mathlib.Core.Path.{◌≡◌, sym, ap, ◌∙◌, subst}
use Prim.Native.Nat.{ℕ, ◌-◌}
use native.Mathlib.Omega.{arith}
use lib.ListN.{drop, drop_of_length-le}
use Rattle.register.proofs.Slicing.{late}
use Rattle.register.proofs.TableRule.{entry_of}
use Rattle.register.proofs.Bytes.{array-length, array-bytes}
use Rattle.sweep.specs.Sums.{Summed}
use Rattle.sweep.proofs.Entries.{block-summed, late-turn}
use Rattle.sweep.proofs.block.Goals as goal

pub loop-k-init : goal.loop-k-init
loop-k-init c =
    let whole = array-length 16 c.args.bytes _ c.well_formed.1.0 in
    sym (ap (late (entry_of c.args.table.now.entries.now)) (drop_of_length-le c.args.bytes {i = 16} (omega arith)))

pub loop-k-preserved : goal.loop-k-preserved
loop-k-preserved c =
    late-turn c.args.table.now.entries.now c.args.bytes c.loop-k.k c.loop-k.sum (array-length 16 c.args.bytes _ c.well_formed.1.0) c.loop-k-test.true
    c.loop-k.invariant

pub returns : goal.returns
returns c =
    let none : 16 - c.loop-k.k ≡ 0 = omega (arith, c.loop-k-test.false) in
    subst (Summed c.args.bytes)
    (sym (c.loop-k.invariant ∙ ap (λ (i : ℕ). late (entry_of c.args.table.now.entries.now) (drop i c.args.bytes)) none))
    (block-summed c.args.table.now.entries.now c.args.table.now.lent c.args.bytes
    (array-length 16 c.args.bytes _ c.well_formed.1.0) (array-bytes 16 c.args.bytes _ c.well_formed.1.0))
