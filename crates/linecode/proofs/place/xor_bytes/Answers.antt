-- `linecode::place::xor_bytes` meets its contract. After i turns the first i bytes are summed.
use mathlib.Core.Path.{◌≡◌, refl, ap, ◌∙◌}
use Prim.Native.Nat.{ℕ}
use native.Mathlib.Omega.{arith}
use Rattle.linecode.proofs.Bytes.{array-length, xor_first, xor_first-turn, xor_first-all}
use Rattle.linecode.proofs.place.xor_bytes.Goals as goal

pub loop-i-init : goal.loop-i-init
loop-i-init c = (array-length 70 c.args.a _ c.well_formed.0, array-length 70 c.args.b _ c.well_formed.1.0, refl)

pub loop-i-preserved : goal.loop-i-preserved
loop-i-preserved c =
    (c.loop-i.invariant.0, c.loop-i.invariant.1, xor_first-turn c.loop-i.i _ _ c.loop-i.sum (omega arith) (omega arith) c.loop-i.invariant.2)

pub returns : goal.returns
returns c =
    let all : c.loop-i.i ≡ 70 = omega (arith, c.loop-i.auto.i-end) in
    c.loop-i.invariant.2
    ∙ ap (λ (i : ℕ). xor_first i c.args.a c.args.b) all
    ∙ xor_first-all 70 c.args.a c.args.b c.loop-i.invariant.0 c.loop-i.invariant.1
