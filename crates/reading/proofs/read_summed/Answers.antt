-- `reading::read_summed` meets its contract: a line whose CRC matches is read here, any other as a hurt one.
use mathlib.Core.Path.{ap, ◌∙◌}
use mathlib.Core.List.{List}
use Prim.Native.Nat.{ℕ}
use native.Mathlib.Omega.{arith}
use Rattle.linecode.specs.Places.{places}
use Rattle.linecode.specs.Code.{protected}
use Rattle.linecode.proofs.Positions.{position-sum-lt}
use Rattle.linecode.proofs.Bytes.{array-length}
use Rattle.paper_order.proofs.InOrder.{reads-matched}
use Rattle.reading.proofs.Telling.{below, above}
use Rattle.reading.proofs.read_summed.Goals as goal

pub with_bits-requires : goal.with_bits-requires
with_bits-requires c = (below _ _ c.requires c.if-sums-lt65536.true).1

pub mark_of-requires : goal.mark_of-requires
mark_of-requires c = (below _ _ c.requires c.if-sums-lt65536.true).1

pub returns-then-sums-lt65536 : goal.returns-then-sums-lt65536
returns-then-sums-lt65536 c =
    ap (λ (x : List ℕ). record { line = x; mark = c.mark_of.result }) c.with_bits.ensures
    ∙ reads-matched c.args.line (array-length 70 c.args.line _ c.well_formed.1.0) (below _ _ c.requires c.if-sums-lt65536.true).0 _
    c.mark_of.ensures

pub overflow_cast-sums : goal.overflow_cast-sums
overflow_cast-sums c =
    let h = position-sum-lt (protected (places c.args.line)) in
    omega (arith, (above _ _ c.requires c.if-sums-lt65536.false).1)

pub read_hurt-requires : goal.read_hurt-requires
read_hurt-requires c =
    let hurt = above _ _ c.requires c.if-sums-lt65536.false in
    record { hurt = hurt.0; summed = hurt.1 }
