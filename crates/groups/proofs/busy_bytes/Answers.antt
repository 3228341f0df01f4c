-- `groups::busy_bytes` meets its contract: of the first bytes so many are not 0.
use mathlib.Core.Path.{◌≡◌, sym, ap, ◌∙◌}
use mathlib.Core.Bool.{not}
use Prim.Native.Nat.{ℕ}
use Rattle.std.specs.Prelude.{◌==◌, count_by}
use native.Mathlib.Omega.{arith}
use lib.ListN.{length, take}
use lib.Seq.{length-take-le, take-length}
use Rattle.linecode.proofs.Bytes.{array-length, array-bytes}
use Rattle.groups.proofs.Busy.{busy-places}
use Rattle.groups.proofs.busy_bytes.Goals as goal

pub slice_bounds-byte-items-end : goal.slice_bounds-byte-items-end
slice_bounds-byte-items-end c =
    let whole = array-length 70 c.args.line _ c.well_formed.0 in
    sym (length-take-le 67 c.args.line (omega arith))

pub returns : goal.returns
returns c =
    let whole = array-length 70 c.args.line _ c.well_formed.0 in
    let last : c.loop-byte.byte-index ≡ length (take 67 c.args.line) = omega (arith, c.loop-byte.auto, c.loop-byte-test.false) in
    let all =
    c.loop-byte.invariant.0
    ∙ ap (λ (k : ℕ). count_by (λ b. not (b == 0)) (take k (take 67 c.args.line))) last
    ∙ ap (count_by (λ b. not (b == 0))) (take-length (take 67 c.args.line)) in
    omega (arith, busy-places c.args.line whole (array-bytes 70 c.args.line _ c.well_formed.0), all)
