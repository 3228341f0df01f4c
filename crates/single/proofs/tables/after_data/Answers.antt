-- `single::tables::after_data` meets its contract. A turn takes in the first or the second eight of sixteen bytes.
use mathlib.Core.Path.{◌≡◌, ap, ◌∙◌, subst}
use Prim.Native.Nat.{ℕ, ◌+◌, ◌*◌, ◌≤◌, ◌<◌}
use native.Mathlib.Omega.{arith}
use lib.Bits.{bit_xor}
use lib.ListN.{length, get_or, replicate}
use Rattle.register.specs.Slices.{after}
use Rattle.register.proofs.Bytes.{array-byte}
use Rattle.register.proofs.Slicing.{after-added}
use Rattle.linecode.proofs.Bytes.{array-length}
use Rattle.single.proofs.Steps.{Fed, bytes_from, fed-start, fed-first, fed-second, fed-end}
use Rattle.single.proofs.tables.after_data.Goals as goal
use Rattle.single.proofs.tables.after_data.Goals.{then-k-eq0, else-k-eq0}

pub loop-k-init : goal.loop-k-init
loop-k-init c = fed-start c.args.line

pub loop-k-preserved : goal.loop-k-preserved
loop-k-preserved c =
    let i : ℕ = 8 * c.loop-k.k in
    let whole = array-length 70 c.args.line _ c.well_formed.0 in
    let long : 64 ≤ length c.args.line = omega arith in
    let known = array-byte 70 c.args.line _ c.well_formed.0 in
    let h : 8 * c.loop-k.k < 64 = omega arith in
    let next : 8 * c.loop-k.k + 8 ≡ 8 * (c.loop-k.k + 1) = omega arith in
    let word : c.from_le_bytes.result
    ≡ get_or c.args.line i 0 + 256 * (get_or c.args.line (i + 1) 0 + 256 * (get_or c.args.line (i + 2) 0 + 256 * get_or c.args.line (i + 3) 0)) =
    c.from_le_bytes.ensures ∙ omega arith in
    let fed =
    after-added c.loop-k.r (bit_xor c.loop-k.r c.from_le_bytes.result) (get_or c.args.line i 0) (get_or c.args.line (i + 1) 0) (get_or c.args.line (i + 2) 0) (get_or c.args.line (i + 3) 0) (bytes_from c.args.line i 4 4)
    c.loop-k.invariant.small (ap (bit_xor c.loop-k.r) word) (known i) (known (i + 1)) (known (i + 2)) in
    subst (Fed c.args.line _ _) next
    (elim c.if-k-eq0.branch [
      | then-k-eq0 w ↦ fed-first c.args.line _ c.loop-k.r i long h c.loop-k.invariant _ _ (omega (arith, w.if-k-eq0.true)) w.r-is (w.kept-is ∙ c.eight-n.ensures.far ∙ ap (λ (m : ℕ). after m (replicate 8 0)) fed)
      | else-k-eq0 w ↦ fed-second c.args.line _ c.loop-k.r i long h c.loop-k.invariant _ _ _ (λ e. w.if-k-eq0.false (omega arith)) w.r-is (c.eight-n.ensures.near ∙ fed)
    ])

pub returns : goal.returns
returns c =
    fed-end c.args.line _ c.loop-k.r (8 * c.loop-k.k) (omega (arith, c.loop-k-test.false)) c.loop-k.invariant
