-- `peeling::counts::count_all` meets its contract: after r turns the first r rows are counted.
use mathlib.Core.Path.{◌≡◌, sym, subst}
use Prim.Native.Nat.{ℕ, ◌*◌}
use native.Mathlib.Nat.{zero-mul}
use Rattle.peeling.specs.Lent.{CountedBy, faulty_before}
use Rattle.peeling.proofs.Counting.{none-counted, all-counted}
use native.Mathlib.Omega.{arith}
use Rattle.peeling.proofs.counts.count_all.Goals as goal

pub loop-r-init : goal.loop-r-init
loop-r-init c =
    (c.requires.room.0, subst (λ (n : ℕ). CountedBy c.args.sides.rows c.args.sides.columns (faulty_before c.args.marks.now n) c.args.faulty.now) (sym (zero-mul c.args.sides.columns)) (none-counted _ _ c.args.marks.now _ c.requires.room.0 c.requires.none))

pub returns : goal.returns
returns c =
    let last : c.loop-r.r ≡ c.args.sides.rows = omega (arith, c.loop-r.auto, c.loop-r-test.false) in
    all-counted _ _ _ _ c.loop-r.invariant.0 c.requires.room.1
    (subst (λ (n : ℕ). CountedBy c.args.sides.rows c.args.sides.columns (faulty_before c.args.marks.now (n * c.args.sides.columns)) c.loop-r.faulty) last c.loop-r.invariant.1)
