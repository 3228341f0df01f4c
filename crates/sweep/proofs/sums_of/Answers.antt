-- `sweep::sums_of` meets its contract: the line is a buffer of one line.
use mathlib.Core.Path.{ap, ◌∙◌}
use mathlib.Core.List.{List}
use Prim.Native.Nat.{ℕ}
use native.Mathlib.Omega.{arith}
use lib.Seq.{take_all}
use Rattle.linecode.specs.Places.{places}
use Rattle.linecode.proofs.Bytes.{array-length}
use Rattle.sweep.specs.Sums.{both_sums}
use Rattle.sweep.proofs.sums_of.Goals as goal

pub returns : goal.returns
returns c =
    c.sums_of_lines.ensures 0 (omega arith)
    ∙ ap (λ (b : List ℕ). both_sums (places b)) (take_all 70 c.args.line (omega (arith, array-length 70 c.args.line _ c.well_formed.1.0)))
