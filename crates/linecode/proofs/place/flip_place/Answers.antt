-- `linecode::place::flip_place` meets its contract.
use native.Mathlib.Omega.{arith}
use mathlib.Core.List.{List}
use Prim.Native.Nat.{ℕ, ◌*◌, ◌/◌, ◌%◌, ◌^◌, ◌<◌}
use lib.Bits.{bit_xor}
use lib.ListN.{get_or, set}
use lib.Pow.{shl_exact}
use Rattle.linecode.proofs.Bytes.{array-length}
use Rattle.linecode.proofs.Line.{flip-bit, flip-none}
use mathlib.Core.Path.{◌≡◌, ap, ◌∙◌}
use Rattle.linecode.specs.Places.{places, line_of}
use Rattle.linecode.proofs.place.flip_place.Goals as goal
use Rattle.linecode.proofs.place.flip_place.Goals.{then-i-lt553, else-i-lt553}

one : (l : List ℕ) (q k : ℕ) → k < 8 → set l q (bit_xor (get_or l q 0) (1 * 2 ^ k % 2 ^ 8)) ≡ set l q (bit_xor (get_or l q 0) (2 ^ k))
one l q k h =
    ap (λ (m : ℕ). set l q (bit_xor (get_or l q 0) m)) (shl_exact {a = 1} 1 k 8 (omega arith) (omega arith) ∙ single (2 ^ k))
  where
    single : (n : ℕ) → 1 * n ≡ n
    single n = omega arith

pub returns : goal.returns
returns c =
    let whole = array-length 70 c.args.line _ c.well_formed.0 in
    c.clear_spare.ensures
    ∙ ap line_of
    (elim c.if-i-lt553.branch [
      | then-i-lt553 w ↦
          ap places (w.flipped-is ∙ one c.args.line (w.bit_of-bit.result / 8) (w.bit_of-bit.result % 8) (omega arith))
          ∙ flip-bit c.args.line whole c.args.i w.bit_of-bit.result w.if-i-lt553.true w.bit_of-bit.ensures
      | else-i-lt553 w ↦ ap places w.flipped-is ∙ flip-none c.args.line whole c.args.i w.if-i-lt553.false
    ])
