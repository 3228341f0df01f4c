-- `linecode::hamming::with_bits` meets its contract.
use mathlib.Core.Path.{◌≡◌, ap, ap₂, ◌∙◌}
use mathlib.Core.List.{List, [], ◌∷◌}
use Prim.Native.Nat.{ℕ, ◌/◌, ◌%◌, ◌<◌}
use native.Mathlib.Omega.{arith}
use lib.ListN.{get_or}
use lib.Seq.{sets}
use Rattle.linecode.proofs.Bytes.{array-length, array-bytes}
use Rattle.linecode.proofs.Stores.{stored-sum}
use Rattle.linecode.proofs.hamming.with_bits.Goals as goal

pub returns : goal.returns
returns c =
    ap₂ (λ (a b : ℕ). sets c.args.line 67 (get_or c.args.line 67 0 % 128 ∷ a ∷ b ∷ []))
    (ap (λ (l : List ℕ). get_or l 0 0) c.to_le_bytes.ensures)
    (ap (λ (l : List ℕ). get_or l 1 0) c.to_le_bytes.ensures ∙ high c.args.sum c.ranges.sum.fits)
    ∙ stored-sum c.args.line (array-length 70 c.args.line _ c.well_formed.0) (array-bytes 70 c.args.line _ c.well_formed.0) c.args.sum c.requires
  where
    high : (n : ℕ) → n < 65536 → n / 256 % 256 ≡ n / 256
    high n h = omega arith
