-- `single::alone::with_checks` meets its contract: the six bytes after the data are stored.
use mathlib.Core.Path.{◌≡◌, ap, ap₂, ◌∙◌}
use mathlib.Core.List.{List, [], ◌∷◌}
use Prim.Native.Nat.{ℕ, ◌/◌, ◌%◌, ◌<◌}
use native.Mathlib.Omega.{arith}
use lib.ListN.{get_or}
use lib.Seq.{sets}
use Rattle.linecode.proofs.Bytes.{array-length, array-bytes}
use Rattle.linecode.proofs.Codeword.{stored-codeword}
use Rattle.single.proofs.alone.with_checks.Goals as goal

pub returns : goal.returns
returns c =
    ap₂ (λ (x y : List ℕ). sets c.args.line 64 (get_or x 0 0 ∷ get_or x 1 0 ∷ get_or x 2 0 ∷ get_or x 3 0 ∷ get_or y 0 0 ∷ get_or y 1 0 ∷ []))
    c.to_le_bytes.ensures c.to_le_bytes-2.ensures
    ∙ ap (λ (n : ℕ). sets c.args.line 64 (c.args.check % 256 ∷ c.args.check / 256 % 256 ∷ c.args.check / 65536 % 256 ∷ c.args.check / 16777216 % 256 ∷ c.args.sum % 256 ∷ n ∷ []))
    (high c.args.sum c.ranges.sum.fits)
    ∙ stored-codeword c.args.line c.args.check c.args.sum (array-length 70 c.args.line _ c.well_formed.0) (array-bytes 70 c.args.line _ c.well_formed.0) c.requires.0 c.requires.1
  where
    high : (n : ℕ) → n < 65536 → n / 256 % 256 ≡ n / 256
    high n h = omega arith
