-- Both sums of a line in one number, by whether its CRC matches.
use mathlib.Core.Path.{◌≡◌, sym, ap}
use mathlib.Core.Bool.{Bool, true, false, not, cond}
use Prim.Native.Nat.{ℕ, ◌+◌, ◌*◌, ◌<◌}
use native.Mathlib.Omega.{arith}
use Rattle.std.specs.Int.{from_bool}
use Rattle.gf2.specs.Word.{Word}
use Rattle.gf2.specs.Check.{column_sum}
use Rattle.linecode.specs.Code.{positions, protected}
use Rattle.paper_order.specs.PaperOrder.{crc_matches}
use Rattle.sweep.specs.Sums.{both_sums}

pub sums-when : (w : Word) (b : Bool) → crc_matches w ≡ b → both_sums w ≡ column_sum positions (protected w) + cond b 0 65536
unfolding both_sums
sums-when w b e = ap (λ (t : Bool). column_sum positions (protected w) + cond t 0 65536) e

-- as the code makes it: the flag above the sum
pub flagged : (w : Word) (p f : ℕ) (b : Bool) → b ≡ crc_matches w → p ≡ column_sum positions (protected w) → f ≡ from_bool (not b)
    → p + 65536 * f ≡ both_sums w
flagged w p f true e q h = let whole = sums-when w true (sym e) in omega arith
flagged w p f false e q h = let whole = sums-when w false (sym e) in omega arith

pub flag-small : (f : ℕ) (b : Bool) → f ≡ from_bool b → f < 2
flag-small f false e = omega arith
flag-small f true e = omega arith
