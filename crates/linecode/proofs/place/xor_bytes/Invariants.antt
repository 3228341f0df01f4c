-- `linecode::place::xor_bytes` meets its contract. After i turns the first i bytes are summed.
use mathlib.Core.Path.{◌≡◌}
use lib.ListN.{length}
use Rattle.linecode.proofs.Bytes.{xor_first}
use Rattle.linecode.proofs.place.xor_bytes.Given as goal

abbrev pub invariant-loop-i : goal.invariant-loop-i
invariant-loop-i l = (length l.initial.sum ≡ 70) × (length l.b ≡ 70) × (l.sum ≡ xor_first l.i l.initial.sum l.b)
