-- `groups::busy_bytes` meets its contract: of the first bytes so many are not 0.
use mathlib.Core.Path.{◌≡◌}
use mathlib.Core.Bool.{not}
use Prim.Native.Nat.{◌≤◌}
use lib.ListN.{take}
use Rattle.std.specs.Prelude.{◌==◌, count_by}
use Rattle.groups.proofs.busy_bytes.Given as goal

abbrev pub invariant-loop-byte : goal.invariant-loop-byte
invariant-loop-byte l =
    (l.busy ≡ count_by (λ b. not (b == 0)) (take l.byte-index l.byte-items)) × (l.busy ≤ l.byte-index)
