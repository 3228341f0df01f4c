-- `groups::count_faulty` meets its contract.
use mathlib.Core.Path.{◌≡◌}
use Prim.Native.Nat.{◌*◌, ◌≤◌}
use Rattle.groups.specs.Lent.{count_to}
use Rattle.groups.proofs.count_faulty.Given as goal

abbrev pub invariant-loop-r : goal.invariant-loop-r
invariant-loop-r l = (l.found ≡ count_to l.faulty l.r) × (l.found ≤ l.r * 65535)
