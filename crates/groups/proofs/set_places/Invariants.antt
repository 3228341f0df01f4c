-- `groups::set_places` meets its contract.
use Prim.Native.Nat.{◌-◌}
use Rattle.linecode.specs.Places.{places}
use Rattle.groups.proofs.Listing.{Listing}
use Rattle.groups.proofs.set_places.Given as goal

abbrev pub invariant-loop-i : goal.invariant-loop-i
invariant-loop-i g l = Listing (places l.line) g.row.MOST l.few.items l.i

abbrev pub decreases-loop-i : goal.decreases-loop-i
decreases-loop-i g l = 553 - l.i
