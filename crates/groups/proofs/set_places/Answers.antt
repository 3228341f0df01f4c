-- `groups::set_places` meets its contract.
use native.Mathlib.Omega.{arith}
use mathlib.Core.Path.{◌≡◌, sym, ◌∙◌}
use mathlib.Core.List.{[], ◌∷◌, ◌++◌}
use Prim.Native.Nat.{◌<◌}
use lib.ListN.{length}
use Rattle.std.proofs.Common.{rules}
use Rattle.linecode.specs.Places.{places}
use Rattle.linecode.proofs.Bytes.{array-length}
use Rattle.rectangle.proofs.Spare.{places_is, length-places}
use Rattle.groups.proofs.Added.{zero-no-places}
use Rattle.groups.proofs.Listing.{listing_start, listing-set, listing-clear}
use Rattle.groups.proofs.set_places.Goals as goal
use Rattle.groups.proofs.set_places.Goals.{then-is_set+in_ok-ok, else-is_set}

pub returns-then-is_zero : goal.returns-then-is_zero
returns-then-is_zero g c = (
  c.new-few.ensures ∙ sym (zero-no-places c.args.line (array-length 70 c.args.line _ c.well_formed.0) (sym c.is_zero.ensures ∙ c.if-is_zero.true)),
  rw c.new-few.ensures (omega arith),
)

pub loop-i-init : goal.loop-i-init
loop-i-init g c = rw c.new-few.ensures (listing_start (places c.args.line) g.row.MOST (length-places c.args.line (array-length 70 c.args.line _ c.well_formed.0) ∙ places_is))

pub loop-i-preserved : goal.loop-i-preserved
loop-i-preserved g c =
    elim c.if-is_set.branch [
      | then-is_set+in_ok-ok w ↦
          let room : length c.loop-i.few.items < g.row.MOST = search rules in
          let kept : w.try_push.new.self.items ≡ c.loop-i.few.items ++ c.loop-i.i ∷ [] = search rules in
          rw (w.few-is, kept) (listing-set _ _ _ _ c.loop-i.invariant c.loop-i-test.true _ c.after_place-i.ensures (sym c.is_set.ensures ∙ w.if-is_set.true) room)
      | else-is_set w ↦
          rw w.few-is (listing-clear _ _ _ _ c.loop-i.invariant c.loop-i-test.true _ c.after_place-i.ensures (sym c.is_set.ensures ∙ w.if-is_set.false))
    ]
