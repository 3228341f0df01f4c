-- `mending::visit::try_group` meets its contract: each way out is a case of the trials.
use mathlib.Core.Path.{◌≡◌, ◌∙◌}
use Prim.Native.Nat.{◌<◌, ◌≤◌}
use lib.ListN.{length}
use native.Mathlib.Omega.{arith}
use Rattle.std.proofs.Common.{rules}
use Rattle.linecode.specs.Places.{places}
use Rattle.scheme.specs.Visit.{set_places}
use Rattle.groups.proofs.Joined.{which-difference}
use Rattle.mending.proofs.Mismatching.{few-faulty, no-mismatch, many-places, places-tried}
use Rattle.mending.proofs.visit.try_group.Goals as goal

pub returns-then-count-lt2 : goal.returns-then-count-lt2
returns-then-count-lt2 c =
    λ parity s carried. few-faulty _ _ _ _ _ _ _ _ _ _ c.requires.group.numbered parity s carried (omega (arith, c.count.ensures, c.if-count-lt2.true))

pub returns-in_default : goal.returns-in_default
returns-in_default c =
    let lack = c.difference-lack.ensures ∙ which-difference _ _ _ c.args.sides.columns c.requires.ready.row_bytes _ c.requires.group.within in
    let many : 6 < length (set_places 0 (places c.difference-lack.result)) = search rules in
    λ parity s carried. many-places _ _ _ _ _ _ _ _ _ _ c.requires.group.numbered parity s carried _ lack many

pub returns-then-is_empty : goal.returns-then-is_empty
returns-then-is_empty c =
    let lack = c.difference-lack.ensures ∙ which-difference _ _ _ c.args.sides.columns c.requires.ready.row_bytes _ c.requires.group.within in
    let none : length c.in-Some.tries.items < 1 = search rules in
    let are : c.in-Some.tries.items ≡ set_places 0 (places c.difference-lack.result) = search rules in
    λ parity s carried. no-mismatch _ _ _ _ _ _ _ _ _ _ c.requires.group.numbered parity s carried _ lack _ are none

pub returns : goal.returns
returns c =
    let lack = c.difference-lack.ensures ∙ which-difference _ _ _ c.args.sides.columns c.requires.ready.row_bytes _ c.requires.group.within in
    let some : 1 ≤ length c.as_slice.result.now = search rules in
    let six : length c.as_slice.result.now ≤ 6 = c.as_slice.ensures.fits in
    let are : c.as_slice.result.now ≡ set_places 0 (places c.difference-lack.result) = search rules in
    λ parity s carried.
    places-tried _ _ _ _ _ _ _ _ _ _ c.requires.group.numbered parity s carried _ lack _ are _ _ _ _
    (omega (arith, c.count.ensures, c.if-count-lt2.false)) some six (c.trial.ensures parity s carried)
