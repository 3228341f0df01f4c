-- `visiting::try_group` meets its contract: each way out is a case of the trials.
use mathlib.Core.Path.{◌≡◌}
use Prim.Native.Nat.{◌<◌, ◌≤◌}
use lib.ListN.{length}
use Rattle.std.proofs.Common.{rules}
use Rattle.linecode.specs.Places.{places}
use Rattle.scheme.specs.Visit.{set_places}
use Rattle.linecode.proofs.Bytes.{array-length}
use Rattle.visiting.proofs.Cases.{few_faulty, no-mismatch, places-tried}
use Rattle.visiting.proofs.try_group.Goals as goal

pub returns-then-faulty_in_group-lt2 : goal.returns-then-faulty_in_group-lt2
returns-then-faulty_in_group-lt2 c = few_faulty _ _ _ _ _ c.requires _ (array-length 70 c.args.parity _ c.well_formed.1.1.0) _ c.faulty_in_group.ensures c.if-faulty_in_group-lt2.true

pub returns-then-is_empty : goal.returns-then-is_empty
returns-then-is_empty c =
    let none : length c.in-Some.tries.items < 1 = search rules in
    let are : c.in-Some.tries.items ≡ set_places 0 (places c.difference.result) = search rules in
    no-mismatch _ _ _ _ _ c.requires _ (array-length 70 c.args.parity _ c.well_formed.1.1.0) _ c.faulty_in_group.ensures _ c.difference.ensures _ are none

pub returns : goal.returns
returns c =
    let some : 1 ≤ length c.as_slice.result.now = search rules in
    let six : length c.as_slice.result.now ≤ 6 = c.as_slice.ensures.fits in
    let are : c.as_slice.result.now ≡ set_places 0 (places c.difference.result) = search rules in
    places-tried _ _ _ _ _ c.requires _ (array-length 70 c.args.parity _ c.well_formed.1.1.0) _ c.faulty_in_group.ensures _ c.difference.ensures _ are _ _
    c.if-faulty_in_group-lt2.false some six c.trial.ensures
