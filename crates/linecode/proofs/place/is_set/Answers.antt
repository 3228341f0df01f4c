-- `linecode::place::is_set` meets its contract.
use native.Mathlib.Omega.{arith}
use mathlib.Core.Path.{sym}
use mathlib.Core.Bool.{false}
use lib.ListN.{get_or-eq_default}
use Rattle.linecode.specs.Places.{places}
use Rattle.linecode.proofs.Bytes.{array-length}
use Rattle.linecode.proofs.Line.{places_is, length-places, place-bit}
use Rattle.linecode.proofs.place.is_set.Goals as goal

pub returns-then-i-lt553 : goal.returns-then-i-lt553
returns-then-i-lt553 c =
    sym (place-bit c.args.line (array-length 70 c.args.line _ c.well_formed.0) c.args.i c.bit_of-bit.result c.if-i-lt553.true c.bit_of-bit.ensures)

pub returns : goal.returns
returns c =
    let e = length-places c.args.line (array-length 70 c.args.line _ c.well_formed.0) in
    sym (get_or-eq_default (places c.args.line) false (omega (arith, e, places_is)))
