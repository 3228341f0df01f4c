-- `reading::read_hurt` meets its contract: each way out is one of the paper's order after the first comparison.
use mathlib.Core.Path.{◌≡◌, sym, ap, ap₂, ◌∙◌}
use mathlib.Core.List.{List}
use Prim.Native.Nat.{ℕ}
use native.Mathlib.Omega.{arith}
use lib.Bits.{bit_xor}
use Rattle.linecode.specs.Places.{places}
use Rattle.linecode.specs.Code.{syndrome, answer_to, place_of}
use Rattle.linecode.proofs.Bytes.{array-length}
use Rattle.linecode.proofs.Line.{length-places}
use Rattle.linecode.proofs.Syndrome.{syndrome-parts}
use Rattle.linecode.proofs.ReadAlone.{places-flipped}
use Rattle.paper_order.specs.PaperOrder.{corrector}
use Rattle.paper_order.proofs.Matching.{corrector-named, unnamed-past}
use Rattle.paper_order.proofs.InOrder.{reads-corrected, reads-faulty, reads-past}
use Rattle.reading.proofs.Telling.{lower-half, below, above}
use Rattle.reading.proofs.read_hurt.Goals as goal

pub returns-in_default : goal.returns-in_default
returns-in_default c =
    let answered : answer_to (syndrome (places c.args.line)) ≡ c.answer_to.result =
    sym (c.answer_to.ensures
    ∙ ap answer_to
    (ap₂ bit_xor c.requires.summed c.stored.ensures
    ∙ syndrome-parts (places c.args.line) (length-places c.args.line (array-length 70 c.args.line _ c.well_formed.1.0)))) in
    ap (λ (x : List ℕ). record { line = x; mark = 4 }) c.clear_spare.ensures
    ∙ reads-past c.args.line (array-length 70 c.args.line _ c.well_formed.1.0) c.requires.hurt _ answered
    (unnamed-past _ c.in_default.not-Protected)

pub with_bits-requires : goal.with_bits-requires
with_bits-requires c = lower-half _ _ c.sums_of-again.ensures

pub returns-then-matched : goal.returns-then-matched
unfolding place_of
returns-then-matched c =
    let answered : answer_to (syndrome (places c.args.line)) ≡ c.answer_to.result =
    sym (c.answer_to.ensures
    ∙ ap answer_to
    (ap₂ bit_xor c.requires.summed c.stored.ensures
    ∙ syndrome-parts (places c.args.line) (length-places c.args.line (array-length 70 c.args.line _ c.well_formed.1.0)))) in
    let flipped : places c.flip_place-flipped.result ≡ corrector (places c.args.line) =
    places-flipped c.args.line c.flip_place-flipped.result c.in-Protected.i (array-length 70 c.args.line _ c.well_formed.1.0) c.flip_place-flipped.ensures
    ∙ sym (corrector-named (places c.args.line) _ (answered ∙ c.in-Protected.is)) in
    ap (λ (x : List ℕ). record { line = x; mark = 1 }) c.with_bits.ensures
    ∙ reads-corrected c.args.line (array-length 70 c.args.line _ c.well_formed.1.0) _ c.requires.hurt flipped
    (below _ _ c.sums_of-again.ensures c.if-matched.true).0

pub returns : goal.returns
unfolding place_of
returns c =
    let answered : answer_to (syndrome (places c.args.line)) ≡ c.answer_to.result =
    sym (c.answer_to.ensures
    ∙ ap answer_to
    (ap₂ bit_xor c.requires.summed c.stored.ensures
    ∙ syndrome-parts (places c.args.line) (length-places c.args.line (array-length 70 c.args.line _ c.well_formed.1.0)))) in
    let flipped : places c.flip_place-flipped.result ≡ corrector (places c.args.line) =
    places-flipped c.args.line c.flip_place-flipped.result c.in-Protected.i (array-length 70 c.args.line _ c.well_formed.1.0) c.flip_place-flipped.ensures
    ∙ sym (corrector-named (places c.args.line) _ (answered ∙ c.in-Protected.is)) in
    ap (λ (x : List ℕ). record { line = x; mark = 4 }) c.clear_spare-2.ensures
    ∙ reads-faulty c.args.line (array-length 70 c.args.line _ c.well_formed.1.0) _ c.requires.hurt flipped
    (above _ _ c.sums_of-again.ensures c.if-matched.false).0
