-- `single::alone::corrected` meets its contract: the place that is named is turned over, or none.
use native.Mathlib.Omega.{arith}
use mathlib.Core.Path.{◌≡◌, sym, ap, ◌∙◌}
use Rattle.linecode.specs.Places.{protected_places, places}
use Rattle.linecode.specs.Code.{syndrome, answer_to, place_of}
use Rattle.linecode.proofs.Bytes.{array-length}
use Rattle.linecode.proofs.Line.{length-places}
use Rattle.linecode.proofs.Answers.{hamming-power}
use Rattle.linecode.proofs.ReadAlone.{places-flipped}
use Rattle.paper_order.proofs.Matching.{corrector-named, corrector-none}
use Rattle.single.proofs.alone.corrected.Goals as goal

pub returns-in_default-answer : goal.returns-in_default-answer
returns-in_default-answer c =
    let answered : c.answer_to-answer.result ≡ answer_to (syndrome (places c.args.line)) =
    c.answer_to-answer.ensures ∙ ap answer_to c.requires in
    sym (corrector-none (places c.args.line) (length-places c.args.line (array-length 70 c.args.line _ c.well_formed.0))
    c.answer_to-answer.result (sym answered) c.in_default.not-Protected c.in_default-answer.not-Hamming)

pub overflow_add-k : goal.overflow_add-k
overflow_add-k c =
    let answered : c.answer_to-answer.result ≡ answer_to (syndrome (places c.args.line)) =
    c.answer_to-answer.ensures ∙ ap answer_to c.requires in
    omega (arith, (hamming-power _ _ (sym answered ∙ c.in-Hamming.is)).0)

pub returns-in_default : goal.returns-in_default
unfolding place_of protected_places
returns-in_default c =
    let answered : c.answer_to-answer.result ≡ answer_to (syndrome (places c.args.line)) =
    c.answer_to-answer.ensures ∙ ap answer_to c.requires in
    places-flipped c.args.line _ _ (array-length 70 c.args.line _ c.well_formed.0) c.flip_place.ensures
    ∙ sym (corrector-named (places c.args.line) _ (sym answered ∙ c.in-Hamming.is))

pub returns : goal.returns
unfolding place_of
returns c =
    let answered : c.answer_to-answer.result ≡ answer_to (syndrome (places c.args.line)) =
    c.answer_to-answer.ensures ∙ ap answer_to c.requires in
    places-flipped c.args.line _ c.in-Protected.i (array-length 70 c.args.line _ c.well_formed.0) c.flip_place-2.ensures
    ∙ sym (corrector-named (places c.args.line) _ (sym answered ∙ c.in-Protected.is))
