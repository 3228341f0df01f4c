-- `single::alone::is_correct` meets its contract.
use mathlib.Core.Path.{sym, ap, ap₂, ◌∙◌}
use mathlib.Core.Bool.{Bool, ◌&&◌}
use lib.Dec.{eqb}
use Rattle.gf2.specs.Word.{number}
use Rattle.gf2.specs.Check.{column_sum}
use Rattle.linecode.specs.Places.{places}
use Rattle.linecode.specs.Code.{protected, stored_hamming, positions}
use Rattle.linecode.proofs.Bytes.{array-length}
use Rattle.linecode.proofs.Line.{length-places}
use Rattle.linecode.proofs.Codeword.{is_correct-parts}
use Rattle.paper_order.proofs.Matching.{matches-accepted}
use Rattle.single.proofs.alone.is_correct.Goals as goal

pub returns-then-matches : goal.returns-then-matches
returns-then-matches c =
    let w = places c.args.line in
    let whole = length-places c.args.line (array-length 70 c.args.line _ c.well_formed.0) in
    ap₂ eqb c.position_sum.ensures c.stored.ensures
    ∙ sym (is_correct-parts w whole
    ∙ ap (λ (t : Bool). t && eqb (column_sum positions (protected w)) (number (stored_hamming w)))
    (sym (c.matches.ensures ∙ matches-accepted w whole) ∙ c.if-matches.true))

pub returns-else-matches : goal.returns-else-matches
returns-else-matches c =
    let w = places c.args.line in
    let whole = length-places c.args.line (array-length 70 c.args.line _ c.well_formed.0) in
    c.if-matches.false
    ∙ sym (is_correct-parts w whole
    ∙ ap (λ (t : Bool). t && eqb (column_sum positions (protected w)) (number (stored_hamming w)))
    (sym (c.matches.ensures ∙ matches-accepted w whole) ∙ c.if-matches.false))
