-- `single::alone::read_line` meets its contract: each way out is one of the paper's order.
use mathlib.Core.Path.{◌≡◌, sym, ap, ◌∙◌}
use mathlib.Core.Bool.{false}
use mathlib.Core.List.{List, ◌++◌}
use Prim.Native.Nat.{ℕ}
use lib.ListN.{take}
use Rattle.gf2.specs.Word.{digits}
use Rattle.gf2.specs.Check.{column_sum}
use Rattle.linecode.specs.Places.{bits_of, places}
use Rattle.linecode.specs.Code.{positions}
use Rattle.linecode.proofs.Bytes.{array-length}
use Rattle.paper_order.specs.PaperOrder.{crc_matches}
use Rattle.paper_order.proofs.InOrder.{reads-corrected, reads-faulty}
use Rattle.single.proofs.Numbers.{reads-codeword, matched-number, protected-sum, held-syndrome}
use Rattle.single.proofs.alone.read_line.Goals as goal

-- the CRC from the data, and the comparison
pub with_checks-requires : goal.with_checks-requires
with_checks-requires c = (
  c.of_data-worked.ensures,
  c.sum_with-sum.ensures
      ∙ ap (λ (n : ℕ). column_sum positions (bits_of (take 64 c.args.line) ++ digits 32 n))
      (matched-number _ _ _ (sym c.matches.ensures ∙ c.if-matches.true) c.of_data-worked.ensures
      c.stored.ensures),
)

pub mark_of-requires : goal.mark_of-requires
mark_of-requires c =
    c.sum_with-sum.ensures ∙ protected-sum c.args.line (array-length 70 c.args.line _ c.well_formed.0) c.stored.result c.stored.ensures

pub returns-then-matches : goal.returns-then-matches
returns-then-matches c =
    ap (λ (x : List ℕ). record { line = x; mark = c.mark_of.result }) c.with_checks.ensures
    ∙ reads-codeword c.args.line _ (array-length 70 c.args.line _ c.well_formed.0) (sym c.matches.ensures ∙ c.if-matches.true)
    c.mark_of.ensures

-- the corrector
pub corrected-after-requires : goal.corrected-after-requires
corrected-after-requires c =
    held-syndrome c.args.line (array-length 70 c.args.line _ c.well_formed.0) c.stored.result c.stored.ensures c.sum_with-sum.result
    c.stored-2.result c.sum_with-sum.ensures c.stored-2.ensures

pub returns-then-matches-2 : goal.returns-then-matches-2
returns-then-matches-2 c =
    let missed : crc_matches (places c.args.line) ≡ false =
    sym c.matches.ensures ∙ c.if-matches.false in
    ap (λ (x : List ℕ). record { line = x; mark = 1 }) c.append.ensures
    ∙ reads-corrected c.args.line (array-length 70 c.args.line _ c.well_formed.0) _ missed c.corrected-after.ensures
    (sym c.matches-2.ensures ∙ c.if-matches-2.true)

pub returns : goal.returns
returns c =
    let missed : crc_matches (places c.args.line) ≡ false =
    sym c.matches.ensures ∙ c.if-matches.false in
    ap (λ (x : List ℕ). record { line = x; mark = 4 }) c.clear_spare.ensures
    ∙ reads-faulty c.args.line (array-length 70 c.args.line _ c.well_formed.0) _ missed c.corrected-after.ensures
    (sym c.matches-2.ensures ∙ c.if-matches-2.false)
