-- `wordsums::sum_with` meets its contract: the words hold the bits of the data.
use native.Mathlib.Omega.{arith}
use mathlib.Core.Path.{refl, ap, ◌∙◌}
use Rattle.gf2.specs.Word.{digits}
use Rattle.gf2.specs.Check.{column_sum}
use Rattle.linecode.specs.Code.{positions}
use Rattle.linecode.proofs.Bytes.{array-length}
use Rattle.linecode.proofs.Positions.{sum_lt}
use Rattle.linecode.proofs.WordBytes.{word-before}
use Rattle.wordsums.proofs.sum_with.Goals as goal

-- ten bits fit the result
pub overflow_cast-result : goal.overflow_cast-result
overflow_cast-result c = omega (arith, sum_lt _ _ c.hamming_bits.ensures)

pub returns : goal.returns
returns c =
    let crc = digits 32 c.args.crc in
    let whole = array-length 70 c.args.line _ c.well_formed.0 in
    c.hamming_bits.ensures
    ∙ ap (column_sum positions)
    (word-before c.args.line whole 0 56 c.word_at.result _ crc (omega arith) c.word_at.ensures
    (word-before c.args.line whole 8 48 c.word_at-2.result _ crc (omega arith) c.word_at-2.ensures
    (word-before c.args.line whole 16 40 c.word_at-3.result _ crc (omega arith) c.word_at-3.ensures
    (word-before c.args.line whole 24 32 c.word_at-4.result _ crc (omega arith) c.word_at-4.ensures
    (word-before c.args.line whole 32 24 c.word_at-5.result _ crc (omega arith) c.word_at-5.ensures
    (word-before c.args.line whole 40 16 c.word_at-6.result _ crc (omega arith) c.word_at-6.ensures
    (word-before c.args.line whole 48 8 c.word_at-7.result _ crc (omega arith) c.word_at-7.ensures
    (word-before c.args.line whole 56 0 c.word_at-8.result crc crc (omega arith) c.word_at-8.ensures refl))))))))
