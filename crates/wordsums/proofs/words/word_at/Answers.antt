-- `wordsums::words::word_at` meets its contract.
use mathlib.Core.Path.{◌≡◌, ap, ◌∙◌}
use Prim.Native.Nat.{ℕ, ◌+◌, ◌-◌}
use native.Mathlib.Omega.{arith}
use lib.ListN.{take, drop}
use Rattle.std.specs.Int.{w64, from_le_bytes}
use Rattle.std.proofs.lemmas.Option.{MatchOption-at_some}
use Rattle.linecode.proofs.Bytes.{array-length, array-bytes}
use Rattle.linecode.proofs.WordBytes.{word-read}
use Rattle.wordsums.proofs.words.word_at.Goals as goal

pub returns : goal.returns
returns c =
    let whole = array-length 70 c.args.line _ c.well_formed.0 in
    let size : c.args.i + 8 - c.args.i ≡ 8 = omega arith in
    c.from_le_bytes.ensures
    ∙ ap (from_le_bytes w64)
    ((MatchOption-at_some _ _ _ c.unwrap.ensures c.as_array.ensures.cases).same
    ∙ ap (λ (n : ℕ). take n (drop c.args.i c.args.line)) size)
    ∙ word-read c.args.i c.args.line (array-bytes 70 c.args.line _ c.well_formed.0) (omega arith)
