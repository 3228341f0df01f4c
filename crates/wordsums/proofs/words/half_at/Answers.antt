-- `wordsums::words::half_at` meets its contract.
use mathlib.Core.Path.{◌≡◌, ap, ◌∙◌}
use Prim.Native.Nat.{ℕ, ◌+◌, ◌-◌}
use native.Mathlib.Omega.{arith}
use lib.ListN.{take, drop}
use Rattle.std.specs.Int.{w32, from_le_bytes}
use Rattle.std.proofs.lemmas.Option.{MatchOption-at_some}
use Rattle.linecode.proofs.Bytes.{array-length, array-bytes}
use Rattle.linecode.proofs.WordBytes.{half-read}
use Rattle.wordsums.proofs.words.half_at.Goals as goal

pub returns : goal.returns
returns c =
    let whole = array-length 70 c.args.line _ c.well_formed.0 in
    let size : c.args.i + 4 - c.args.i ≡ 4 = omega arith in
    c.from_le_bytes.ensures
    ∙ ap (from_le_bytes w32)
    ((MatchOption-at_some _ _ _ c.unwrap.ensures c.as_array.ensures.cases).same
    ∙ ap (λ (n : ℕ). take n (drop c.args.i c.args.line)) size)
    ∙ half-read c.args.i c.args.line (array-bytes 70 c.args.line _ c.well_formed.0) (omega arith)
