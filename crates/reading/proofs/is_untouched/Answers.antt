-- `reading::is_untouched` meets its contract.
use mathlib.Core.Path.{sym, ◌∙◌}
use mathlib.Core.Bool.{true≢false}
use native.Mathlib.Omega.{arith}
use borrow.Author.Tests.{eqb-true, le-ltb}
use Rattle.linecode.proofs.Bytes.{array-length, array-bytes}
use Rattle.reading.proofs.Telling.{untouched}
use Rattle.reading.proofs.is_untouched.Goals as goal

pub returns-then-clear : goal.returns-then-clear
returns-then-clear c =
    λ z. untouched c.args.line c.args.sums (array-length 70 c.args.line _ c.well_formed.0) (array-bytes 70 c.args.line _ c.well_formed.0) c.requires
    (omega arith) (eqb-true _ _ z ∙ c.from.ensures ∙ c.from_le_bytes.ensures ∙ omega arith)

pub returns-else-clear : goal.returns-else-clear
returns-else-clear c = λ z. absurd (true≢false (sym z ∙ le-ltb _ _ c.if-clear.false))
