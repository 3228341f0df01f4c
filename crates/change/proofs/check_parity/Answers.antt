-- `change::check_parity` meets its contract.
use mathlib.Core.Path.{◌≡◌, sym, ◌∙◌}
use mathlib.Core.Bool.{Bool}
use mathlib.Core.List.{List}
use Prim.Native.Nat.{ℕ}
use Rattle.linecode.specs.Places.{places}
use Rattle.linecode.specs.Code.{is_correct}
use Rattle.rectangle.specs.Store.{bytes_at, row_group, column_group}
use Rattle.rectangle.specs.Refusals.{parity_correct}
use Rattle.rectangle.proofs.LineLayer.{tested-as}
use Rattle.change.proofs.Changing.{places-at}
use Rattle.change.proofs.check_parity.Goals as goal

-- what each test finds, in a rectangle of any sides
of-row : (columns : ℕ) (table : List ℕ) (r : ℕ) (line : List ℕ) → line ≡ bytes_at table r → (ok : Bool) → ok ≡ is_correct (places line)
    → parity_correct (row_group columns table r) ≡ ok
of-row columns table r line e ok f = sym (f ∙ tested-as (row_group columns table r) line (places-at table r line e))

of-column : (rows columns : ℕ) (table : List ℕ) (k : ℕ) (line : List ℕ) → line ≡ bytes_at table k → (ok : Bool)
    → ok ≡ is_correct (places line) → parity_correct (column_group rows columns table k) ≡ ok
of-column rows columns table k line e ok f =
    sym (f ∙ tested-as (column_group rows columns table k) line (places-at table k line e))

pub returns-then-not-is_correct-clause-answer : goal.returns-then-not-is_correct-clause-answer
returns-then-not-is_correct-clause-answer c = λ rows columns.
    rw (of-row columns _ _ _ c.row_parity-of_row.ensures _ c.is_correct.ensures ∙ c.if-not-is_correct.true)

pub returns-then-not-is_correct-2-clause-answer : goal.returns-then-not-is_correct-2-clause-answer
returns-then-not-is_correct-2-clause-answer c = λ rows columns.
    rw (
      of-row columns _ _ _ c.row_parity-of_row.ensures _ c.is_correct.ensures ∙ c.if-not-is_correct.false,
      of-column rows columns _ _ _ c.column_parity-of_column.ensures _ c.is_correct-2.ensures ∙ c.if-not-is_correct-2.true,
    )

pub returns-clause-answer : goal.returns-clause-answer
returns-clause-answer c = λ rows columns.
    rw (
      of-row columns _ _ _ c.row_parity-of_row.ensures _ c.is_correct.ensures ∙ c.if-not-is_correct.false,
      of-column rows columns _ _ _ c.column_parity-of_column.ensures _ c.is_correct-2.ensures ∙ c.if-not-is_correct-2.false,
    )
