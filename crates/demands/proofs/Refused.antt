-- Demands 1 and 2: refusals write nothing, 0, 11 and 12 hand over what the steps leave, and lines are given up last.
use mathlib.Core.Path.{◌≡◌, refl, sym, ap, ◌∙◌}
use mathlib.Core.Logic.{◌⊎◌, inl, inr}
use mathlib.Core.Bool.{true, false, cond, true≢false}
use mathlib.Core.List.{List}
use Prim.Native.Nat.{ℕ}
use native.Mathlib.Omega.{arith}
use borrow.Author.Tests.{eqb-true, eqb-false}
use lib.Dec.{eqb}
use Rattle.scheme.specs.Layer.{read_line}
use Rattle.scheme.specs.Visit.{Group, State}
use Rattle.scheme.specs.Repair.{pass, agrees, answer, faulty_count}
use Rattle.scheme.proofs.Passes.{repair-end}
use Rattle.rectangle.specs.Store.{line_layer, lines_in}
use Rattle.rectangle.specs.Refusals.{tables_refusal, change_refusal, repair_refusal}
use Rattle.rectangle.specs.Tables.{TablesMade}
use Rattle.rectangle.specs.Change.{LineChanged}
use Rattle.rectangle.specs.Repair.{Buffers, repaired_by, hands_over, handed_over}
use Rattle.demands.specs.Demands.{Rectangle, count, tables_for, change_in, repair_of, groups_of, steps_on, RefusalsWriteNothing, HandsOverAsLeft, GivenUpLast}
use Rattle.rectangle.proofs.Tests.{passed, failed}
use Rattle.rectangle.proofs.Refusing.{SizesPass, sizes-then}
use Rattle.rectangle.proofs.Runs.{zero_or_not, answer-hands-over, refusal-hands-nothing, tables-run, tables-refused, change-runs, change-refused, repair-runs, repair-refused}

-- what the steps' answer tells: 11 of lines left faulty, and otherwise 0 or 12 of the parity lines
module _ (gs : List Group) (s : State) where
  pub answer-left : answer gs s ≡ 11 → faulty_count s ≡ 0 → ⊥
  unfolding answer
  answer-left e =
      eqb-false _ 0
      (failed (eqb (faulty_count s) 0) _ (λ z. omega (arith, (passed (agrees gs s) 12 0 (λ y. omega arith) z).1)) e)

  pub answer-none : (answer gs s ≡ 11 → ⊥) → faulty_count s ≡ 0
  unfolding answer
  answer-none d = eqb-true _ 0 (passed (eqb (faulty_count s) 0) 11 (cond (agrees gs s) 0 12) (λ z. d (sym z)) refl).0

  pub answer-agree : answer gs s ≡ 0 → agrees gs s ≡ true
  unfolding answer
  answer-agree e = (passed (agrees gs s) 12 0 (λ z. omega arith) (passed (eqb (faulty_count s) 0) 11 _ (λ z. omega arith) e).1).0

  pub answer-differ : answer gs s ≡ 12 → agrees gs s ≡ false
  unfolding answer
  answer-differ e = failed (agrees gs s) 0 (λ z. omega arith) (passed (eqb (faulty_count s) 0) 11 _ (λ z. omega arith) e).1

module _ (r : Rectangle) (b : Buffers) where
  unfoldable pub refusal : ℕ
  refusal =
      repair_refusal r.rows r.columns r.lines r.row_table r.column_table b.lines b.marks b.row_table b.column_table

  pub runs : refusal ≡ 0 → repair_of r b ≡ handed_over line_layer r.rows r.columns r.row_table r.column_table (steps_on r)
  unfolding repair_of refusal
  runs =
      repair-runs r.rows r.columns r.lines r.row_table r.column_table line_layer b.lines b.marks b.row_table
      b.column_table _ refl

  pub refused : (refusal ≡ 0 → ⊥)
      → repair_of r b
      ≡ record {
        answer = refusal;
        passes = 0;
        lines = b.lines;
        marks = b.marks;
        row_table = b.row_table;
        column_table = b.column_table;
      }
  unfolding repair_of refusal
  refused =
      repair-refused r.rows r.columns r.lines r.row_table r.column_table line_layer b.lines b.marks b.row_table
      b.column_table _ refl

  refused-hands-nothing : (refusal ≡ 0 → ⊥) → hands_over (repair_of r b).answer ≡ false
  unfolding refusal
  refused-hands-nothing d =
      rw (refused d)
      (refusal-hands-nothing r.rows r.columns r.lines r.row_table r.column_table b.lines b.marks b.row_table
      b.column_table d)

  -- an answer that hands over is the steps' own
  pub not-refused : hands_over (repair_of r b).answer ≡ true → refusal ≡ 0
  not-refused h = go (zero_or_not refusal)
    where
      go : (refusal ≡ 0) ⊎ (refusal ≡ 0 → ⊥) → refusal ≡ 0
      go (inl z) = z
      go (inr d) = absurd (true≢false (sym h ∙ refused-hands-nothing d))

  pub handed : hands_over (repair_of r b).answer ≡ true
      → repair_of r b ≡ handed_over line_layer r.rows r.columns r.row_table r.column_table (steps_on r)
  handed h = runs (not-refused h)

  -- and comes past the tests of the sizes
  pub sizes : hands_over (repair_of r b).answer ≡ true → SizesPass r.rows r.columns r.lines r.row_table r.column_table
  unfolding refusal repair_refusal
  sizes h = (sizes-then r.rows r.columns r.lines r.row_table r.column_table _ (not-refused h)).0

  writes_nothing : hands_over (repair_of r b).answer ≡ false
      → ((repair_of r b).lines ≡ b.lines) × ((repair_of r b).marks ≡ b.marks)
      × ((repair_of r b).row_table ≡ b.row_table) × ((repair_of r b).column_table ≡ b.column_table) × ((repair_of r b).passes ≡ 0)
  unfolding handed_over
  writes_nothing h = go (zero_or_not refusal)
    where
      go : (refusal ≡ 0) ⊎ (refusal ≡ 0 → ⊥)
          → ((repair_of r b).lines ≡ b.lines) × ((repair_of r b).marks ≡ b.marks)
          × ((repair_of r b).row_table ≡ b.row_table) × ((repair_of r b).column_table ≡ b.column_table) × ((repair_of r b).passes ≡ 0)
      go (inl z) = absurd (true≢false (sym (rw (runs z) (answer-hands-over (groups_of r) (steps_on r).cells)) ∙ h))
      go (inr d) = rw (refused d) (refl, refl, refl, refl, refl)

pub refusals_write_nothing : RefusalsWriteNothing
unfolding tables_for change_in
refusals_write_nothing = record { tables = tables; change = change; repair = writes_nothing }
  where
    tables : (r : Rectangle) (old_rows old_columns : List ℕ) → ((tables_for r old_rows old_columns).answer ≡ 0 → ⊥)
        → ((tables_for r old_rows old_columns).row_table ≡ old_rows) × ((tables_for r old_rows old_columns).column_table ≡ old_columns)
    tables r old_rows old_columns d = go (zero_or_not (tables_refusal r.rows r.columns r.lines old_rows old_columns))
      where
        go : (tables_refusal r.rows r.columns r.lines old_rows old_columns ≡ 0)
            ⊎ (tables_refusal r.rows r.columns r.lines old_rows old_columns ≡ 0 → ⊥)
            → ((tables_for r old_rows old_columns).row_table ≡ old_rows) × ((tables_for r old_rows old_columns).column_table ≡ old_columns)
        go (inl z) =
            absurd
            (d
            (ap (λ (t : TablesMade). t.answer)
            (tables-run r.rows r.columns r.lines old_rows old_columns _ refl z)))
        go (inr e) = rw (tables-refused r.rows r.columns r.lines old_rows old_columns _ refl e) (refl, refl)

    change : (r : Rectangle) (n : ℕ) (payload : List ℕ) → ((change_in r n payload).answer ≡ 0 → ⊥)
        → ((change_in r n payload).lines ≡ r.lines) × ((change_in r n payload).row_table ≡ r.row_table)
        × ((change_in r n payload).column_table ≡ r.column_table)
    change r n payload d =
        go (zero_or_not (change_refusal r.rows r.columns r.lines r.row_table r.column_table n payload))
      where
        go : (change_refusal r.rows r.columns r.lines r.row_table r.column_table n payload ≡ 0)
            ⊎ (change_refusal r.rows r.columns r.lines r.row_table r.column_table n payload ≡ 0 → ⊥)
            → ((change_in r n payload).lines ≡ r.lines) × ((change_in r n payload).row_table ≡ r.row_table)
            × ((change_in r n payload).column_table ≡ r.column_table)
        go (inl z) =
            absurd
            (d
            (ap (λ (c : LineChanged). c.answer)
            (change-runs r.rows r.columns r.lines r.row_table r.column_table n payload _ refl z)))
        go (inr e) =
            rw (change-refused r.rows r.columns r.lines r.row_table r.column_table n payload _ refl e)
            (refl, refl, refl)

pub hands_over_as_left : HandsOverAsLeft
unfolding handed_over
hands_over_as_left r b h = rw (handed r b h) (refl, refl)

pub given_up_last : GivenUpLast
unfolding handed_over repaired_by hands_over
given_up_last r b e = go (repair-end (read_line line_layer) (groups_of r) (lines_in (count r) r.lines))
  where
    end : State
    end = (steps_on r).cells

    eleven : answer (groups_of r) end ≡ 11
    eleven = rw (handed r b (ap hands_over e)) at e

    go : (faulty_count end ≡ 0) ⊎ (pass (read_line line_layer) (groups_of r) end ≡ end)
        → pass (read_line line_layer) (groups_of r) end ≡ end
    go (inl z) = absurd (answer-left (groups_of r) end eleven z)
    go (inr p) = p
