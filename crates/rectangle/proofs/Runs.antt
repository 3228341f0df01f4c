-- The three entry points without their choice: what a call that is not refused gives, what a refused one leaves, and which answers there
-- are.
use mathlib.Core.Path.{◌≡◌, refl, ◌∙◌}
use mathlib.Core.Logic.{◌⊎◌, inl, inr}
use mathlib.Core.Bool.{Bool, true, false, not, cond, ◌&&◌}
use mathlib.Core.List.{List, [], ◌∷◌}
use Prim.Native.Nat.{ℕ, zero, suc, ◌*◌, ◌/◌, ◌%◌}
use native.Mathlib.Omega.{arith}
use borrow.Author.Tests.{ne_eqb, not-true}
use lib.Dec.{eqb, ltb}
use lib.ListN.{length}
use Rattle.linecode.specs.Places.{data_bytes}
use Rattle.linecode.specs.Code.{up_from}
use Rattle.scheme.specs.Layer.{Layer}
use Rattle.scheme.specs.Visit.{Group, State}
use Rattle.scheme.specs.Demand3.{◌∈◌}
use Rattle.scheme.specs.Repair.{faulty_count, agrees, answer}
use Rattle.scheme.specs.Marks.{LineMarks}
use Rattle.scheme.proofs.Marking.{repair-marks}
use Rattle.rectangle.specs.Store.{line_layer, lines_in, put_line, row_group, column_group}
use Rattle.rectangle.specs.Refusals.{every, sides_fit, holds, tables_fit, parity_correct, accepted_at, tables_refusal, tables_answers, change_refusal, change_answers, repair_refusal, repair_refusals, repair_answers, number_with}
use Rattle.rectangle.specs.Tables.{row_table_of, column_table_of, make_tables}
use Rattle.rectangle.specs.Change.{new_line, difference, add_to, change_line}
use Rattle.rectangle.specs.Repair.{used_groups, repaired_by, repaired, hands_over, handed_over, repair_by, repair_store}
use Rattle.rectangle.proofs.Tests.{every-at, refusal-in}
use Rattle.rectangle.proofs.Members.{in_left, in_right}
use Rattle.rectangle.proofs.LineLayer.{kept}
use Rattle.rectangle.proofs.Buffer.{length-lines_in}

-- a refusal is 0 or not
pub zero_or_not : (n : ℕ) → (n ≡ 0) ⊎ (n ≡ 0 → ⊥)
zero_or_not zero = inl refl
zero_or_not (suc n) = inr (λ e. omega arith)

-- the steps' own answers
answer-own : (gs : List Group) (s : State) → answer gs s ∈ (0 ∷ 11 ∷ 12 ∷ [])
unfolding answer
answer-own gs s = go (eqb (faulty_count s) 0) (agrees gs s)
  where
    go : (none agree : Bool) → ◌∈◌ {A = ℕ} (cond none (cond agree 0 12) 11) (0 ∷ 11 ∷ 12 ∷ [])
    go true true = inl refl
    go true false = inr (inr (inl refl))
    go false agree = inr (inl refl)

-- with these, repair hands over
pub answer-hands-over : (gs : List Group) (s : State) → hands_over (answer gs s) ≡ true
unfolding hands_over
answer-hands-over gs s = every-at hands_over (0 ∷ 11 ∷ 12 ∷ []) refl (answer gs s) (answer-own gs s)

-- and so a mark for each line, each one of 0 to 4
pub marks-handed : (rows columns : ℕ) (lines row_table column_table : List ℕ)
    → LineMarks (rows * columns)
    (handed_over line_layer rows columns row_table column_table (repaired rows columns lines row_table column_table)).marks
unfolding handed_over repaired_by
marks-handed rows columns lines row_table column_table =
    let found = lines_in (rows * columns) lines in
    let given = repair-marks line_layer kept (used_groups line_layer rows columns row_table column_table) found in
    record { each = given.each ∙ length-lines_in (rows * columns) lines; high = given.high }

module _ (rows columns : ℕ) (lines row_table column_table : List ℕ) where
  -- ---- each entry point's refusals, 0 among them
  tables-refusals : tables_refusal rows columns lines row_table column_table ∈ tables_answers
  unfolding tables_refusal
  tables-refusals =
      refusal-in
      ((sides_fit rows columns, 2)
      ∷ (holds (rows * columns) lines, 5)
      ∷ (tables_fit rows columns row_table column_table, 6)
      ∷ (every (accepted_at lines) (up_from 0 (rows * columns)), 10)
      ∷ [])

  change-refusals : (n : ℕ) (payload : List ℕ) → change_refusal rows columns lines row_table column_table n payload ∈ change_answers
  unfolding change_refusal
  change-refusals n payload =
      refusal-in
      ((sides_fit rows columns, 2)
      ∷ (holds (rows * columns) lines, 5)
      ∷ (tables_fit rows columns row_table column_table, 6)
      ∷ (eqb (length payload) data_bytes, 7)
      ∷ (ltb n (rows * columns), 8)
      ∷ (parity_correct (row_group columns row_table (n / columns)), 13)
      ∷ (parity_correct (column_group rows columns column_table (n % columns)), 14)
      ∷ (accepted_at lines n, 10)
      ∷ [])

  pub repair-refusals : (out marks row_out column_out : List ℕ)
      → repair_refusal rows columns lines row_table column_table out marks row_out column_out ∈ repair_refusals
  unfolding repair_refusal
  repair-refusals out marks row_out column_out =
      within (refusal-in
      ((sides_fit rows columns, 2)
      ∷ (holds (rows * columns) lines, 5)
      ∷ (tables_fit rows columns row_table column_table, 6)
      ∷ (tables_fit rows columns row_out column_out, 6)
      ∷ (holds (rows * columns) out && eqb (length marks) (rows * columns), 7)
      ∷ []))
    where
      -- 6 is given in two places
      within : {n : ℕ} → n ∈ (0 ∷ 2 ∷ 5 ∷ 6 ∷ 6 ∷ 7 ∷ []) → n ∈ repair_refusals
      within (inl e) = inl e
      within (inr (inl e)) = inr (inl e)
      within (inr (inr (inl e))) = inr (inr (inl e))
      within (inr (inr (inr (inl e)))) = inr (inr (inr (inl e)))
      within (inr (inr (inr (inr i)))) = inr (inr (inr i))

  -- no refusal of repair hands over
  pub refusal-hands-nothing : (out marks row_out column_out : List ℕ)
      → (repair_refusal rows columns lines row_table column_table out marks row_out column_out ≡ 0 → ⊥)
      → hands_over (repair_refusal rows columns lines row_table column_table out marks row_out column_out) ≡ false
  unfolding hands_over
  refusal-hands-nothing out marks row_out column_out d =
      go (repair_refusal rows columns lines row_table column_table out marks row_out column_out) d (repair-refusals out marks row_out column_out)
    where
      go : (n : ℕ) → (n ≡ 0 → ⊥) → n ∈ repair_refusals → hands_over n ≡ false
      go n d (inl z) = absurd (d z)
      go n d (inr i) = not-true _ (every-at (λ n. not (hands_over n)) (2 ∷ 5 ∷ 6 ∷ 7 ∷ []) refl n i)

  module _ (refusal : ℕ) (is : tables_refusal rows columns lines row_table column_table ≡ refusal) where
    pub tables-run : refusal ≡ 0
        → make_tables rows columns lines row_table column_table
        ≡ record { answer = 0; row_table = row_table_of rows columns lines; column_table = column_table_of rows columns lines }
    unfolding make_tables
    tables-run e = rw (is ∙ e)

    pub tables-refused : (refusal ≡ 0 → ⊥)
        → make_tables rows columns lines row_table column_table
        ≡ record { answer = refusal; row_table = row_table; column_table = column_table }
    unfolding make_tables
    tables-refused d = rw (is, ne_eqb refusal 0 d)

  module _ (n : ℕ) (payload : List ℕ) (refusal : ℕ)
      (is : change_refusal rows columns lines row_table column_table n payload ≡ refusal) where
    pub change-runs : refusal ≡ 0
        → change_line rows columns lines row_table column_table n payload
        ≡ record {
          answer = 0;
          number = 0;
          lines = put_line lines n (new_line n payload);
          row_table = add_to row_table (n / columns) (difference lines n payload);
          column_table = add_to column_table (n % columns) (difference lines n payload);
        }
    unfolding change_line
    change-runs e = rw (is ∙ e)

    pub change-refused : (refusal ≡ 0 → ⊥)
        → change_line rows columns lines row_table column_table n payload
        ≡ record {
          answer = refusal;
          number = number_with refusal (n / columns) (n % columns);
          lines = lines;
          row_table = row_table;
          column_table = column_table;
        }
    unfolding change_line
    change-refused d = rw (is, ne_eqb refusal 0 d)

  module _ (layer : Layer) (out marks row_out column_out : List ℕ) (refusal : ℕ)
      (is : repair_refusal rows columns lines row_table column_table out marks row_out column_out ≡ refusal) where
    pub repair-runs : refusal ≡ 0
        → repair_by layer rows columns lines row_table column_table out marks row_out column_out
        ≡ handed_over layer rows columns row_table column_table (repaired_by layer rows columns lines row_table column_table)
    unfolding repair_by
    repair-runs e = rw (is ∙ e)

    pub repair-refused : (refusal ≡ 0 → ⊥)
        → repair_by layer rows columns lines row_table column_table out marks row_out column_out
        ≡ record { answer = refusal; passes = 0; lines = out; marks = marks; row_table = row_out; column_table = column_out }
    unfolding repair_by
    repair-refused d = rw (is, ne_eqb refusal 0 d)

  -- ---- what each entry point answers
  pub tables-answers : (make_tables rows columns lines row_table column_table).answer ∈ tables_answers
  tables-answers = go (zero_or_not (tables_refusal rows columns lines row_table column_table))
    where
      go : (tables_refusal rows columns lines row_table column_table ≡ 0) ⊎ (tables_refusal rows columns lines row_table column_table ≡ 0 → ⊥)
          → (make_tables rows columns lines row_table column_table).answer ∈ tables_answers
      go (inl z) = rw (tables-run 0 z refl) (inl refl)
      go (inr d) = rw (tables-refused _ refl d) tables-refusals

  pub change-answers : (n : ℕ) (payload : List ℕ) → (change_line rows columns lines row_table column_table n payload).answer ∈ change_answers
  change-answers n payload = go (zero_or_not (change_refusal rows columns lines row_table column_table n payload))
    where
      go : (change_refusal rows columns lines row_table column_table n payload ≡ 0)
          ⊎ (change_refusal rows columns lines row_table column_table n payload ≡ 0 → ⊥)
          → (change_line rows columns lines row_table column_table n payload).answer ∈ change_answers
      go (inl z) = rw (change-runs n payload 0 z refl) (inl refl)
      go (inr d) = rw (change-refused n payload _ refl d) (change-refusals n payload)

  pub repair-answers : (out marks row_out column_out : List ℕ)
      → (repair_store rows columns lines row_table column_table out marks row_out column_out).answer ∈ repair_answers
  unfolding handed_over
  repair-answers out marks row_out column_out =
      go (zero_or_not (repair_refusal rows columns lines row_table column_table out marks row_out column_out))
    where
      own : (n : ℕ) → n ∈ (0 ∷ 11 ∷ 12 ∷ []) → n ∈ repair_answers
      own n (inl z) = inl z
      own n (inr i) = in_right repair_refusals (11 ∷ 12 ∷ []) n i

      go : (repair_refusal rows columns lines row_table column_table out marks row_out column_out ≡ 0)
          ⊎ (repair_refusal rows columns lines row_table column_table out marks row_out column_out ≡ 0 → ⊥)
          → (repair_store rows columns lines row_table column_table out marks row_out column_out).answer ∈ repair_answers
      go (inl z) = rw (repair-runs line_layer out marks row_out column_out 0 z refl) (own _ (answer-own _ _))
      go (inr d) =
          rw (repair-refused line_layer out marks row_out column_out _ refl d)
          (in_left repair_refusals (11 ∷ 12 ∷ []) _ (repair-refusals out marks row_out column_out))
