-- Request Q-2: a change's 13 and 14 name its own bad row or column, a number comes with no other answer, 9 is not given, and repair gives
-- neither 13 nor 14.
use mathlib.Core.Path.{◌≡◌, refl, sym, ap, ◌∙◌}
use mathlib.Core.Logic.{◌⊎◌, ◌↔◌, inl, inr}
use mathlib.Core.Bool.{Bool, true, false, true≢false}
use mathlib.Core.List.{List}
use Prim.Native.Nat.{ℕ, ◌/◌, ◌%◌, ◌<◌}
use native.Mathlib.Omega.{arith}
use borrow.Author.Tests.{eq-eqb, ne_eqb, lt-ltb}
use lib.Dec.{eqb, ltb}
use lib.ListN.{length}
use Rattle.linecode.specs.Places.{data_bytes}
use Rattle.rectangle.specs.Store.{row_group, column_group}
use Rattle.rectangle.specs.Refusals.{unless, parity_correct, parity_refusal, accepted_at, tables_answers, change_refusal, change_answers, repair_answers, number_with}
use Rattle.demands.specs.Demands.{Rectangle, count, tables_for, change_in, repair_of}
use Rattle.demands.specs.Reload.{RowCorrect, ColumnCorrect, Fits, BadRefused, ChangeNames, ChangeNamesOwn, AnswersGiven, NineNotGiven, NeitherByRepair}
use Rattle.rectangle.proofs.LineLayer.{parity-tests}
use Rattle.rectangle.proofs.Tests.{passed, row-fails, column-fails, both-pass, not-among}
use Rattle.rectangle.proofs.Refusing.{sizes-past}
use Rattle.rectangle.proofs.Runs.{zero_or_not, change-runs, change-refused, tables-answers, change-answers, repair-answers}

-- ---- what a test that fails tells, and what makes it fail
refutes : {b : Bool} {Good : Type 0} → (b ≡ true) ↔ Good → b ≡ false → Good → ⊥
refutes tells e g = true≢false (sym (tells.1 g) ∙ e)

fails : (b : Bool) {Good : Type 0} → (b ≡ true) ↔ Good → (Good → ⊥) → b ≡ false
fails true tells d = absurd (d (tells.0 refl))
fails false tells d = refl

-- with another answer the number is 0
no_number : (a i j : ℕ) → (a ≡ 13 → ⊥) → (a ≡ 14 → ⊥) → number_with a i j ≡ 0
unfolding number_with
no_number a i j d e = rw (ne_eqb a 13 d, ne_eqb a 14 e)

module _ (r : Rectangle) where
  row-tells : (k : ℕ) → (parity_correct (row_group r.columns r.row_table k) ≡ true) ↔ RowCorrect r k
  row-tells k = parity-tests (row_group r.columns r.row_table k)

  column-tells : (k : ℕ) → (parity_correct (column_group r.rows r.columns r.column_table k) ≡ true) ↔ ColumnCorrect r k
  column-tells k = parity-tests (column_group r.rows r.columns r.column_table k)

  -- ---- a change
  module _ (n : ℕ) (payload : List ℕ) where
    unfoldable turned_back : ℕ
    turned_back = change_refusal r.rows r.columns r.lines r.row_table r.column_table n payload

    abbrev row_passes : Bool
    row_passes = parity_correct (row_group r.columns r.row_table (n / r.columns))

    abbrev column_passes : Bool
    column_passes = parity_correct (column_group r.rows r.columns r.column_table (n % r.columns))

    abbrev last : ℕ
    last = unless (accepted_at r.lines n) 10 0

    last-is : {a : ℕ} → 10 < a → last ≡ a → ⊥
    last-is more e = omega (arith, (passed (accepted_at r.lines n) 10 0 (λ z. omega arith) e).1)

    own-decide : (a : ℕ) → ((k : ℕ) → k < 9 → 0 < k → k ≡ a → ⊥) → turned_back ≡ a → parity_refusal row_passes column_passes last ≡ a
    unfolding turned_back change_refusal
    own-decide a other e =
        let six = sizes-past r.rows r.columns r.lines r.row_table r.column_table a _ (λ k l h. other k (omega arith) (omega arith)) e in
        let seven = passed (eqb (length payload) data_bytes) 7 _ (other 7 (omega arith) (omega arith)) six.1 in
        (passed (ltb n (count r)) 8 _ (other 8 (omega arith) (omega arith)) seven.1).1

    changed-so : ((change_in r n payload).answer ≡ turned_back) × ((change_in r n payload).number ≡ number_with turned_back (n / r.columns) (n % r.columns))
    unfolding turned_back change_in number_with
    changed-so = go (zero_or_not turned_back)
      where
        go : (turned_back ≡ 0) ⊎ (turned_back ≡ 0 → ⊥)
            → ((change_in r n payload).answer ≡ turned_back) × ((change_in r n payload).number ≡ number_with turned_back (n / r.columns) (n % r.columns))
        go (inl z) = rw (z, change-runs r.rows r.columns r.lines r.row_table r.column_table n payload 0 z refl) (refl, refl)
        go (inr d) = rw (change-refused r.rows r.columns r.lines r.row_table r.column_table n payload _ refl d) (refl, refl)

    change-names : ChangeNames r n (change_in r n payload)
    unfolding number_with
    change-names =
        record {
          row = λ e.
              let is = number_is e in
              (is, rw is (refutes (row-tells _) (row-fails row_passes column_passes last (last-is (omega arith)) (own-decide 13 (λ k l h z. omega arith) (sym changed-so.0 ∙ e)))));
          column = λ e. let is = number_is e in (is, rw is (refutes (column-tells _) (column-bad e).1));
          row_first = λ e. (row-tells _).0 (column-bad e).0;
          otherwise = λ d e. changed-so.1 ∙ no_number _ _ _ (λ z. d (changed-so.0 ∙ z)) (λ z. e (changed-so.0 ∙ z));
          row_correct = λ e. (row-tells _).0 (none-bad e).0;
          column_correct = λ e. (column-tells _).0 (none-bad e).1;
        }
      where
        number_is : {a : ℕ} → (change_in r n payload).answer ≡ a → (change_in r n payload).number ≡ number_with a (n / r.columns) (n % r.columns)
        number_is e = changed-so.1 ∙ ap (λ (b : ℕ). number_with b (n / r.columns) (n % r.columns)) (sym changed-so.0 ∙ e)

        column-bad : (change_in r n payload).answer ≡ 14 → (row_passes ≡ true) × (column_passes ≡ false)
        column-bad e = column-fails row_passes column_passes last (last-is (omega arith)) (own-decide 14 (λ k l h z. omega arith) (sym changed-so.0 ∙ e))

        none-bad : (change_in r n payload).answer ≡ 0 → (row_passes ≡ true) × (column_passes ≡ true)
        none-bad e = both-pass row_passes column_passes last (own-decide 0 (λ k l h z. omega arith) (sym changed-so.0 ∙ e))

-- ---- where nothing before them is refused, a bad parity line is answered with them
module _ (r : Rectangle) (fits : Fits r) where
  module _ (n : ℕ) (payload : List ℕ) (payload_bytes : length payload ≡ data_bytes) (within : n < count r) where
    change-decided : turned_back r n payload ≡ parity_refusal (row_passes r n payload) (column_passes r n payload) (last r n payload)
    unfolding turned_back change_refusal
    change-decided =
        rw (fits.sides, fits.line_bytes, fits.table_bytes, eq-eqb (length payload) data_bytes payload_bytes, lt-ltb n (count r) within)

    own_row : (RowCorrect r (n / r.columns) → ⊥) → (change_in r n payload).answer ≡ 13
    own_row d = (changed-so r n payload).0 ∙ change-decided ∙ rw (fails _ (row-tells r _) d)

    own-column : RowCorrect r (n / r.columns) → (ColumnCorrect r (n % r.columns) → ⊥) → (change_in r n payload).answer ≡ 14
    own-column good d = (changed-so r n payload).0 ∙ change-decided ∙ rw ((row-tells r _).1 good, fails _ (column-tells r _) d)

pub bad_refused : BadRefused
bad_refused = record { change_row = own_row; change_column = own-column }

pub change_names_own : ChangeNamesOwn
change_names_own = change-names

-- ---- the answers given
pub answers_given : AnswersGiven
unfolding tables_for change_in repair_of
answers_given =
    record {
      tables = λ r old_rows old_columns. tables-answers r.rows r.columns r.lines old_rows old_columns;
      change = λ r n payload. change-answers r.rows r.columns r.lines r.row_table r.column_table n payload;
      repair = λ r b.
          repair-answers r.rows r.columns r.lines r.row_table r.column_table b.lines b.marks b.row_table b.column_table;
    }

pub nine_not_given : NineNotGiven
nine_not_given =
    record {
      tables = λ r old_rows old_columns. not-among 9 tables_answers refl (answers_given.tables r old_rows old_columns);
      change = λ r n payload. not-among 9 change_answers refl (answers_given.change r n payload);
      repair = λ r b. not-among 9 repair_answers refl (answers_given.repair r b);
    }

pub neither_by_repair : NeitherByRepair
neither_by_repair =
    record {
      thirteen = λ r b. not-among 13 repair_answers refl (answers_given.repair r b);
      fourteen = λ r b. not-among 14 repair_answers refl (answers_given.repair r b);
    }
