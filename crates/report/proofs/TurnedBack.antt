-- Checks that are turned back write nothing and return zeros; those that are not count every line by its mark; 9 is given by none.
use mathlib.Core.Path.{◌≡◌, refl, sym, ap, ◌∙◌, subst}
use mathlib.Core.Logic.{◌⊎◌, inl, inr}
use mathlib.Core.Bool.{true, false, not, true≢false}
use mathlib.Core.List.{List, [], ◌∷◌, map}
use Prim.Native.Nat.{ℕ, ◌*◌, ◌≤◌, ◌<◌}
use native.Mathlib.Omega.{arith}
use borrow.Author.Tests.{not-true}
use lib.Dec.{eqb}
use lib.ListN.{length, take, drop, get_or, replicate}
use Rattle.scheme.specs.Demand3.{◌∈◌}
use Rattle.rectangle.specs.Store.{line_layer}
use Rattle.rectangle.specs.Refusals.{repair_refusal, repair_answers}
use Rattle.rectangle.specs.Repair.{Buffers, StoreRepaired, used_groups, repaired, hands_over, handed_over, repair_store}
use Rattle.rectangle.proofs.Runs.{zero_or_not, answer-hands-over, marks-handed, refusal-hands-nothing, repair-runs, repair-refused, repair-answers}
use Rattle.rectangle.proofs.Tests.{every-at, not-among, either_way}
use Rattle.storefile.specs.Opening.{rows_in, columns_in, open_refusal, opened}
use Rattle.results.specs.Marks.{count_of, counts_of, no_counts, total}
use Rattle.report.specs.Report.{ReportWritten, report_bytes, write_report}
use Rattle.report.specs.declared.report.Checked.{Checked}
use Rattle.report.specs.Check.{left_by, StoreChecked, refused_with, repair_opened, counted, check_store}
use Rattle.report.specs.Numbers.{check_numbers, check_file}
use Rattle.report.specs.Promises.{CheckCountsLines, CheckRefusalsWriteNothing, NumbersCountMarks, NineNotGiven}
use Rattle.storefile.proofs.Answers as Opening
use Rattle.storefile.proofs.Answers.{open_answers, opening-answers}
use Rattle.storefile.proofs.Openings.{Outcome, accepted, refused, outcome}
use Rattle.report.proofs.Checking.{check-refused, check-turned-back, check-counted}
use Rattle.results.proofs.Adding.{counts-add-up}

-- ---- which answers hand over
opening-refuses : (n : ℕ) → n ∈ open_answers → (n ≡ 0 → ⊥) → hands_over n ≡ false
unfolding hands_over
opening-refuses n (inl z) d = absurd (d z)
opening-refuses n (inr i) d = not-true _ (every-at (λ n. not (hands_over n)) (1 ∷ 2 ∷ 3 ∷ 4 ∷ []) refl n i)

-- ---- repair hands over the marks of as many lines, or is refused and writes nothing
data Repairing (k : ℕ) (b : Buffers) (r : StoreRepaired) : Type 0 where
  over : hands_over r.answer ≡ true → length r.marks ≡ k → ((n : ℕ) → n < length r.marks → get_or r.marks n 0 ≤ 4)
      → Repairing k b r
  none : hands_over r.answer ≡ false → left_by r ≡ b → Repairing k b r

module _ (rows columns : ℕ) (lines row_table column_table : List ℕ) (b : Buffers) where
  abbrev refusal : ℕ
  refusal = repair_refusal rows columns lines row_table column_table b.lines b.marks b.row_table b.column_table

  abbrev result : StoreRepaired
  result = repair_store rows columns lines row_table column_table b.lines b.marks b.row_table b.column_table

  handed : Repairing (rows * columns) b
      (handed_over line_layer rows columns row_table column_table (repaired rows columns lines row_table column_table))
  unfolding handed_over
  handed =
      let r = repaired rows columns lines row_table column_table in
      let given = marks-handed rows columns lines row_table column_table in
      over (answer-hands-over (used_groups line_layer rows columns row_table column_table) r.cells) given.each given.high

  repairing : Repairing (rows * columns) b result
  repairing = go (zero_or_not refusal)
    where
      go : (refusal ≡ 0) ⊎ (refusal ≡ 0 → ⊥) → Repairing (rows * columns) b result
      go (inl z) =
          subst (Repairing (rows * columns) b) (sym (repair-runs rows columns lines row_table column_table line_layer _ _ _ _ 0 z refl)) handed
      go (inr d) =
          subst (Repairing (rows * columns) b)
          (sym (repair-refused rows columns lines row_table column_table line_layer _ _ _ _ _ refl d))
          (none (refusal-hands-nothing rows columns lines row_table column_table _ _ _ _ d) refl)

-- ---- a check is turned back, or counts every line
data Checks (b : Buffers) (s : StoreChecked) : Type 0 where
  over : hands_over s.checked.answer ≡ true → total s.checked.counts ≡ s.checked.rows * s.checked.columns
      → s.checked.counts ≡ counts_of s.buffers.marks → Checks b s
  none : hands_over s.checked.answer ≡ false → s.checked ≡ refused_with s.checked.answer → s.buffers ≡ b → Checks b s

module _ (limit : ℕ) (file : List ℕ) (b : Buffers) where
  turned : (a : ℕ) (after : Buffers) → hands_over a ≡ false → after ≡ b → Checks b (record { checked = refused_with a; buffers = after })
  unfolding refused_with
  turned a after h e = none h refl e

  module _ (rows columns : ℕ) (is : record { answer = 0; rows = rows; columns = columns } ≡ opened limit file) where
    abbrev r : StoreRepaired
    r = repair_opened file rows columns b

    repairs : Repairing (rows * columns) b r
    unfolding repair_opened
    repairs = repairing rows columns _ _ _ b

    checks-opened : Repairing (rows * columns) b r → Checks b (check_store limit file b)
    checks-opened (over h e f) =
        subst (Checks b) (check-counted limit file b _ is refl r refl h (counts_of r.marks) refl) (over h ((counts-add-up r.marks).1 f ∙ e) refl)
    checks-opened (none h e) =
        subst (Checks b) (check-turned-back limit file b _ is refl r refl h (refused_with r.answer) refl) (turned r.answer (left_by r) h e)

  checks : Checks b (check_store limit file b)
  checks = go (outcome limit file (opened limit file) refl)
    where
      go : Outcome limit file (opened limit file) → Checks b (check_store limit file b)
      go (accepted e h) = checks-opened (rows_in file) (columns_in file) (sym e) (repairs (rows_in file) (columns_in file) (sym e))
      go (refused d e) =
          subst (Checks b)
          (check-refused limit file b _ (sym e) d (refused_with (open_refusal limit file)) refl)
          (turned (open_refusal limit file) b (opening-refuses _ (opening-answers limit file) d) refl)

pub check-counts-lines : CheckCountsLines
check-counts-lines limit file b h = go (checks limit file b)
  where
    go : Checks b (check_store limit file b)
        → total (check_store limit file b).checked.counts
        ≡ (check_store limit file b).checked.rows * (check_store limit file b).checked.columns
    go (over i e n) = e
    go (none i e f) = absurd (true≢false (sym h ∙ i))

pub check-refusals-write-nothing : CheckRefusalsWriteNothing
check-refusals-write-nothing limit file b h = go (checks limit file b)
  where
    go : Checks b (check_store limit file b)
        → ((check_store limit file b).checked ≡ refused_with (check_store limit file b).checked.answer) × ((check_store limit file b).buffers ≡ b)
    go (over i e n) = absurd (true≢false (sym i ∙ h))
    go (none i e f) = (e, f)

-- ---- the report's numbers
marks-counted : (c : Checked) (marks : List ℕ) → c.counts ≡ counts_of marks
    → take 5 (drop 2 (check_numbers c)) ≡ map (λ mark. count_of mark marks) (0 ∷ 1 ∷ 2 ∷ 3 ∷ 4 ∷ [])
unfolding check_numbers counts_of
marks-counted c marks e = rw e

all-zeros : (n : ℕ) → check_numbers (refused_with n) ≡ replicate 8 0
unfolding check_numbers refused_with no_counts
all-zeros n = refl

pub numbers-count-marks : NumbersCountMarks
unfolding check_file
numbers-count-marks file b =
    record {
      counts = λ h. counted_of h (checks 512 file b);
      refused = λ h.
          let nothing = check-refusals-write-nothing 512 file b h in
          (ap check_numbers nothing.0 ∙ all-zeros _, nothing.1);
    }
  where
    counted_of : hands_over (check_store 512 file b).checked.answer ≡ true → Checks b (check_store 512 file b)
        → take 5 (drop 2 (check_numbers (check_store 512 file b).checked))
        ≡ map (λ mark. count_of mark (check_store 512 file b).buffers.marks) (0 ∷ 1 ∷ 2 ∷ 3 ∷ 4 ∷ [])
    counted_of h (over i e n) = marks-counted _ _ n
    counted_of h (none i e f) = absurd (true≢false (sym h ∙ i))

-- ---- request Q-2
pub nine-not-given : NineNotGiven
unfolding check_store counted refused_with repair_opened write_report
nine-not-given =
    record {
      check = λ limit file b.
          either_way (λ (s : StoreChecked). s.checked.answer ≡ 9 → ⊥) (eqb (opened limit file).answer 0) _ _
          (either_way (λ (c : Checked). c.answer ≡ 9 → ⊥) (hands_over _) _ _ (repair-not _ _ _ _ _ b) (repair-not _ _ _ _ _ b))
          ((Opening.nine-not-given).opening limit file);
      report = λ c out. either_way (λ (w : ReportWritten). w.answer ≡ 9 → ⊥) (eqb (length out) report_bytes) _ _
          (λ (e : ◌≡◌ {A = ℕ} 0 9). omega arith) (λ (e : ◌≡◌ {A = ℕ} 7 9). omega arith);
    }
  where
    repair-not : (rows columns : ℕ) (lines row_table column_table : List ℕ) (b : Buffers)
        → (repair_store rows columns lines row_table column_table b.lines b.marks b.row_table b.column_table).answer ≡ 9 → ⊥
    repair-not rows columns lines row_table column_table b =
        not-among 9 repair_answers refl (repair-answers rows columns lines row_table column_table _ _ _ _)
