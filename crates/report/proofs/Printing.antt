-- The program's report: its work buffers just hold the store, and the text lies inside its buffer.
use mathlib.Core.Path.{◌≡◌, refl, sym, ap, ◌∙◌}
use mathlib.Core.Bool.{Bool, true, false, cond}
use mathlib.Core.List.{List, ◌∷◌, ◌++◌}
use Prim.Native.Nat.{ℕ, zero, suc, ◌*◌, ◌≤◌}
use native.Mathlib.Nat.{mul-le-mul}
use native.Mathlib.Omega.{arith}
use lib.Dec.{eqb}
use lib.ListN.{length, take, drop, replicate, length-append, length-replicate}
use lib.Seq.{length-take-le}
use Rattle.linecode.specs.Places.{line_bytes}
use Rattle.storefile.specs.Opening.{Opened, opened}
use Rattle.report.specs.Report.{report_text, report_bytes, ReportWritten, write_report}
use Rattle.report.specs.declared.report.Checked.{Checked}
use Rattle.rectangle.specs.Answers.{number_of}
use Rattle.rectangle.specs.Repair.{Buffers}
use Rattle.rectangle.specs.declared.answers.Refusal.{Refusal}
use Rattle.rectangle.proofs.Numbers.{number-not-zero}
use Rattle.report.specs.Check.{lent, StoreChecked, refused_with, check_store}
use Rattle.report.proofs.Checking.{check-refused}
use Rattle.report.specs.Program.{program_side, zero_buffers, program_checked}

-- the program's arrays hold a store that it opens
pub few : (rows columns : ℕ) → rows ≤ 16 → columns ≤ 16 → rows * columns ≤ 256
few rows columns h k = mul-le-mul h k

-- ---- the work buffers
abbrev pub zeros : ℕ → List ℕ
zeros n = replicate n 0

take-zeros : (k n : ℕ) → k ≤ n → take k (zeros n) ≡ zeros k
take-zeros zero n h = refl
take-zeros (suc k) zero h = let z : ⊥ = omega arith in absurd z
take-zeros (suc k) (suc n) h = ap (λ (l : List ℕ). 0 ∷ l) (take-zeros k n (omega arith))

pub room : (k n : ℕ) → k ≤ n → k ≡ length (take k (zeros n))
room k n h = sym (length-take-le k (zeros n) (omega (arith, length-replicate {A = ℕ} n 0)))

same-buffers : {k l m n k' l' m' n' : List ℕ} → k ≡ k' → l ≡ l' → m ≡ m' → n ≡ n' → lent k l m n ≡ lent k' l' m' n'
same-buffers e f g h = cc

module _ (file : List ℕ) (rows columns : ℕ) (is : record { answer = 0; rows = rows; columns = columns } ≡ opened 16 file) (high : rows ≤ 16)
    (wide : columns ≤ 16) where
  -- the first bytes of the program's arrays
  abbrev first : ℕ → Buffers
  first lines =
      lent (take (lines * 70) (zeros 17920)) (take lines (zeros 256)) (take (rows * 70) (zeros 1120)) (take (columns * 70) (zeros 1120))

  just-hold : first (rows * columns) ≡ zero_buffers rows columns
  unfolding zero_buffers line_bytes
  just-hold =
      let lines = few rows columns high wide in
      same-buffers
      (take-zeros (rows * columns * 70) 17920 (omega arith))
      (take-zeros (rows * columns) 256 lines)
      (take-zeros (rows * 70) 1120 (omega arith))
      (take-zeros (columns * 70) 1120 (omega arith))

  pub program-checks : (lines : ℕ) → lines ≡ rows * columns → (k : Checked) (after : Buffers)
      → ◌≡◌ {A = StoreChecked} (record { checked = k; buffers = after }) (check_store 16 file (first lines)) → k ≡ program_checked file
  unfolding program_checked program_side
  program-checks lines all k after e =
      ap (λ (s : StoreChecked). s.checked) e
      ∙ ap (λ (b : Buffers). (check_store 16 file b).checked) (ap first all ∙ just-hold)
      ∙ ap (λ (x : Opened). (check_store 16 file (zero_buffers x.rows x.columns)).checked) is

-- a file that does not open is checked in no buffers
pub program-refuses : (file : List ℕ) (refusal : Refusal) → record { answer = number_of refusal; rows = 0; columns = 0 } ≡ opened 16 file
    → refused_with (number_of refusal) ≡ program_checked file
unfolding program_checked program_side
program-refuses file refusal e =
    ap (λ (s : StoreChecked). s.checked) (check-refused 16 file _ _ e (number-not-zero refusal) (refused_with (number_of refusal)) refl)

-- ---- the text lies inside its buffer
pub report-inside : (k : Checked) (text after : List ℕ) (answer size : ℕ)
    → record { answer = answer; size = size; out = after } ≡ write_report k text → length after ≡ length text → size ≤ length text
unfolding write_report
report-inside k text after answer size e l = go (eqb (length text) report_bytes) e
  where
    go : (b : Bool) → ◌≡◌ {A = ReportWritten} (record { answer = answer; size = size; out = after }) (cond b
        (record { answer = 0; size = length (report_text k); out = report_text k ++ drop (length (report_text k)) text })
        (record { answer = 7; size = 0; out = text })) → size ≤ length text
    go true e =
        let short = ap (λ (w : ReportWritten). w.size) e in
        let out = ap (λ (w : ReportWritten). length w.out) e in
        omega (arith, length-append (report_text k) (drop (length (report_text k)) text))
    go false e = let short = ap (λ (w : ReportWritten). w.size) e in omega arith
