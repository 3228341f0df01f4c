-- The report as it is put into a buffer, piece after piece.
use mathlib.Core.Path.{◌≡◌, sym, ap, ap₂, ◌∙◌}
use mathlib.Core.Bool.{true, false}
use mathlib.Core.List.{List, [], ◌∷◌, ◌++◌}
use Prim.Native.Nat.{ℕ, ◌%◌, ◌^◌, ◌≤◌, ◌<◌}
use native.Mathlib.Nat.{zero-add}
use native.Mathlib.Omega.{arith}
use borrow.Author.Tests.{eq-eqb, ne_eqb}
use lib.ListN.{length, drop}
use Rattle.rectangle.specs.Repair.{hands_over}
use Rattle.storefile.specs.Bytes.{Put}
use Rattle.std.specs.Fmt as Fmt
use Rattle.std.proofs.lemmas.Fmt.{decimal_by_steps}
use Rattle.report.specs.Report.{ascii, digit, decimal, line, lines_above, report_text, report_bytes, write_report}
use Rattle.report.specs.declared.report.Checked.{Checked}
use Rattle.storefile.proofs.Placing.{placed-start, put_then}
use Rattle.report.proofs.Decimal.{decimal-small, decimal-more}

-- ---- a number, as the library writes it
pub decimal-written : (n : ℕ) → n < 2 ^ 64 → Fmt.decimal n ≡ decimal n
decimal-written =
    decimal_by_steps (λ n l. l ≡ decimal n) (λ n h. sym (decimal-small n h))
    (λ n ds h e. ap (λ (l : List ℕ). l ++ (digit (n % 10) ∷ [])) e ∙ sym (decimal-more n h))

-- ---- the report, case by case
module _ (c : Checked) where
  pub text-last : hands_over c.answer ≡ false → line (ascii "answer") c.answer ≡ report_text c
  unfolding report_text
  text-last e = rw e

  pub text-whole : hands_over c.answer ≡ true → lines_above c ++ line (ascii "answer") c.answer ≡ report_text c
  unfolding report_text
  text-whole e = rw e

  module _ (out : List ℕ) where
    pub report-refused : (length out ≡ 256 → ⊥) → record { answer = 7; size = 0; out = out } ≡ write_report c out
    unfolding write_report report_bytes
    report-refused d = rw (ne_eqb (length out) 256 d)

    module _ (room : length out ≡ 256) where
      pub report-given : (text new : List ℕ) (size : ℕ) → text ≡ report_text c → Put out 0 text new size
          → record { answer = 0; size = size; out = new } ≡ write_report c out
      unfolding write_report report_bytes
      report-given text new size is p =
          rw (eq-eqb (length out) 256 room)
          (ap₂ (λ (k : ℕ) (l : List ℕ). record { answer = 0; size = k; out = l })
          (p.after ∙ zero-add (length text) ∙ ap length is)
          (p.put ∙ placed-start out text ∙ ap (λ (l : List ℕ). l ++ drop (length l) out) is))

      -- the last line alone, and after the others
      pub report-last : hands_over c.answer ≡ false → (new : List ℕ) (size : ℕ) → Put out 0 (line (ascii "answer") c.answer) new size
          → record { answer = 0; size = size; out = new } ≡ write_report c out
      report-last h new size p = report-given _ new size (text-last h) p

      pub report-whole : hands_over c.answer ≡ true → (mid : List ℕ) (k : ℕ) → Put out 0 (lines_above c) mid k → k ≤ 214
          → (new : List ℕ) (size : ℕ) → Put mid k (line (ascii "answer") c.answer) new size
          → record { answer = 0; size = size; out = new } ≡ write_report c out
      report-whole h mid k p short new size q =
          report-given _ new size (text-whole h) (put_then _ _ _ _ _ _ _ _ (omega arith) p q)
