-- What is promised of a check and the report beyond the contracts, each sentence above its statement; the proofs stand in proofs/.
use Rattle.std.specs.Prelude.{◌≡◌, true, false, List, [], ◌∷◌, map, ℕ, ◌+◌, ◌-◌, ◌*◌, ◌≤◌, ◌<◌, length, take, drop, get_or, replicate}
use Rattle.rectangle.specs.Repair.{Buffers, hands_over}
use Rattle.storefile.specs.Header.{header_bytes}
use Rattle.storefile.specs.Opening.{bytes_needed}
use Rattle.results.specs.Marks.{count_of, total}
use Rattle.report.specs.Report.{decimal, write_report}
use Rattle.report.specs.declared.report.Checked.{Checked}
use Rattle.report.specs.Check.{refused_with, check_store}
use Rattle.report.specs.Numbers.{check_file}

-- ---- a reader that stops after the bytes it needs gives the same answer: those that follow change nothing
abbrev pub MoreChangesNothing : Type 0
MoreChangesNothing =
    (limit : ℕ) (file : List ℕ) (b : Buffers)
    → check_store limit (take (bytes_needed limit (take header_bytes file)) file) b ≡ check_store limit file b

-- ---- "the counts are defined from the marks and add up to the lines", of every check that hands a store over
abbrev pub CheckCountsLines : Type 0
CheckCountsLines =
    (limit : ℕ) (file : List ℕ) (b : Buffers)
    → let checked = (check_store limit file b).checked in
    hands_over checked.answer ≡ true → total checked.counts ≡ checked.rows * checked.columns

-- ---- "Passes are 0 for answers 1 to 10, which write nothing; a value that a call would return is 0", and so for every number added
-- later: any answer but 0, 11 and 12. None of the four buffers is written
abbrev pub CheckRefusalsWriteNothing : Type 0
CheckRefusalsWriteNothing =
    (limit : ℕ) (file : List ℕ) (b : Buffers)
    → let r = check_store limit file b in
    hands_over r.checked.answer ≡ false → (r.checked ≡ refused_with r.checked.answer) × (r.buffers ≡ b)

-- ---- "a check of a whole file with the report's numbers": the third to the seventh count the marks 0 to 4 as they are handed over; where
-- nothing is handed over, all eight are 0 and no buffer is written
pub record FileChecks (file : List ℕ) (b : Buffers) : Type 0 where
  pub counts : hands_over (check_file file b).answer ≡ true
      → take 5 (drop 2 (check_file file b).numbers) ≡ map (λ mark. count_of mark (check_file file b).buffers.marks) (0 ∷ 1 ∷ 2 ∷ 3 ∷ 4 ∷ [])
  pub refused : hands_over (check_file file b).answer ≡ false
      → ((check_file file b).numbers ≡ replicate 8 0) × ((check_file file b).buffers ≡ b)

abbrev pub NumbersCountMarks : Type 0
NumbersCountMarks = (file : List ℕ) (b : Buffers) → FileChecks file b

-- ---- request Q-2: "9 is no longer given.", neither by a check nor by writing the report
pub record NineNotGiven : Type 0 where
  pub check : (limit : ℕ) (file : List ℕ) (b : Buffers) → (check_store limit file b).checked.answer ≡ 9 → ⊥
  pub report : (c : Checked) (out : List ℕ) → (write_report c out).answer ≡ 9 → ⊥

-- ---- "decimal without leading zeros": digits from 48 to 57, which read back give the number; only 0 begins with 48, and it is short
abbrev pub read_decimal : ℕ → List ℕ → ℕ
read_decimal n [] = n
read_decimal n (d ∷ ds) = read_decimal (10 * n + (d - 48)) ds

pub record Decimal (n : ℕ) : Type 0 where
  pub digits : (i : ℕ) → i < length (decimal n) → (48 ≤ get_or (decimal n) i 0) × (get_or (decimal n) i 0 ≤ 57)
  pub number : read_decimal 0 (decimal n) ≡ n
  pub no_zero : 1 ≤ n → get_or (decimal n) 0 0 ≡ 48 → ⊥
  pub short : n < 10 → length (decimal n) ≡ 1

abbrev pub DecimalWithoutZeros : Type 0
DecimalWithoutZeros = (n : ℕ) → Decimal n
