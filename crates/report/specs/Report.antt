-- Document 01, "Store file": the report that `storecheck` prints.
use Rattle.std.specs.Prelude.{cond, List, [], ◌∷◌, ◌++◌, ℕ, zero, suc, ◌+◌, ◌/◌, ◌%◌, eqb, ltb, length, drop}
use Prim.Native.Char.{code}
use Prim.Native.String.{[] as none, ◌∷◌ as ◌then◌, String}
use Rattle.rectangle.specs.Repair.{hands_over}
use Rattle.results.specs.declared.marks.Counts.{Counts}
use Rattle.report.specs.declared.report.Checked.{Checked}

-- the bytes of a text
abbrev pub ascii : String → List ℕ
ascii none = []
ascii (c then s) = code c ∷ ascii s

-- the byte of a decimal digit
abbrev pub digit : ℕ → ℕ
digit d = 48 + d

-- a number in decimal without leading zeros, as far as k + 1 digits
abbrev pub decimal_up_to : ℕ → ℕ → List ℕ
decimal_up_to zero n = digit n ∷ []
decimal_up_to (suc k) n =
    let higher = decimal_up_to k (n / 10) ++ (digit (n % 10) ∷ []) in
    cond (ltb n 10) (digit n ∷ []) higher

-- a number n has fewer digits than n + 1
unfoldable pub decimal : ℕ → List ℕ
decimal n = decimal_up_to n n

-- a space and a number
unfoldable pub spaced : ℕ → List ℕ
spaced n = ascii " " ++ decimal n

-- a line of the report: a word, a space, a number, newline
unfoldable pub line : List ℕ → ℕ → List ℕ
line word n = word ++ spaced n ++ ascii "\n"

-- the first line has rows and columns
unfoldable pub store_line : ℕ → ℕ → List ℕ
store_line rows columns = ascii "store" ++ spaced rows ++ spaced columns ++ ascii "\n"

-- the next five count marks 0 to 4
unfoldable pub count_lines : Counts → List ℕ
count_lines c =
    line (ascii "clean") c.clean
    ++ line (ascii "alone") c.alone
    ++ line (ascii "trial") c.trial
    ++ line (ascii "rebuilt") c.rebuilt
    ++ line (ascii "faulty") c.faulty

-- the lines above the last
unfoldable pub lines_above : Checked → List ℕ
lines_above c = store_line c.rows c.columns ++ count_lines c.counts ++ line (ascii "passes") c.passes

-- the report: where repair hands nothing over, only the last line
unfoldable pub report_text : Checked → List ℕ
report_text c = cond (hands_over c.answer) (lines_above c) [] ++ line (ascii "answer") c.answer

-- no report is longer
unfoldable pub report_bytes : ℕ
report_bytes = 256

-- what writing the report answers, its length, and the buffer as it leaves it
pub record ReportWritten : Type 0 where
  pub answer : ℕ
  pub size : ℕ
  pub out : List ℕ

-- the entry point that writes the report: 7 where the buffer is not 256 bytes; bytes after the report keep their values
unfoldable pub write_report : Checked → List ℕ → ReportWritten
write_report c out =
    let text = report_text c in
    cond (eqb (length out) report_bytes)
    (record { answer = 0; size = length text; out = text ++ drop (length text) out })
    (record { answer = 7; size = 0; out = out })
