-- Writing a line and reading one alone, into a buffer that the caller lends: what each leaves in it, on refusals too.
use Rattle.std.specs.Prelude.{cond, List, ℕ, eqb, length}
use Rattle.linecode.specs.Places.{data_bytes, line_bytes}
use Rattle.linecode.specs.Entry.{written, reading}
use Rattle.linecode.specs.declared.alone.Reading.{Reading}
use Rattle.rectangle.specs.Refusals.{unless}

-- what writing leaves: its answer, and the line buffer
pub record Written : Type 0 where
  pub answer : ℕ
  pub line : List ℕ

-- what reading leaves: its answer, the line buffer and the mark
pub record Answered : Type 0 where
  pub answer : ℕ
  pub line : List ℕ
  pub mark : ℕ

-- writing: 64 data bytes, and a buffer of 70
unfoldable pub write_refusal : List ℕ → List ℕ → ℕ
write_refusal payload line =
    unless (eqb (length payload) data_bytes) 7
    (unless (eqb (length line) line_bytes) 7 0)

-- reading alone: a line of 70 bytes, and a buffer of 70
unfoldable pub read_refusal : List ℕ → List ℕ → ℕ
read_refusal line out =
    unless (eqb (length line) line_bytes) 5
    (unless (eqb (length out) line_bytes) 7 0)

-- the entry point that writes: the line buffer as it leaves it
unfoldable pub write_line : List ℕ → List ℕ → Written
write_line payload line =
    let refusal = write_refusal payload line in
    cond (eqb refusal 0)
    (record { answer = 0; line = written payload })
    (record { answer = refusal; line = line })

-- a line read alone, with 10 where it is faulty
abbrev pub if_faulty : Reading → Answered
if_faulty r = record { answer = cond (eqb r.mark 4) 10 0; line = r.line; mark = r.mark }

-- the entry point that reads: with 10 the line as found and mark 4; other refusals write nothing, and their mark is 0
unfoldable pub read_line : List ℕ → List ℕ → Answered
read_line line out =
    let refusal = read_refusal line out in
    cond (eqb refusal 0)
    (if_faulty (reading line))
    (record { answer = refusal; line = out; mark = 0 })
