-- The sweep that makes both tables, between its functions: sums of lines in lent buffers with room for 512 lines each.
use Rattle.std.specs.Prelude.{◌≡◌, Bool, true, List, [], ℕ, zero, suc, ◌+◌, ◌*◌, ◌≤◌, ◌<◌, length, take, get_or, Option, is_some, IsSome, IfSome}
use Rattle.gf2.specs.Word.{◌⊕◌}
use Rattle.linecode.specs.Places.{places, line_of, xor_bytes}
use Rattle.linecode.specs.Code.{up_from}
use Rattle.sweep.specs.Sums.{both_sums}
use Rattle.scheme.specs.Visit.{sum}
use Rattle.rectangle.specs.Store.{bytes_at, places_at, alone_at, stride}
use Rattle.rectangle.specs.Refusals.{every, accepted_at}
use Rattle.rectangle.specs.Tables.{row_table_of, column_table_of}

-- a line whose spare bits are 0
abbrev pub Clean : List ℕ → Type 0
Clean line = line ≡ line_of (places line)

-- both sums of so many lines, from line n on
abbrev pub PieceSums : List ℕ → ℕ → ℕ → List ℕ → Type 0
PieceSums lines n count sums = (i : ℕ) → i < count → get_or sums i 0 ≡ both_sums (places (bytes_at lines (n + i)))

-- so many lines, from line n on, read alone: whether all are accepted, and then the lines
pub record PieceRead (lines : List ℕ) (n count : ℕ) (each : ℕ → List ℕ) (accepted : Bool) : Type 0 where
  pub answer : accepted ≡ every (accepted_at lines) (up_from n count)
  pub read : accepted ≡ true → (i : ℕ) → i < count → each i ≡ line_of (alone_at lines (n + i)).line

-- a line with so many lines added, byte by byte
abbrev pub with_lines : (ℕ → List ℕ) → List ℕ → ℕ → List ℕ
with_lines each line zero = line
with_lines each line (suc i) = xor_bytes (with_lines each line i) (each i)

-- so many lines added, byte by byte: all to one sum, and each to its column's, from column c on; other columns stay
pub record LinesAdded (each : ℕ → List ℕ) (count c : ℕ) (old sums line sum : List ℕ) : Type 0 where
  pub kept : length sums ≡ length old
  pub row : sum ≡ with_lines each line count
  pub added : (i : ℕ) → i < count → bytes_at sums (c + i) ≡ xor_bytes (bytes_at old (c + i)) (each i)
  pub before : (k : ℕ) → k < c → bytes_at sums k ≡ bytes_at old k
  pub after : (k : ℕ) → c + count ≤ k → k < 512 → bytes_at sums k ≡ bytes_at old k

-- so many lines, from line n on, added as they read alone, where all are accepted: the sum, or none
pub record PieceSummed (lines : List ℕ) (n count c : ℕ) (old sums line : List ℕ) (sum : Option (List ℕ)) : Type 0 where
  pub answer : is_some sum ≡ every (accepted_at lines) (up_from n count)
  pub added : IfSome sum (LinesAdded (λ i. line_of (alone_at lines (n + i)).line) count c old sums line)

-- what summing a row asks: its lines, at most 512, and that the columns' sums have spare bits 0
pub record RowUnswept (lines : List ℕ) (first columns : ℕ) (sums : List ℕ) : Type 0 where
  pub inside : (first + columns) * 70 ≤ length lines
  pub high : columns ≤ 512
  pub clean : (c : ℕ) → c < columns → Clean (bytes_at sums c)

-- the lines of a row, from the first on, where all are accepted: their exclusive or, and each column's sum with its line added; or none
pub record RowSwept (lines : List ℕ) (first columns : ℕ) (old sums : List ℕ) (line : Option (List ℕ)) : Type 0 where
  pub answer : is_some line ≡ every (accepted_at lines) (up_from first columns)
  pub row : IfSome line (λ l. l ≡ line_of (sum (λ n. (alone_at lines n).line) (stride first 1 columns)))
  pub added : IsSome line → (c : ℕ) → c < columns → bytes_at sums c ≡ line_of (places_at old c ⊕ (alone_at lines (first + c)).line)

-- what the sweep asks: all lines, and nothing summed so far
pub record Unswept (rows columns : ℕ) (lines column_sums : List ℕ) : Type 0 where
  pub rows_high : rows ≤ 512
  pub columns_high : columns ≤ 512
  pub line_bytes : rows * columns * 70 ≤ length lines
  pub nothing : (c : ℕ) → c < columns → bytes_at column_sums c ≡ line_of []

-- what it leaves: whether all lines are accepted, and then the sums are the tables
pub record Swept (rows columns : ℕ) (lines row_sums column_sums : List ℕ) (accepted : Bool) : Type 0 where
  pub answer : accepted ≡ every (accepted_at lines) (up_from 0 (rows * columns))
  pub row_table : accepted ≡ true → take (rows * 70) row_sums ≡ row_table_of rows columns lines
  pub column_table : accepted ≡ true → take (columns * 70) column_sums ≡ column_table_of rows columns lines
