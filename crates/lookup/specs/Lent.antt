-- What the functions of a read of one line ask of what is lent, and what they leave in it.
use Rattle.std.specs.Prelude.{◌≡◌, true, List, ℕ, ◌+◌, ◌*◌, ◌<◌, length, get_or}
use Rattle.linecode.specs.Places.{line_of}
use Rattle.rectangle.specs.Store.{bytes_at, alone_at}
use Rattle.rectangle.specs.Refusals.{sides_fit}
use Rattle.groups.specs.Lent.{Inside}

-- a group of so many lines, from the first on at equal steps, inside lines and two buffers of as many
pub record Readable (lines out marks : List ℕ) (first step count : ℕ) : Type 0 where
  pub line_bytes : length lines ≡ length marks * 70
  pub out_bytes : length out ≡ length marks * 70
  pub inside : Inside first step count (length marks)

-- the first i of these lines stand in the buffers as they read alone, spare bits 0
pub record ReadAlone (lines : List ℕ) (first step i : ℕ) (out marks : List ℕ) : Type 0 where
  pub bytes : (k : ℕ) → k < i → bytes_at out (first + k * step) ≡ line_of (alone_at lines (first + k * step)).line
  pub marked : (k : ℕ) → k < i → get_or marks (first + k * step) 0 ≡ (alone_at lines (first + k * step)).mark

-- a rectangle's lines and row table, with a line and a mark buffer, and one of its lines
pub record Wanted (rows columns : ℕ) (lines row_table out marks : List ℕ) (n : ℕ) : Type 0 where
  pub sides : sides_fit rows columns ≡ true
  pub line_bytes : length lines ≡ rows * columns * 70
  pub row_bytes : length row_table ≡ rows * 70
  pub out_bytes : length out ≡ rows * columns * 70
  pub mark_bytes : length marks ≡ rows * columns
  pub inside : n < rows * columns
