-- What the first reading asks of lent buffers, and what it makes of the store in them.
use Rattle.std.specs.Prelude.{◌≡◌, List, ◌++◌, map, ℕ, ◌+◌, ◌*◌, ◌≤◌, ◌<◌, length, get_or, drop}
use Rattle.gf2.specs.Word.{Word}
use Rattle.linecode.specs.Code.{up_from}
use Rattle.scheme.specs.Visit.{State}
use Rattle.scheme.specs.Repair.{lines_of, marks_of}
use Rattle.rectangle.specs.Store.{bytes_at, buffer_of, alone_at}
use Rattle.groups.specs.Lent.{Room, group_of, Beside, Tracked}

-- the first n lines as each reads alone
unfoldable pub read_first : List ℕ → ℕ → State
read_first found n = map (alone_at found) (up_from 0 n)

-- the first lines of two buffers are those of the store s, with their marks
pub record Begun (out marks : List ℕ) (s : State) : Type 0 where
  pub lines : out ≡ buffer_of (lines_of s) ++ drop (length s * 70) out
  pub marked : marks ≡ marks_of s ++ drop (length s) marks

-- row r is open: what stands beside the other groups is that of the first n lines, and the row's own is carried apart
pub record RowOpen (rows columns : ℕ) (parity : ℕ → Word) (found lacks faulty : List ℕ) (r n : ℕ) (difference : List ℕ)
    (hurt : ℕ) : Type 0 where
  pub others : (k : ℕ) → k < rows + columns → (k ≡ r → ⊥)
      → Beside (group_of rows columns parity k) (read_first found n) (bytes_at lacks k) (get_or faulty k 0)
  pub own : Beside (group_of rows columns parity r) (read_first found n) difference hurt

-- some lines of row r, from line n and column c on, are read into the buffers and those before them are added
pub record Piece (rows columns : ℕ) (parity : ℕ → Word) (found out marks lacks faulty : List ℕ) (r n c count : ℕ)
    (difference : List ℕ) (hurt : ℕ) : Type 0 where
  pub room : Room rows columns out marks lacks faulty
  pub bytes : length found ≡ rows * columns * 70
  pub listed : r < rows
  pub here : n ≡ r * columns + c
  pub inside : c + count ≤ columns
  pub begun : Begun out marks (read_first found (n + count))
  pub opened : RowOpen rows columns parity found lacks faulty r n difference hurt

-- they are such a piece of some rectangle, whose rows' differences stand elsewhere
abbrev pub SomePiece : ℕ → List ℕ → List ℕ → List ℕ → List ℕ → ℕ → ℕ → ℕ → List ℕ → ℕ → Type 0
SomePiece rows out marks column_lacks faulty n c count difference hurt =
    (columns : ℕ) × (parity : (ℕ → Word)) × (found : List ℕ) × (r : ℕ) × (row_lacks : List ℕ) × (length row_lacks ≡ rows * 70)
    × (length column_lacks ≡ columns * 70)
    × Piece rows columns parity found out marks (row_lacks ++ column_lacks) faulty r n c count difference hurt

-- n lines are read
pub record ReadUpTo (rows columns : ℕ) (parity : ℕ → Word) (found out marks lacks faulty : List ℕ) (n : ℕ) : Type 0 where
  pub begun : Begun out marks (read_first found n)
  pub beside : Tracked rows columns parity lacks faulty (read_first found n)

-- where n lines are read before, m are read after
abbrev pub ReadsOn : ℕ → ℕ → List ℕ → List ℕ → List ℕ → List ℕ → List ℕ → List ℕ → List ℕ → List ℕ → List ℕ → ℕ → ℕ → Type 0
ReadsOn rows columns found out marks lacks faulty out' marks' lacks' faulty' n m =
    (parity : ℕ → Word) → ReadUpTo rows columns parity found out marks lacks faulty n
    → ReadUpTo rows columns parity found out' marks' lacks' faulty' m
