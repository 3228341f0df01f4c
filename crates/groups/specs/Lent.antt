-- What the functions of one visit ask of lent buffers, and what they make of the store in them.
use Rattle.std.specs.Prelude.{◌≡◌, Bool, cond, ◌||◌, List, ◌++◌, ℕ, zero, suc, ◌+◌, ◌-◌, ◌*◌, ◌≤◌, ◌<◌, eqb, ltb, length, get_or}
use Rattle.gf2.specs.Word.{Word, ◌⊕◌}
use Rattle.linecode.specs.Places.{line_places, line_of}
use Rattle.linecode.specs.Code.{up_from}
use Rattle.scheme.specs.Visit.{Group, State, line_at, faulty_of, select, sum}
use Rattle.scheme.specs.Repair.{lines_of, marks_of}
use Rattle.rectangle.specs.Store.{bytes_at, buffer_of, stride, row, column}
use Rattle.rectangle.specs.Refusals.{every}
use Rattle.groups.specs.declared.tracked.Which.{Which}
use Rattle.groups.specs.declared.tracked.Which.TheVariants.{Row, Column}

-- a line buffer and a mark buffer hold the store s: its lines, spare bits 0, and their marks
pub record Holding (out marks : List ℕ) (s : State) : Type 0 where
  pub wide : (n : ℕ) → n < length s → length (line_at s n) ≡ line_places
  pub lines : out ≡ buffer_of (lines_of s)
  pub marked : marks ≡ marks_of s

-- a group of so many lines, from the first on at equal steps, inside k lines; its numbers are small
pub record Inside (first step count k : ℕ) : Type 0 where
  pub some : 0 < count
  pub each : (i : ℕ) → i < count → first + i * step < k
  pub apart : 0 < step
  pub small : first + count * step ≤ 1000000

-- those of some lines that are marked faulty
unfoldable pub faulty_among : List ℕ → List ℕ → List ℕ
faulty_among marks members = select (λ n. eqb (get_or marks n 0) 4) members

-- every byte of a line is 0
unfoldable pub all_zero : List ℕ → Bool
all_zero line = every (λ i. eqb (get_or line i 0) 0) (up_from 0 70)

-- a rectangle's sides, with a line buffer and a mark buffer for its lines
pub record Rectangular (rows columns : ℕ) (out marks : List ℕ) : Type 0 where
  pub rows_low : 2 ≤ rows
  pub rows_high : rows ≤ 512
  pub columns_low : 2 ≤ columns
  pub columns_high : columns ≤ 512
  pub out_bytes : length out ≡ rows * columns * 70
  pub mark_bytes : length marks ≡ rows * columns

-- beside them a line and a number for each group: the lines are those of the two lent tables, one after the other
pub record Room (rows columns : ℕ) (out marks lacks faulty : List ℕ) : Type 0 where
  pub rect : Rectangular rows columns out marks
  pub lack_bytes : length lacks ≡ (rows + columns) * 70
  pub counts : length faulty ≡ 1024

-- group k in visiting order, the rows and then the columns: row k, or column k - rows
unfoldable pub which_of : ℕ → ℕ → Which
which_of rows k = cond (ltb k rows) (Row (record { 0 = k })) (Column (record { 0 = k - rows }))

-- a group's number in this order
abbrev pub number_of : ℕ → Which → ℕ
number_of rows (Row r) = r.0
number_of rows (Column c) = rows + c.0

-- a row or a column of a rectangle
abbrev pub Within : ℕ → ℕ → Which → Type 0
Within rows columns (Row r) = r.0 < rows
Within rows columns (Column c) = c.0 < columns

-- a group's difference out of its own table, and that it stands inside
abbrev pub difference_of : List ℕ → List ℕ → Which → List ℕ
difference_of row_lacks column_lacks (Row r) = bytes_at row_lacks r.0
difference_of row_lacks column_lacks (Column c) = bytes_at column_lacks c.0

abbrev pub Reached : List ℕ → List ℕ → Which → Type 0
Reached row_lacks column_lacks (Row r) = suc r.0 * 70 ≤ length row_lacks
Reached row_lacks column_lacks (Column c) = suc c.0 * 70 ≤ length column_lacks

-- group k is unusable, or its difference is 0
unfoldable pub agrees_at : List ℕ → List ℕ → ℕ → Bool
agrees_at lacks parity_marks k = eqb (get_or parity_marks k 0) 4 || all_zero (bytes_at lacks k)

-- the lines of group k in visiting order: the rows, then the columns
unfoldable pub members_of : ℕ → ℕ → ℕ → List ℕ
members_of rows columns k = cond (ltb k rows) (row columns k) (column rows columns (k - rows))

-- group k of a rectangle whose parity lines are given
abbrev pub group_of : ℕ → ℕ → (ℕ → Word) → ℕ → Group
group_of rows columns parity k = record { members = members_of rows columns k; parity = parity k }

-- a group's difference, that is the exclusive or of its lines as they stand and its parity line, and how many of its lines are faulty
pub record Beside (g : Group) (s : State) (line : List ℕ) (count : ℕ) : Type 0 where
  pub wide : length g.parity ≡ line_places
  pub long : length (sum (line_at s) g.members ⊕ g.parity) ≡ line_places
  pub lack : line ≡ line_of (sum (line_at s) g.members ⊕ g.parity)
  pub number : count ≡ length (faulty_of s g.members)

-- the differences and the counts of all groups
abbrev pub Tracked : ℕ → ℕ → (ℕ → Word) → List ℕ → List ℕ → State → Type 0
Tracked rows columns parity lacks faulty s =
    (k : ℕ) → k < rows + columns → Beside (group_of rows columns parity k) s (bytes_at lacks k) (get_or faulty k 0)

-- the buffers hold the store s, and what stands beside it is that of s
pub record Carried (rows columns : ℕ) (parity : ℕ → Word) (out marks lacks faulty : List ℕ) (s : State) : Type 0 where
  pub held : Holding out marks s
  pub beside : Tracked rows columns parity lacks faulty s

-- the buffers hold some store
abbrev pub Some : ℕ → ℕ → List ℕ → List ℕ → List ℕ → List ℕ → Type 0
Some rows columns out marks lacks faulty =
    (parity : (ℕ → Word)) × (s : State) × Carried rows columns parity out marks lacks faulty s

-- buffers that have room and hold some store; each table has a line for each of its groups
pub record Ready (rows columns : ℕ) (out marks row_lacks column_lacks faulty : List ℕ) : Type 0 where
  pub room : Room rows columns out marks (row_lacks ++ column_lacks) faulty
  pub held : Some rows columns out marks (row_lacks ++ column_lacks) faulty
  pub row_bytes : length row_lacks ≡ rows * 70
  pub column_bytes : length column_lacks ≡ columns * 70

-- whatever store the buffers hold before, they hold f of it after
abbrev pub Makes : ℕ → ℕ → List ℕ → List ℕ → List ℕ → List ℕ → List ℕ → List ℕ → List ℕ → List ℕ → ((ℕ → Word) → State → State) → Type 0
Makes rows columns out marks lacks faulty out' marks' lacks' faulty' f =
    (parity : ℕ → Word) (s : State) → Carried rows columns parity out marks lacks faulty s
    → Carried rows columns parity out' marks' lacks' faulty' (f parity s)

-- group k of a rectangle, given by its first line, the step and the number of its lines
pub record Numbered (rows columns k first step count : ℕ) : Type 0 where
  pub listed : k < rows + columns
  pub lines : stride first step count ≡ members_of rows columns k
  pub inside : Inside first step count (rows * columns)

-- a row or a column of a rectangle with its lines
pub record Picked (rows columns : ℕ) (which : Which) (first step count : ℕ) : Type 0 where
  pub within : Within rows columns which
  pub numbered : Numbered rows columns (number_of rows which) first step count

-- the numbers of the first k groups together
abbrev pub count_to : List ℕ → ℕ → ℕ
count_to faulty zero = 0
count_to faulty (suc k) = count_to faulty k + get_or faulty k 0
