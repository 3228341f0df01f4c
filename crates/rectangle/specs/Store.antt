-- Document 01, "The rectangle": lines in a buffer, rows and columns of them, and the groups that repair visits.
use Rattle.std.specs.Prelude.{Bool, List, [], ◌∷◌, ◌++◌, map, ℕ, zero, suc, ◌+◌, ◌*◌, take, drop}
use Rattle.gf2.specs.Word.{Word}
use Rattle.linecode.specs.Places.{line_places, line_bytes, bits_of, places, line_of}
use Rattle.linecode.specs.Code.{up_from, codeword, Correct, is_correct}
use Rattle.linecode.specs.Reading.{read_alone}
use Rattle.linecode.specs.declared.alone.Reading as Given
use Rattle.scheme.specs.Layer.{Reading, Layer, Cell, read_line}
use Rattle.scheme.specs.Visit.{Group}

-- reading a line alone, writing it from its data, and when it is correct, each under the line's address, which this line code
-- does not use
unfoldable pub read_under : Reading
read_under address found = record { line = (read_alone found).word; mark = (read_alone found).mark }

unfoldable pub write_under : ℕ → List ℕ → Word
write_under address payload = codeword (bits_of payload)

unfoldable pub CorrectUnder : ℕ → Word → Type 0
CorrectUnder address w = Correct w

-- the same as a test
unfoldable pub is_correct_under : ℕ → Word → Bool
is_correct_under address w = is_correct w

-- the line code as repair sees it; a line's address is its number
abbrev pub line_layer : Layer
line_layer = record { width = line_places; address = λ n. n; read = read_under; Correct = CorrectUnder }

-- line n of a buffer: its 70 bytes, and its places
unfoldable pub bytes_at : List ℕ → ℕ → List ℕ
bytes_at buffer n = take line_bytes (drop (n * line_bytes) buffer)

unfoldable pub places_at : List ℕ → ℕ → Word
places_at buffer n = places (bytes_at buffer n)

-- the places of the k lines of a buffer
unfoldable pub lines_in : ℕ → List ℕ → List Word
lines_in k buffer = map (places_at buffer) (up_from 0 k)

-- a buffer of lines, each as 70 bytes with spare bits 0
abbrev pub buffer_of : List Word → List ℕ
buffer_of [] = []
buffer_of (w ∷ ws) = line_of w ++ buffer_of ws

-- a buffer with the bytes of line n replaced
unfoldable pub put_bytes : List ℕ → ℕ → List ℕ → List ℕ
put_bytes buffer n line = take (n * line_bytes) buffer ++ line ++ drop (suc n * line_bytes) buffer

-- a buffer with line n written, spare bits 0; the other bytes keep their values
unfoldable pub put_line : List ℕ → ℕ → Word → List ℕ
put_line buffer n w = put_bytes buffer n (line_of w)

-- line n as it reads alone
unfoldable pub alone_at : List ℕ → ℕ → Cell
alone_at buffer n = read_line line_layer n (places_at buffer n)

-- the same as a function gives it: 70 bytes with spare bits 0, and the mark
abbrev pub in_bytes : Cell → Given.Reading
in_bytes c = record { line = line_of c.line; mark = c.mark }

-- so many line numbers, from the first on at equal steps
abbrev pub stride : ℕ → ℕ → ℕ → List ℕ
stride first step zero = []
stride first step (suc count) = first ∷ stride (first + step) step count

-- line n has row n / columns and column n mod columns: the lines of row r, and of column c
unfoldable pub row : ℕ → ℕ → List ℕ
row columns r = stride (r * columns) 1 columns

unfoldable pub column : ℕ → ℕ → ℕ → List ℕ
column rows columns c = stride c columns rows

-- a row and a column with their parity lines, each from its own table
abbrev pub row_group : ℕ → List ℕ → ℕ → Group
row_group columns row_table r = record { members = row columns r; parity = places_at row_table r }

abbrev pub column_group : ℕ → ℕ → List ℕ → ℕ → Group
column_group rows columns column_table c = record { members = column rows columns c; parity = places_at column_table c }

-- all rows, and all columns, 0 upward
abbrev pub row_groups : ℕ → ℕ → List ℕ → List Group
row_groups rows columns row_table = map (row_group columns row_table) (up_from 0 rows)

abbrev pub column_groups : ℕ → ℕ → List ℕ → List Group
column_groups rows columns column_table = map (column_group rows columns column_table) (up_from 0 columns)

-- all groups in visiting order: rows, then columns
unfoldable pub groups : ℕ → ℕ → List ℕ → List ℕ → List Group
groups rows columns row_table column_table = row_groups rows columns row_table ++ column_groups rows columns column_table
