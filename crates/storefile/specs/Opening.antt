-- Document 01, "Store file" and "Turned back": opening a file of any bytes and any length.
use Rattle.std.specs.Prelude.{Bool, cond, ◌&&◌, List, ℕ, suc, ◌+◌, eqb, leb, length}
use Rattle.rectangle.specs.Refusals.{unless, sides_fit}
use Rattle.storefile.specs.Bytes.{number_at}
use Rattle.storefile.specs.Header.{header_bytes, lines_part, row_table_part, column_table_part, file_length, bytes_in}
use Rattle.storefile.specs.declared.header.Part.{Part}

-- two bytes rows, two bytes columns
unfoldable pub rows_in : List ℕ → ℕ
rows_in file = number_at file 0 2

unfoldable pub columns_in : List ℕ → ℕ
columns_in file = number_at file 2 2

-- 3: rows and columns do not exceed a limit: 16 in the program; elsewhere 512, which 2 has tested
unfoldable pub sides_within : ℕ → ℕ → ℕ → Bool
sides_within limit rows columns = leb rows limit && leb columns limit

-- the entry of the contents table that starts at a place is that of a part
unfoldable pub entry_is : List ℕ → ℕ → Part → Bool
entry_is file at p = eqb (number_at file at 4) p.offset && eqb (number_at file (at + 4) 4) p.size

-- the contents table is the one that rows and columns require
unfoldable pub entries_fit : List ℕ → ℕ → ℕ → Bool
entries_fit file rows columns =
    entry_is file 4 (lines_part rows columns)
    && (entry_is file 12 (row_table_part rows columns)
    && entry_is file 20 (column_table_part rows columns))

-- 4: the contents table and the file's length are those that rows and columns require
unfoldable pub contents_fit : List ℕ → ℕ → ℕ → Bool
contents_fit file rows columns = entries_fit file rows columns && eqb (length file) (file_length rows columns)

-- the first refusal of the list that fits, or 0
unfoldable pub open_refusal : ℕ → List ℕ → ℕ
open_refusal limit file =
    unless (leb header_bytes (length file)) 1
    (unless (sides_fit (rows_in file) (columns_in file)) 2
    (unless (sides_within limit (rows_in file) (columns_in file)) 3
    (unless (contents_fit file (rows_in file) (columns_in file)) 4 0)))

-- what opening a file answers, and its rows and columns
pub record Opened : Type 0 where
  pub answer : ℕ
  pub rows : ℕ
  pub columns : ℕ

-- the entry point that opens a file: its rows and columns, 0 on refusal
unfoldable pub opened : ℕ → List ℕ → Opened
opened limit file =
    let refusal = open_refusal limit file in
    cond (eqb refusal 0)
    (record { answer = 0; rows = rows_in file; columns = columns_in file })
    (record { answer = refusal; rows = 0; columns = 0 })

-- a body of a file that opens, as a part of the file; on refusal rows and columns are 0, and so is its length
unfoldable pub body : (ℕ → ℕ → Part) → List ℕ → List ℕ
body part file = bytes_in file (part (opened 512 file).rows (opened 512 file).columns)

-- how many bytes a reader needs that has the header: no more, unless the length alone is wrong; then one more than the length
-- required, to see that nothing follows
unfoldable pub bytes_needed : ℕ → List ℕ → ℕ
bytes_needed limit start =
    cond (eqb (open_refusal limit start) 4 && entries_fit start (rows_in start) (columns_in start))
    (suc (file_length (rows_in start) (columns_in start)))
    header_bytes
