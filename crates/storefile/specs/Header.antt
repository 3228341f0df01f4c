-- Document 01, "Store file": the header with its contents table, and the bodies after it.
use Rattle.std.specs.Prelude.{cond, List, ◌++◌, ℕ, ◌+◌, ◌*◌, eqb, length, take, drop}
use Rattle.linecode.specs.Places.{line_bytes}
use Rattle.rectangle.specs.Refusals.{unless, sides_fit}
use Rattle.storefile.specs.Bytes.{little_endian}
use Rattle.storefile.specs.declared.header.Part.{Part}

-- the header is 28 bytes
unfoldable pub header_bytes : ℕ
header_bytes = 28

-- where a part of the file ends; a part has an offset from the file's start and a length
abbrev pub end : Part → ℕ
end p = p.offset + p.size

-- the bodies follow the header in this order without gaps: lines, row table, column table
unfoldable pub lines_part : ℕ → ℕ → Part
lines_part rows columns = record { offset = header_bytes; size = rows * columns * line_bytes }

unfoldable pub row_table_part : ℕ → ℕ → Part
row_table_part rows columns = record { offset = end (lines_part rows columns); size = rows * line_bytes }

unfoldable pub column_table_part : ℕ → ℕ → Part
column_table_part rows columns = record { offset = end (row_table_part rows columns); size = columns * line_bytes }

-- nothing after: the file ends with the column table
unfoldable pub file_length : ℕ → ℕ → ℕ
file_length rows columns = end (column_table_part rows columns)

-- an entry of the contents table: four bytes offset, four bytes length
unfoldable pub entry : Part → List ℕ
entry p = little_endian 4 p.offset ++ little_endian 4 p.size

-- the header that rows and columns require: two bytes rows, two bytes columns, then the contents table of three entries
unfoldable pub header : ℕ → ℕ → List ℕ
header rows columns =
    little_endian 2 rows
    ++ little_endian 2 columns
    ++ entry (lines_part rows columns)
    ++ entry (row_table_part rows columns)
    ++ entry (column_table_part rows columns)

-- the bytes of a part
unfoldable pub bytes_in : List ℕ → Part → List ℕ
bytes_in file p = take p.size (drop p.offset file)

-- what writing a header answers, and the buffer as it leaves it
pub record HeaderWritten : Type 0 where
  pub answer : ℕ
  pub out : List ℕ

-- the entry point that writes a header: 2, then 7 where the buffer is not 28 bytes; a refusal writes nothing
unfoldable pub header_refusal : ℕ → ℕ → List ℕ → ℕ
header_refusal rows columns out = unless (sides_fit rows columns) 2 (unless (eqb (length out) header_bytes) 7 0)

unfoldable pub write_header : ℕ → ℕ → List ℕ → HeaderWritten
write_header rows columns out =
    let refusal = header_refusal rows columns out in
    cond (eqb refusal 0)
    (record { answer = 0; out = header rows columns })
    (record { answer = refusal; out = out })
