-- What is promised of the store file's form beyond the contracts, each sentence above its statement; the proofs stand in proofs/.
use Rattle.std.specs.Prelude.{◌≡◌, List, [], ◌++◌, ℕ, ◌*◌, ◌≤◌, length, take}
use Rattle.linecode.specs.Places.{line_bytes}
use Rattle.storefile.specs.Header.{header_bytes, lines_part, row_table_part, column_table_part, bytes_in, write_header}
use Rattle.storefile.specs.Opening.{rows_in, columns_in, opened, body, bytes_needed}
use Rattle.storefile.specs.Layout.{part_at, layout_in}

-- ---- "what the header writer writes, opening accepts with the same rows and columns", and finds the bodies that follow it
pub record FileMade (rows columns : ℕ) (out lines row_table column_table : List ℕ) : Type 0 where
  pub written : (write_header rows columns out).answer ≡ 0
  pub lines_bytes : length lines ≡ rows * columns * line_bytes
  pub row_bytes : length row_table ≡ rows * line_bytes
  pub column_bytes : length column_table ≡ columns * line_bytes

pub record FileRead (limit rows columns : ℕ) (file lines row_table column_table : List ℕ) : Type 0 where
  pub opens : opened limit file ≡ record { answer = 0; rows = rows; columns = columns }
  pub lines_found : body lines_part file ≡ lines
  pub row_table_found : body row_table_part file ≡ row_table
  pub column_table_found : body column_table_part file ≡ column_table

abbrev pub WrittenFileOpens : Type 0
WrittenFileOpens =
    (limit rows columns : ℕ) (out lines row_table column_table : List ℕ) → rows ≤ limit → columns ≤ limit
    → FileMade rows columns out lines row_table column_table
    → FileRead limit rows columns ((write_header rows columns out).out ++ lines ++ row_table ++ column_table) lines row_table column_table

-- ---- "the bodies are disjoint, in order, and cover the file after its header"
pub record BodiesCover (file : List ℕ) : Type 0 where
  pub in_order : file ≡ take header_bytes file ++ body lines_part file ++ body row_table_part file ++ body column_table_part file
  pub lines : length (body lines_part file) ≡ rows_in file * columns_in file * line_bytes
  pub row_table : length (body row_table_part file) ≡ rows_in file * line_bytes
  pub column_table : length (body column_table_part file) ≡ columns_in file * line_bytes

abbrev pub OpenedFileCovered : Type 0
OpenedFileCovered = (file : List ℕ) → (opened 512 file).answer ≡ 0 → BodiesCover file

-- a file that does not open has no bodies
pub record NoBodies (file : List ℕ) : Type 0 where
  pub lines : body lines_part file ≡ []
  pub row_table : body row_table_part file ≡ []
  pub column_table : body column_table_part file ≡ []

abbrev pub RefusedFileEmpty : Type 0
RefusedFileEmpty = (file : List ℕ) → ((opened 512 file).answer ≡ 0 → ⊥) → NoBodies file

-- ---- "the three parts by offset and length": the bytes that the numbers of a layout lead to are the bodies
pub record LayoutFinds (file : List ℕ) : Type 0 where
  pub lines : bytes_in file (part_at (layout_in file).numbers 2) ≡ body lines_part file
  pub row_table : bytes_in file (part_at (layout_in file).numbers 4) ≡ body row_table_part file
  pub column_table : bytes_in file (part_at (layout_in file).numbers 6) ≡ body column_table_part file

abbrev pub LayoutFindsBodies : Type 0
LayoutFindsBodies = (file : List ℕ) → LayoutFinds file

-- ---- a reader that stops after the bytes it needs opens the file as if it had read the whole
abbrev pub ReaderNeedsNoMore : Type 0
ReaderNeedsNoMore =
    (limit : ℕ) (file : List ℕ) → opened limit (take (bytes_needed limit (take header_bytes file)) file) ≡ opened limit file

-- ---- "3. In the program only"
abbrev pub ThreeInTheProgramOnly : Type 0
ThreeInTheProgramOnly = (file : List ℕ) → (opened 512 file).answer ≡ 3 → ⊥

-- ---- request Q-2: "9 is no longer given.", neither by opening a file nor by writing a header
pub record NineNotGiven : Type 0 where
  pub opening : (limit : ℕ) (file : List ℕ) → (opened limit file).answer ≡ 9 → ⊥
  pub header : (rows columns : ℕ) (out : List ℕ) → (write_header rows columns out).answer ≡ 9 → ⊥
