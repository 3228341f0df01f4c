-- A file put together from a header that was written and three bodies opens, and its bodies are found again.
use mathlib.Core.Path.{◌≡◌, refl, sym, ap, ap₂, ◌∙◌, subst}
use mathlib.Core.Bool.{true}
use mathlib.Core.List.{List, [], ◌++◌, append_assoc, append-nil}
use Prim.Native.Nat.{ℕ, ◌+◌, ◌*◌, ◌^◌, ◌≤◌, ◌<◌}
use native.Mathlib.Omega.{arith}
use borrow.Author.Tests.{eq-eqb}
use lib.ListN.{length, take, drop, length-append, length-drop}
use lib.Seq.{take_at, drop_at, take-append-le, drop-append-le}
use Rattle.linecode.specs.Places.{line_bytes}
use Rattle.rectangle.specs.Refusals.{sides_fit}
use Rattle.rectangle.proofs.Groups.{sides}
use Rattle.storefile.specs.Bytes.{little_endian, number_of, number_at}
use Rattle.storefile.specs.Header.{header_bytes, lines_part, row_table_part, column_table_part, file_length, entry, header, bytes_in}
use Rattle.storefile.specs.Opening.{entry_is, entries_fit, contents_fit, opened, body, Opened}
use Rattle.storefile.specs.Promises.{FileRead, WrittenFileOpens}
use Rattle.storefile.specs.declared.header.Part.{Part}
use Rattle.storefile.proofs.Numbers.{number-bytes}
use Rattle.storefile.proofs.Small.{few_lines}
use Rattle.storefile.proofs.Headers.{length-header, header_made}
use Rattle.storefile.proofs.Openings.{sides-told, opens}

-- ---- parts of a file that is put together
-- a part between what stands before it and after it
part-between : (a b c : List ℕ) (p : Part) → length a ≡ p.offset → length b ≡ p.size → bytes_in (a ++ b ++ c) p ≡ b
unfolding bytes_in
part-between a b c p e f =
    ap (λ (l : List ℕ). take p.size (drop p.offset l)) (append_assoc a b c)
    ∙ ap (take p.size) (drop_at a (b ++ c) p.offset e)
    ∙ take_at b c p.size f

-- a number that lies in the first bytes
pub number-in-front : (h rest : List ℕ) (at k : ℕ) → at + k ≤ length h → number_at (h ++ rest) at k ≡ number_of (take k (drop at h))
unfolding number_at
number-in-front h rest at k i =
    ap (λ (l : List ℕ). number_of (take k l)) (drop-append-le at h rest (omega arith))
    ∙ ap number_of (take-append-le k (drop at h) rest (omega (arith, length-drop at h)))

entry-is : (file : List ℕ) (at : ℕ) (p : Part) → number_at file at 4 ≡ p.offset → number_at file (at + 4) 4 ≡ p.size
    → entry_is file at p ≡ true
unfolding entry_is
entry-is file at p e f = rw (eq-eqb (number_at file at 4) p.offset e) (eq-eqb (number_at file (at + 4) 4) p.size f)

-- ---- what the header tells, whatever follows it
module _ (rows columns : ℕ) (high : rows ≤ 512) (wide : columns ≤ 512) (rest : List ℕ) where
  few : rows * columns ≤ 262144
  few = few_lines rows columns high wide

  file : List ℕ
  file = header rows columns ++ rest

  -- a number of k bytes, where the header has these bytes
  there : (at k n : ℕ) → at + k ≤ 28 → n < 256 ^ k → take k (drop at (header rows columns)) ≡ little_endian k n → number_at file at k ≡ n
  unfolding file
  there at k n i small e =
      number-in-front (header rows columns) rest at k (omega (arith, length-header rows columns))
      ∙ ap number_of e
      ∙ number-bytes k n small

  rows_written : rows ≡ number_at file 0 2
  unfolding header entry
  rows_written = sym (there 0 2 rows (omega arith) (omega arith) refl)

  columns-written : columns ≡ number_at file 2 2
  unfolding header entry
  columns-written = sym (there 2 2 columns (omega arith) (omega arith) refl)

  lines-entry : entry_is file 4 (lines_part rows columns) ≡ true
  unfolding header entry lines_part header_bytes line_bytes
  lines-entry =
      entry-is file 4 (lines_part rows columns) (there 4 4 28 (omega arith) (omega arith) refl)
      (there 8 4 (rows * columns * 70) (omega arith) (omega (arith, few)) refl)

  row-table-entry : entry_is file 12 (row_table_part rows columns) ≡ true
  unfolding header entry row_table_part lines_part header_bytes line_bytes
  row-table-entry =
      entry-is file 12 (row_table_part rows columns)
      (there 12 4 (28 + rows * columns * 70) (omega arith) (omega (arith, few)) refl)
      (there 16 4 (rows * 70) (omega arith) (omega arith) refl)

  column-table-entry : entry_is file 20 (column_table_part rows columns) ≡ true
  unfolding header entry column_table_part row_table_part lines_part header_bytes line_bytes
  column-table-entry =
      entry-is file 20 (column_table_part rows columns)
      (there 20 4 (28 + rows * columns * 70 + rows * 70) (omega arith) (omega (arith, few)) refl)
      (there 24 4 (columns * 70) (omega arith) (omega arith) refl)

  contents-written : length file ≡ file_length rows columns → contents_fit file rows columns ≡ true
  unfolding contents_fit entries_fit
  contents-written e = rw (lines-entry, row-table-entry, column-table-entry) (eq-eqb (length file) (file_length rows columns) e)

-- ---- "what the header writer writes, opening accepts with the same rows and columns"
-- a body of a file that opens with these rows and columns
pub body_of : (part : ℕ → ℕ → Part) (file : List ℕ) (rows columns : ℕ)
    → opened 512 file ≡ record { answer = 0; rows = rows; columns = columns } → body part file ≡ bytes_in file (part rows columns)
unfolding body
body_of part file rows columns e = ap (λ (o : Opened). bytes_in file (part o.rows o.columns)) e

module _ (rows columns : ℕ) (l r c : List ℕ) (fit : sides_fit rows columns ≡ true) (el : length l ≡ rows * columns * line_bytes)
    (er : length r ≡ rows * line_bytes) (ec : length c ≡ columns * line_bytes) where
  whole : List ℕ
  whole = header rows columns ++ l ++ r ++ c

  to-lines : length (header rows columns ++ l) ≡ (row_table_part rows columns).offset
  unfolding row_table_part lines_part header_bytes
  to-lines = length-append (header rows columns) l ∙ ap₂ ◌+◌ (length-header rows columns) el

  to-rows : length (header rows columns ++ l ++ r) ≡ (column_table_part rows columns).offset
  unfolding column_table_part row_table_part
  to-rows = length-append (header rows columns ++ l) r ∙ ap₂ ◌+◌ to-lines er

  to_end : length whole ≡ file_length rows columns
  unfolding whole file_length column_table_part
  to_end = length-append (header rows columns ++ l ++ r) c ∙ ap₂ ◌+◌ to-rows ec

  whole_is : whole ≡ header rows columns ++ (l ++ (r ++ c))
  unfolding whole
  whole_is = append_assoc (header rows columns ++ l) r c ∙ append_assoc (header rows columns) l (r ++ c)

  opens-whole : (limit : ℕ) → rows ≤ limit → columns ≤ limit → opened limit whole ≡ record { answer = 0; rows = rows; columns = columns }
  unfolding whole file
  opens-whole limit h k =
      let s = sides rows columns fit in
      let rest = l ++ (r ++ c) in
      ap (opened limit) whole_is
      ∙ sym (opens limit (header rows columns ++ rest) rows columns
      (sides-told limit (header rows columns ++ rest)
      (omega (arith, length-append (header rows columns) rest, length-header rows columns)) rows columns
      (rows_written rows columns s.rows_high s.columns_high rest)
      (columns-written rows columns s.rows_high s.columns_high rest) fit (omega arith))
      (contents-written rows columns s.rows_high s.columns_high rest (ap length (sym whole_is) ∙ to_end)))

  to-header : length (header rows columns) ≡ (lines_part rows columns).offset
  unfolding lines_part header_bytes
  to-header = length-header rows columns

  lines-whole : bytes_in whole (lines_part rows columns) ≡ l
  unfolding whole lines_part
  lines-whole =
      ap (λ (f : List ℕ). bytes_in f (lines_part rows columns)) (append_assoc (header rows columns ++ l) r c)
      ∙ part-between (header rows columns) l (r ++ c) (lines_part rows columns) to-header el

  rows_whole : bytes_in whole (row_table_part rows columns) ≡ r
  unfolding whole row_table_part
  rows_whole = part-between (header rows columns ++ l) r c (row_table_part rows columns) to-lines er

  columns-whole : bytes_in whole (column_table_part rows columns) ≡ c
  unfolding whole column_table_part
  columns-whole =
      ap (λ (f : List ℕ). bytes_in f (column_table_part rows columns)) (sym (append-nil whole))
      ∙ part-between (header rows columns ++ l ++ r) c [] (column_table_part rows columns) to-rows ec

  read_back : (limit : ℕ) → rows ≤ limit → columns ≤ limit → FileRead limit rows columns whole l r c
  read_back limit h k =
      let s = sides rows columns fit in
      let largest = opens-whole 512 s.rows_high s.columns_high in
      record {
        opens = opens-whole limit h k;
        lines_found = body_of lines_part whole rows columns largest ∙ lines-whole;
        row_table_found = body_of row_table_part whole rows columns largest ∙ rows_whole;
        column_table_found = body_of column_table_part whole rows columns largest ∙ columns-whole;
      }

pub written-file-opens : WrittenFileOpens
unfolding whole
written-file-opens limit rows columns out l r c h k made =
    let w = header_made rows columns out made.written in
    subst (λ (x : List ℕ). FileRead limit rows columns (x ++ l ++ r ++ c) l r c) (sym w.1)
    (read_back rows columns l r c w.0 made.lines_bytes made.row_bytes made.column_bytes limit h k)
