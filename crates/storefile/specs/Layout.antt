-- Document 01, "Store file": where the bodies of an opened file stand, as numbers that other languages read.
use Rattle.std.specs.Prelude.{cond, List, [], ◌∷◌, ◌++◌, ℕ, ◌+◌, eqb, get_or, replicate}
use Rattle.storefile.specs.Header.{lines_part, row_table_part, column_table_part}
use Rattle.storefile.specs.Opening.{opened}
use Rattle.storefile.specs.declared.header.Part.{Part}

-- a part as two numbers: its offset from the file's start, and its length
abbrev pub part_numbers : Part → List ℕ
part_numbers p = p.offset ∷ p.size ∷ []

-- the part that two numbers of a list are, from a place on
abbrev pub part_at : List ℕ → ℕ → Part
part_at numbers i = record { offset = get_or numbers i 0; size = get_or numbers (i + 1) 0 }

-- rows and columns, then the three parts in the order of the contents table
unfoldable pub layout_numbers : ℕ → ℕ → List ℕ
layout_numbers rows columns =
    rows
    ∷ columns
    ∷ part_numbers (lines_part rows columns)
    ++ part_numbers (row_table_part rows columns)
    ++ part_numbers (column_table_part rows columns)

-- what opening a file answers, and where its bodies stand
pub record Layout : Type 0 where
  pub answer : ℕ
  pub numbers : List ℕ

-- the entry point: these numbers of a file that opens, zeros on refusal
unfoldable pub layout_in : List ℕ → Layout
layout_in file =
    let o = opened 512 file in
    cond (eqb o.answer 0)
    (record { answer = 0; numbers = layout_numbers o.rows o.columns })
    (record { answer = o.answer; numbers = replicate 8 0 })
