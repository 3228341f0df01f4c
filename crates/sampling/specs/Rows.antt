-- Rows of a table of samples, each a claim that the definitions decide.
use Rattle.std.specs.Prelude.{Bool, true, false, ◌&&◌, ◌||◌, List, [], ◌∷◌, ◌++◌, ℕ, ◌*◌, eqb, replicate}
use Rattle.gf2.specs.Word.{Word, zeros, same, flip}
use Rattle.linecode.specs.Places.{line_of}
use Rattle.linecode.specs.Code.{syndrome, answer_to, place_of}
use Rattle.linecode.specs.Reading.{read_alone}
use Rattle.linecode.specs.Before.{read_before}
use Rattle.linecode.specs.Entry.{written}
use Rattle.rectangle.specs.Change.{LineChanged, change_line}
use Rattle.rectangle.specs.Repair.{StoreRepaired, repair_store}
use Rattle.local_decoding.specs.Lookup.{OneRead, read_one}

-- a store of two rows and two columns: its lines, and the parity lines of its rows and of its columns
pub record Store : Type 0 where
  pub lines : List (List ℕ)
  pub row_table : List (List ℕ)
  pub column_table : List (List ℕ)

-- a row of a table
pub data Sample : Type 0 where
  -- these data give this line
  writes : List ℕ → List ℕ → Sample
  -- the zero line, hurt at these places, is read as the zero line with this mark
  accepts : List ℕ → ℕ → Sample
  -- the zero line, hurt at these places, had this mark before request Q-1
  was_marked : List ℕ → ℕ → Sample
  -- the zero line, hurt at these places, has this syndrome, which names this place (553 for none), and is faulty
  refuses : List ℕ → ℕ → ℕ → Sample
  -- two rows of so many columns, with zero tables: these lines come back as zero lines with these marks, passes and answer 0
  mends : ℕ → List (List ℕ) → List ℕ → ℕ → Sample
  -- these are handed over as found with these marks, passes and this answer
  leaves : ℕ → List (List ℕ) → List ℕ → ℕ → ℕ → Sample
  -- this store comes back as that one with these marks, passes and this answer
  repairs : Store → Store → List ℕ → ℕ → ℕ → Sample
  -- four zero lines, two by two, with these parity lines of the rows and of the columns: a change of line n answers so with this number,
  -- and writes nothing unless it answers 0
  changes : List (List ℕ) → List (List ℕ) → ℕ → ℕ → ℕ → Sample
  -- of this store, line n is given by this step with this mark and answer, as this line; work buffers of sevens come back zero
  reads : Store → ℕ → ℕ → ℕ → ℕ → List ℕ → Sample

-- a line hurt at some places
abbrev pub hurt_at : List ℕ → Word → Word
hurt_at [] w = w
hurt_at (i ∷ is) w = flip i (hurt_at is w)

-- the zero line, the zero line hurt at some places, and the line of which only data place 511 is set
unfoldable pub clean : List ℕ
clean = replicate 70 0

unfoldable pub hurt : List ℕ → List ℕ
hurt is = line_of (hurt_at is (zeros 553))

unfoldable pub last : List ℕ
last = replicate 63 0 ++ (0x80 ∷ 0xC7 ∷ 0x6F ∷ 0x66 ∷ 0x56 ∷ 0x09 ∷ 0x00 ∷ [])

abbrev pub same_bytes : List ℕ → List ℕ → Bool
same_bytes [] [] = true
same_bytes [] (b ∷ y) = false
same_bytes (a ∷ x) [] = false
same_bytes (a ∷ x) (b ∷ y) = eqb a b && same_bytes x y

abbrev pub joined : List (List ℕ) → List ℕ
joined [] = []
joined (l ∷ ls) = l ++ joined ls

-- what repair of lines in two rows of so many columns, with these tables, gives in buffers of sevens
unfoldable pub repaired_with : ℕ → List ℕ → List ℕ → List ℕ → StoreRepaired
repaired_with columns lines row_table column_table =
    repair_store 2 columns lines row_table column_table (replicate (columns * 140) 7) (replicate (columns * 2) 7)
    (replicate 140 7) (replicate (columns * 70) 7)

-- it gives all this: answer, passes, and each byte of the four buffers
abbrev pub gives : StoreRepaired → StoreRepaired → Bool
gives r s =
    eqb r.answer s.answer
    && eqb r.passes s.passes
    && same_bytes r.lines s.lines
    && same_bytes r.marks s.marks
    && same_bytes r.row_table s.row_table
    && same_bytes r.column_table s.column_table

-- with zero tables, which it hands over: these lines, marks, passes and this answer
abbrev pub gives_with_zeros : ℕ → List ℕ → List ℕ → List ℕ → ℕ → ℕ → Bool
gives_with_zeros columns found lines marks passes answer =
    let row_table : List ℕ = replicate 140 0 in
    let column_table : List ℕ = replicate (columns * 70) 0 in
    gives (repaired_with columns found row_table column_table)
    (record { answer = answer; passes = passes; lines = lines; marks = marks; row_table = row_table; column_table = column_table })

-- line n of four zero lines, two by two, with these tables, changed
unfoldable pub changed_with : List (List ℕ) → List (List ℕ) → ℕ → LineChanged
changed_with row_table column_table n = change_line 2 2 (replicate 280 0) (joined row_table) (joined column_table) n (replicate 64 1)

-- line n of a store read, with work buffers of sevens
unfoldable pub read_with : Store → ℕ → OneRead
read_with s n =
    read_one 2 2 (joined s.lines) (joined s.row_table) (joined s.column_table) n
    (record { lines = replicate 280 7; marks = replicate 4 7; row_table = replicate 140 7; column_table = replicate 140 7 })
    (replicate 70 7)

-- what a row claims
abbrev pub holds : Sample → Bool
holds (writes payload line) = same_bytes (written payload) line
holds (accepts hurt mark) =
    let read = read_alone (hurt_at hurt (zeros 553)) in same read.word (zeros 553) && eqb read.mark mark
holds (was_marked hurt mark) = eqb (read_before (hurt_at hurt (zeros 553))).mark mark
holds (refuses hurt number place) =
    let line = hurt_at hurt (zeros 553) in
    let read = read_alone line in
    eqb (syndrome line) number && eqb (place_of (answer_to number)) place && same read.word line && eqb read.mark 4
holds (mends columns found marks passes) = gives_with_zeros columns (joined found) (replicate (columns * 140) 0) marks passes 0
holds (leaves columns found marks passes answer) = gives_with_zeros columns (joined found) (joined found) marks passes answer
holds (repairs found given marks passes answer) =
    gives (repaired_with 2 (joined found.lines) (joined found.row_table) (joined found.column_table))
    (record {
      answer = answer;
      passes = passes;
      lines = joined given.lines;
      marks = marks;
      row_table = joined given.row_table;
      column_table = joined given.column_table;
    })
holds (changes row_table column_table n answer number) =
    let changed = changed_with row_table column_table n in
    eqb changed.answer answer && eqb changed.number number
    && (eqb answer 0
    || (same_bytes changed.lines (replicate 280 0)
    && same_bytes changed.row_table (joined row_table)
    && same_bytes changed.column_table (joined column_table)))
holds (reads store n step mark answer line) =
    let read = read_with store n in
    eqb read.step step && eqb read.mark mark && eqb read.answer answer
    && same_bytes read.line line
    && same_bytes read.work.lines (replicate 280 0)
    && same_bytes read.work.marks (replicate 4 0)
    && same_bytes read.work.row_table (replicate 140 0)
    && same_bytes read.work.column_table (replicate 140 0)

abbrev pub all : List Sample → Bool
all [] = true
all (s ∷ rest) = holds s && all rest
