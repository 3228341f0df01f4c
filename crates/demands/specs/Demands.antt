-- What the customer demands, each sentence above its statement; the words of demand 3 as document 01 gives them, in bytes.
use Rattle.std.specs.Prelude.{◌≡◌, ◌⊎◌, ◌↔◌, Bool, true, false, List, [], ◌∷◌, ℕ, ◌*◌, ◌/◌, ◌%◌, ◌≤◌, ◌<◌, length, get_or}
use Rattle.gf2.specs.Word.{◌⊕◌, distance}
use Rattle.linecode.specs.Places.{data_bytes, line_of}
use Rattle.linecode.specs.Code.{up_from}
use Rattle.scheme.specs.Layer.{CorrectLine, read_line, parity_address}
use Rattle.scheme.specs.Visit.{Group, is_faulty, select}
use Rattle.scheme.specs.Repair.{Repaired, pass, lines_of, marks_of}
use Rattle.scheme.specs.Parity.{unusable}
use Rattle.scheme.specs.Demand3.{◌∈◌}
use Rattle.rectangle.specs.Store.{line_layer, bytes_at, places_at, lines_in, buffer_of, alone_at, row, column, column_group}
use Rattle.rectangle.specs.Refusals.{sides_fit, holds, tables_fit, accepted_at}
use Rattle.rectangle.specs.Tables.{row_parity, column_parity, row_table_of, column_table_of, TablesMade, make_tables}
use Rattle.rectangle.specs.Change.{LineChanged, change_line}
use Rattle.rectangle.specs.Repair.{used_groups, Buffers, repaired, StoreRepaired, hands_over, repair_store}

-- a rectangle: its rows and columns, and in bytes its lines and both tables
pub record Rectangle : Type 0 where
  pub rows : ℕ
  pub columns : ℕ
  pub lines : List ℕ
  pub row_table : List ℕ
  pub column_table : List ℕ

-- the number of its lines
abbrev pub count : Rectangle → ℕ
count r = r.rows * r.columns

-- the three entry points on a rectangle; old tables are the buffers to be written, as handed in
unfoldable pub tables_for : Rectangle → List ℕ → List ℕ → TablesMade
tables_for r old_rows old_columns = make_tables r.rows r.columns r.lines old_rows old_columns

unfoldable pub change_in : Rectangle → ℕ → List ℕ → LineChanged
change_in r n payload = change_line r.rows r.columns r.lines r.row_table r.column_table n payload

unfoldable pub repair_of : Rectangle → Buffers → StoreRepaired
repair_of r b =
    repair_store r.rows r.columns r.lines r.row_table r.column_table b.lines b.marks b.row_table b.column_table

-- they have the lengths that refusals 6 and 7 ask for
pub record Room (r : Rectangle) (b : Buffers) : Type 0 where
  pub line_bytes : holds (count r) b.lines ≡ true
  pub marks : length b.marks ≡ count r
  pub table_bytes : tables_fit r.rows r.columns b.row_table b.column_table ≡ true

-- the groups as repair uses them, and what the SuDoku steps leave of a rectangle
abbrev pub groups_of : Rectangle → List Group
groups_of r = used_groups line_layer r.rows r.columns r.row_table r.column_table

abbrev pub steps_on : Rectangle → Repaired
steps_on r = repaired r.rows r.columns r.lines r.row_table r.column_table

-- ---- Demand 1: "Refusals up to 10 write nothing;", and so does every number that a request adds: any answer but 0, 11 and 12
pub record RefusalsWriteNothing : Type 0 where
  pub tables : (r : Rectangle) (old_rows old_columns : List ℕ) → ((tables_for r old_rows old_columns).answer ≡ 0 → ⊥)
      → ((tables_for r old_rows old_columns).row_table ≡ old_rows) × ((tables_for r old_rows old_columns).column_table ≡ old_columns)
  pub change : (r : Rectangle) (n : ℕ) (payload : List ℕ) → ((change_in r n payload).answer ≡ 0 → ⊥)
      → ((change_in r n payload).lines ≡ r.lines) × ((change_in r n payload).row_table ≡ r.row_table)
      × ((change_in r n payload).column_table ≡ r.column_table)
  -- a refusal of repair is an answer that hands nothing over: not 0, 11 or 12
  pub repair : (r : Rectangle) (b : Buffers) → hands_over (repair_of r b).answer ≡ false
      → ((repair_of r b).lines ≡ b.lines) × ((repair_of r b).marks ≡ b.marks)
      × ((repair_of r b).row_table ≡ b.row_table) × ((repair_of r b).column_table ≡ b.column_table) × ((repair_of r b).passes ≡ 0)

-- ---- Demand 1: "repair's 11 and 12 still hand over lines and marks as its steps leave them.", and so does 0 (the tables: `TablesGiven`)
abbrev pub HandsOverAsLeft : Type 0
HandsOverAsLeft =
    (r : Rectangle) (b : Buffers) → hands_over (repair_of r b).answer ≡ true
    → ((repair_of r b).lines ≡ buffer_of (lines_of (steps_on r).cells))
    × ((repair_of r b).marks ≡ marks_of (steps_on r).cells)

-- ---- Document 01: "11. Faulty lines are left after the last pass.": with 11 some line has mark 4, with 0 and 12 none has
pub record LeftFaulty (lines : ℕ) (given : StoreRepaired) : Type 0 where
  pub some : given.answer ≡ 11 → (n : ℕ) × (n < lines) × (get_or given.marks n 0 ≡ 4)
  pub none : (given.answer ≡ 11 → ⊥) → (n : ℕ) → get_or given.marks n 0 ≡ 4 → ⊥

abbrev pub ElevenIsLeft : Type 0
ElevenIsLeft = (r : Rectangle) (b : Buffers) → hands_over (repair_of r b).answer ≡ true → LeftFaulty (count r) (repair_of r b)

-- ---- Demand 2: "Written lines and tables are those of the named Hamming and BCH codes,"
-- where tables are made, each of their parity lines is a correct line
pub record TablesOfTheCode (r : Rectangle) (old_rows old_columns : List ℕ) : Type 0 where
  pub rows_correct : (k : ℕ) → k < r.rows
      → line_layer.Correct (parity_address line_layer (row r.columns k)) (places_at (tables_for r old_rows old_columns).row_table k)
  pub columns_correct : (k : ℕ) → k < r.columns
      → line_layer.Correct (parity_address line_layer (column r.rows r.columns k))
      (places_at (tables_for r old_rows old_columns).column_table k)

abbrev pub TablesAreOfTheCode : Type 0
TablesAreOfTheCode =
    (r : Rectangle) (old_rows old_columns : List ℕ) → (tables_for r old_rows old_columns).answer ≡ 0
    → TablesOfTheCode r old_rows old_columns

-- ---- Document 01: "A parity line is the place-by-place exclusive or of its row's or column's lines, 70 bytes; of correct lines it
-- is itself a correct line."
-- the lines of these numbers are correct
abbrev pub CorrectLines : List ℕ → List ℕ → Type 0
CorrectLines lines members = (n : ℕ) → n ∈ members → CorrectLine line_layer n (places_at lines n)

pub record ParityOfCorrectLines : Type 0 where
  pub rows : (columns : ℕ) (lines : List ℕ) (k : ℕ) → 1 ≤ columns → CorrectLines lines (row columns k)
      → line_layer.Correct (parity_address line_layer (row columns k)) (row_parity columns lines k)
  pub columns : (rows columns : ℕ) (lines : List ℕ) (k : ℕ) → 1 ≤ rows → CorrectLines lines (column rows columns k)
      → line_layer.Correct (parity_address line_layer (column rows columns k)) (column_parity rows columns lines k)

-- ---- Demand 2: "Lines are given up only when a whole pass mends none of them.", over the groups as read
abbrev pub GivenUpLast : Type 0
GivenUpLast =
    (r : Rectangle) (b : Buffers) → (repair_of r b).answer ≡ 11
    → pass (read_line line_layer) (groups_of r) (steps_on r).cells ≡ (steps_on r).cells

-- ---- Document 01: "Repair also returns its passes: 0 when nothing was faulty after the first reading, never more than the lines
-- faulty then."
-- the number of lines that are faulty after the first reading
unfoldable pub faulty_alone : Rectangle → ℕ
faulty_alone r = length (select (λ n. is_faulty (alone_at r.lines n)) (up_from 0 (count r)))

pub record PassesOf (r : Rectangle) (passes : ℕ) : Type 0 where
  pub none : (passes ≡ 0) ↔ (faulty_alone r ≡ 0)
  pub most : passes ≤ faulty_alone r

-- a refusal's passes are 0: `RefusalsWriteNothing`
abbrev pub PassesReturned : Type 0
PassesReturned =
    (r : Rectangle) (b : Buffers) → hands_over (repair_of r b).answer ≡ true → PassesOf r (repair_of r b).passes

-- ---- Document 01: "An accepted line is never altered later." (for those that a visit mends: `NeverAltered` of the scheme)
-- line n is handed over as it reads alone, spare bits 0, and with that mark (a mark left out would be a 4)
pub record GivenAsRead (r : Rectangle) (given : StoreRepaired) (n : ℕ) : Type 0 where
  pub line : bytes_at given.lines n ≡ line_of (alone_at r.lines n).line
  pub mark : get_or given.marks n 4 ≡ (alone_at r.lines n).mark

abbrev pub AcceptedNeverAltered : Type 0
AcceptedNeverAltered =
    (r : Rectangle) (b : Buffers) → hands_over (repair_of r b).answer ≡ true
    → (n : ℕ) → n < count r → accepted_at r.lines n ≡ true → GivenAsRead r (repair_of r b) n

-- ---- Document 01: "it is faulty and kept as found, spare bits 0", also where it stays faulty to the end
abbrev pub FaultyAsFound : Type 0
FaultyAsFound =
    (r : Rectangle) (b : Buffers) → hands_over (repair_of r b).answer ≡ true
    → (n : ℕ) → n < count r → get_or (repair_of r b).marks n 0 ≡ 4
    → bytes_at (repair_of r b).lines n ≡ line_of (places_at r.lines n)

-- ---- Words of demand 3
-- a rectangle written has correct lines only and the tables made from them, all spare bits 0
pub record Written (r : Rectangle) : Type 0 where
  pub sides : sides_fit r.rows r.columns ≡ true
  -- its bytes are those of its lines' places
  pub lines : r.lines ≡ buffer_of (lines_in (count r) r.lines)
  pub correct : (n : ℕ) → n < count r → CorrectLine line_layer n (places_at r.lines n)
  pub row_table : r.row_table ≡ row_table_of r.rows r.columns r.lines
  pub column_table : r.column_table ≡ column_table_of r.rows r.columns r.lines

-- tables are equal where all places of every parity line agree
pub record EqualTables (r s : Rectangle) : Type 0 where
  pub row_table : lines_in r.rows r.row_table ≡ lines_in s.rows s.row_table
  pub column_table : lines_in r.columns r.column_table ≡ lines_in s.columns s.column_table

-- rectangles look alike where rows, columns and all places of every line and parity line agree
pub record Alike (r s : Rectangle) : Type 0 where
  pub rows : r.rows ≡ s.rows
  pub columns : r.columns ≡ s.columns
  pub lines : lines_in (count r) r.lines ≡ lines_in (count s) s.lines
  pub tables : EqualTables r s

-- undamaged means that no place differs from a rectangle written; the lengths are those that refusals 5 and 6 ask for
pub record Undamaged (r : Rectangle) : Type 0 where
  pub line_bytes : holds (count r) r.lines ≡ true
  pub table_bytes : tables_fit r.rows r.columns r.row_table r.column_table ≡ true
  pub written : Rectangle
  pub whole : Written written
  pub alike : Alike r written

-- no number stands twice
abbrev pub Distinct : List ℕ → Type 0
Distinct [] = Unit {0}
Distinct (n ∷ ns) = (n ∈ ns → ⊥) × Distinct ns

module _ (written received : Rectangle) where
  -- the number of damaged bits of line n, and whether it is damaged at a place
  abbrev pub damage : ℕ → ℕ
  damage n = distance (places_at written.lines n) (places_at received.lines n)

  abbrev pub damaged_at : ℕ → ℕ → Bool
  damaged_at n place = get_or (places_at written.lines n ⊕ places_at received.lines n) place false

  -- the number of damaged bits of the parity line of row k, and of column k
  abbrev pub row_damage : ℕ → ℕ
  row_damage k = distance (places_at written.row_table k) (places_at received.row_table k)

  abbrev pub column_damage : ℕ → ℕ
  column_damage k = distance (places_at written.column_table k) (places_at received.column_table k)

  -- the row or the column of line n, given as the number that each line has of it, holds no other line left
  abbrev pub Alone : (ℕ → ℕ) → ℕ → List ℕ → Type 0
  Alone group_of n later = (m : ℕ) → m ∈ later → group_of m ≡ group_of n → ⊥

  -- line n has exactly two damaged bits, its row or column holds exactly one other line left, and that one has at most four
  -- damaged bits and is undamaged at one of these two places or both
  pub record Paired (group_of : ℕ → ℕ) (n : ℕ) (later : List ℕ) : Type 0 where
    pub two : damage n ≡ 2
    pub other : ℕ
    pub left : other ∈ later
    pub together : group_of other ≡ group_of n
    pub no_third : (m : ℕ) → m ∈ later → group_of m ≡ group_of n → m ≡ other
    pub four : damage other ≤ 4
    pub place : ℕ
    pub hurt : damaged_at n place ≡ true
    pub unhurt : damaged_at other place ≡ false

  abbrev pub Turn : (ℕ → ℕ) → ℕ → List ℕ → Type 0
  Turn group_of n later = Alone group_of n later ⊎ Paired group_of n later

  -- at a line's turn, in its row or in its column if that one counts, those before it count as whole, it and those after it are left
  abbrev pub TurnsAmong : (ℕ → Type 0) → (ℕ → Type 0) → List ℕ → Type 0
  TurnsAmong RowCounts ColumnCounts [] = Unit {0}
  TurnsAmong RowCounts ColumnCounts (n ∷ later) =
      ((RowCounts (n / written.columns) × Turn (λ m. m / written.columns) n later)
      ⊎ (ColumnCounts (n % written.columns) × Turn (λ m. m % written.columns) n later))
      × TurnsAmong RowCounts ColumnCounts later

  -- request Q-3: "only groups whose parity line has at most one count in the order"
  abbrev pub Turns : List ℕ → Type 0
  Turns = TurnsAmong (λ k. row_damage k ≤ 1) (λ k. column_damage k ≤ 1)

  -- what is handed to repair has the rows and columns written, and the lengths that refusals 5 and 6 ask for
  pub record SameShape : Type 0 where
    pub rows : received.rows ≡ written.rows
    pub columns : received.columns ≡ written.columns
    pub line_bytes : holds (count received) received.lines ≡ true
    pub table_bytes : tables_fit received.rows received.columns received.row_table received.column_table ≡ true

  -- the bounds that demand 3 sets to damage, whatever the order: no line has more than five damaged bits, and by request Q-3 no parity
  -- line has
  pub record WithinBounds : Type 0 where
    pub shape : SameShape
    pub five : (n : ℕ) → n < count written → damage n ≤ 5
    pub row_five : (k : ℕ) → k < written.rows → row_damage k ≤ 5
    pub column_five : (k : ℕ) → k < written.columns → column_damage k ≤ 5

  -- in the order stands each line with two or more damaged bits, once, and no other line
  pub record Order (TurnsOf : List ℕ → Type 0) : Type 0 where
    pub order : List ℕ
    pub once : Distinct order
    pub each : (n : ℕ) → n < count written → 2 ≤ damage n → n ∈ order
    pub no_other : (n : ℕ) → n ∈ order → (n < count written) × (2 ≤ damage n)
    pub turns : TurnsOf order

  -- damaged so, as demand 3 asks
  pub record DamagedSo : Type 0 where
    pub bounds : WithinBounds
    pub ordered : Order Turns

-- ---- Demand 3: "For every rectangle written, whatever bits were damaged since: if .. then repair answers 0 and returns exactly
-- the rectangle written, byte for byte.", its tables too
pub record Returned (written : Rectangle) (given : StoreRepaired) : Type 0 where
  pub answer : given.answer ≡ 0
  pub lines : given.lines ≡ written.lines
  pub row_table : given.row_table ≡ written.row_table
  pub column_table : given.column_table ≡ written.column_table

abbrev pub ExactReturn : Type 0
ExactReturn =
    (written received : Rectangle) → Written written → DamagedSo written received → (b : Buffers) → Room received b
    → Returned written (repair_of received b)

-- the hypothesis can be met, with lines that differ and a trial that is needed: the first line of the order has its turn by trial,
-- and is not the only one left in its row or in its column; that row's parity line is hurt, and some column is unusable
pub record HypothesisMet : Type 0 where
  pub written : Rectangle
  pub received : Rectangle
  pub whole : Written written
  pub damaged : DamagedSo written received
  pub differ : lines_in (count written) written.lines ≡ lines_in (count received) received.lines → ⊥
  pub first : ℕ
  pub later : List ℕ
  pub order : damaged.ordered.order ≡ first ∷ later
  pub trial : Paired written received (λ m. m / written.columns) first later
  pub not_in_row : Alone written received (λ m. m / written.columns) first later → ⊥
  pub not_in_column : Alone written received (λ m. m % written.columns) first later → ⊥
  pub hurt : row_damage written received (first / written.columns) ≡ 1
  pub lost : ℕ
  pub inside : lost < written.columns
  pub faulty : unusable line_layer (column_group received.rows received.columns received.column_table lost) ≡ true

-- ---- Document 00: "A missing caption I can cover with a spoken cue to the ushers; a caption mended into the wrong words stands there
-- as the play."
-- a parity line handed over, of so many in a table, is the one written; only where lines are left faulty it may be as found, spare bits
-- 0, and then it has two or more damaged bits
abbrev pub ParityNotWrong : ℕ → ℕ → List ℕ → List ℕ → List ℕ → Type 0
ParityNotWrong answer total written received given =
    (k : ℕ) → k < total
    → (bytes_at given k ≡ bytes_at written k)
    ⊎ ((answer ≡ 11) × (bytes_at given k ≡ line_of (places_at received k)) × (2 ≤ distance (places_at written k) (places_at received k)))

-- a line with another mark than 4 is the line written (a mark left out would be a 0); one with mark 4 is as found, spare bits 0, and
-- has two or more damaged bits; and answer 12, which says that some line is wrong, is never given
pub record NoneWrong (written received : Rectangle) (given : StoreRepaired) : Type 0 where
  pub answers : (given.answer ≡ 0) ⊎ (given.answer ≡ 11)
  pub as_written : (n : ℕ) → n < count written → (get_or given.marks n 0 ≡ 4 → ⊥)
      → bytes_at given.lines n ≡ bytes_at written.lines n
  pub as_found : (n : ℕ) → n < count written → get_or given.marks n 0 ≡ 4
      → bytes_at given.lines n ≡ line_of (places_at received.lines n)
  pub damaged : (n : ℕ) → n < count written → get_or given.marks n 0 ≡ 4 → 2 ≤ damage written received n
  pub row_table : ParityNotWrong given.answer written.rows written.row_table received.row_table given.row_table
  pub column_table : ParityNotWrong given.answer written.columns written.column_table received.column_table given.column_table

-- within the bounds, and whatever the order
abbrev pub NoWrongLine : Type 0
NoWrongLine =
    (written received : Rectangle) → Written written → WithinBounds written received → (b : Buffers) → Room received b
    → NoneWrong written received (repair_of received b)

-- ---- Demand 3: "No two different rectangles written, each damaged so in its own way, look alike in lines and tables."
abbrev pub NotAlike : Type 0
NotAlike =
    (one two received received' : Rectangle) → Written one → Written two → DamagedSo one received → DamagedSo two received'
    → Alike received received' → one ≡ two

-- ---- Demand 3: "Any two undamaged rectangles of the same rows and columns with equal tables are equal or differ in at least four
-- lines, each in at least eight bits."
pub record FourLinesApart (one two : Rectangle) : Type 0 where
  pub differing : List ℕ
  pub distinct : Distinct differing
  pub four : 4 ≤ length differing
  pub differ : (n : ℕ) → n ∈ differing → (n < count one) × (places_at one.lines n ≡ places_at two.lines n → ⊥)
  pub eight : (n : ℕ) → n < count one → (places_at one.lines n ≡ places_at two.lines n → ⊥)
      → 8 ≤ distance (places_at one.lines n) (places_at two.lines n)

abbrev pub EqualOrFourLines : Type 0
EqualOrFourLines =
    (one two : Rectangle) → Undamaged one → Undamaged two → one.rows ≡ two.rows → one.columns ≡ two.columns
    → EqualTables one two → Alike one two ⊎ FourLinesApart one two

-- ---- Document 01: "On a rectangle that agrees with its tables (every line reads alone as accepted, and each parity line has the
-- places of the one made from the lines so read) this equals tables made anew, place by place."
pub record Agrees (r : Rectangle) : Type 0 where
  pub sides : sides_fit r.rows r.columns ≡ true
  pub line_bytes : holds (count r) r.lines ≡ true
  pub table_bytes : tables_fit r.rows r.columns r.row_table r.column_table ≡ true
  pub accepted : (n : ℕ) → n < count r → accepted_at r.lines n ≡ true
  pub row_table : (k : ℕ) → k < r.rows → places_at r.row_table k ≡ row_parity r.columns r.lines k
  pub column_table : (k : ℕ) → k < r.columns → places_at r.column_table k ≡ column_parity r.rows r.columns r.lines k

-- the rectangle as a change leaves it
unfoldable pub changed : Rectangle → ℕ → List ℕ → Rectangle
changed r n payload =
    record {
      rows = r.rows;
      columns = r.columns;
      lines = (change_in r n payload).lines;
      row_table = (change_in r n payload).row_table;
      column_table = (change_in r n payload).column_table;
    }

-- a change is made, its tables have the places of those made anew from its lines, and the rectangle still agrees with them
pub record ChangedAsAnew (r : Rectangle) (n : ℕ) (payload old_rows old_columns : List ℕ) : Type 0 where
  pub answers : (change_in r n payload).answer ≡ 0
  pub made : (tables_for (changed r n payload) old_rows old_columns).answer ≡ 0
  pub row_table : lines_in r.rows (change_in r n payload).row_table
      ≡ lines_in r.rows (tables_for (changed r n payload) old_rows old_columns).row_table
  pub column_table : lines_in r.columns (change_in r n payload).column_table
      ≡ lines_in r.columns (tables_for (changed r n payload) old_rows old_columns).column_table
  pub agrees : Agrees (changed r n payload)

abbrev pub ChangeEqualsTablesAnew : Type 0
ChangeEqualsTablesAnew =
    (r : Rectangle) → Agrees r → (n : ℕ) (payload : List ℕ) → n < count r → length payload ≡ data_bytes
    → (old_rows old_columns : List ℕ) → tables_fit r.rows r.columns old_rows old_columns ≡ true
    → ChangedAsAnew r n payload old_rows old_columns
