-- Request Q-1, "Damage in the Hamming bits was invisible": what the marks that repair gives tell, and that nothing else moved.
use Rattle.std.specs.Prelude.{◌≡◌, ◌⊎◌, ◌↔◌, true, List, ℕ, ◌≤◌, ◌<◌, length, get_or}
use Rattle.gf2.specs.Word.{distance}
use Rattle.scheme.specs.Layer.{CorrectLine, read_line}
use Rattle.scheme.specs.Visit.{is_faulty}
use Rattle.rectangle.specs.Store.{line_layer, places_at, alone_at}
use Rattle.rectangle.specs.Before.{layer_before}
use Rattle.rectangle.specs.Refusals.{accepted_at}
use Rattle.rectangle.specs.Repair.{Buffers, StoreRepaired, hands_over, repair_by}
use Rattle.demands.specs.Demands.{Rectangle, count, repair_of}

-- ---- "Reading alone now says whether any of the 553 places was rewritten, and mark 1 means an accepted line that was rewritten anywhere.
-- Mark 0 is left for lines correct as found."
-- what the mark of line n tells (a mark left out would be a 4)
pub record MarkTells (r : Rectangle) (given : StoreRepaired) (n : ℕ) : Type 0 where
  pub clean : (get_or given.marks n 4 ≡ 0) ↔ CorrectLine line_layer n (places_at r.lines n)
  pub rewritten : (get_or given.marks n 4 ≡ 1)
      ↔ ((accepted_at r.lines n ≡ true) × (1 ≤ distance (places_at r.lines n) (places_at given.lines n)))

abbrev pub MarksTellDamage : Type 0
MarksTellDamage =
    (r : Rectangle) (b : Buffers) → hands_over (repair_of r b).answer ≡ true
    → (n : ℕ) → n < count r → MarkTells r (repair_of r b) n

-- ---- "bytes, passes and answers are compared as before."
-- a line reads alone as the same line, and is faulty where it was: making tables and changing a line take no more from a reading
abbrev pub LinesReadAsBefore : Type 0
LinesReadAsBefore =
    (lines : List ℕ) (n : ℕ) → let before = read_line layer_before n (places_at lines n) in
    (before.line ≡ (alone_at lines n).line) × (is_faulty before ≡ is_faulty (alone_at lines n))

-- repair with the reading of before
unfoldable pub repair_before : Rectangle → Buffers → StoreRepaired
repair_before r b =
    repair_by layer_before r.rows r.columns r.lines r.row_table r.column_table
    b.lines b.marks b.row_table b.column_table

-- the same answer, passes and bytes of lines and tables; as many marks, each the same, or 0 or 1 then and now, so that marks 2, 3 and 4 are
-- as before
pub record SameButMarks (before now : StoreRepaired) : Type 0 where
  pub answer : before.answer ≡ now.answer
  pub passes : before.passes ≡ now.passes
  pub lines : before.lines ≡ now.lines
  pub row_table : before.row_table ≡ now.row_table
  pub column_table : before.column_table ≡ now.column_table
  pub count : length before.marks ≡ length now.marks
  pub marks : (n : ℕ) → (get_or before.marks n 0 ≡ get_or now.marks n 0)
      ⊎ ((get_or before.marks n 0 ≤ 1) × (get_or now.marks n 0 ≤ 1))

abbrev pub RepairedAsBefore : Type 0
RepairedAsBefore = (r : Rectangle) (b : Buffers) → SameButMarks (repair_before r b) (repair_of r b)
