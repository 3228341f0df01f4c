-- Document 01, "Repair": one mark for each line, and the marks are 0 to 4; request Q-1: what marks 0 and 1 tell. For any layer and any
-- list of groups.
use Rattle.std.specs.Prelude.{◌≡◌, ◌↔◌, List, [], ℕ, ◌≤◌, ◌<◌, length, get_or}
use Rattle.gf2.specs.Word.{Word, distance}
use Rattle.scheme.specs.Layer.{Cell, Layer, read_line}
use Rattle.scheme.specs.Visit.{Group, cell_at}
use Rattle.scheme.specs.Repair.{repair, marks_of}

-- as many marks as lines, each one of 0 to 4
pub record LineMarks (lines : ℕ) (marks : List ℕ) : Type 0 where
  pub each : length marks ≡ lines
  pub high : (n : ℕ) → n < length marks → get_or marks n 0 ≤ 4

-- the marks that repair gives
abbrev pub RepairMarks : Layer → Type 0
RepairMarks layer =
    (gs : List Group) (found : List Word) → LineMarks (length found) (marks_of (repair (read_line layer) gs found).cells)

-- ---- Request Q-1: "mark 1 means an accepted line that was rewritten anywhere. Mark 0 is left for lines correct as found."
-- what the mark that is given tells of a line found: 0 exactly if it is correct; 1 exactly if it is accepted where it is read alone and
-- the line given differs from it in some place
pub record MarkTells (layer : Layer) (address : ℕ) (found : Word) (given : Cell) : Type 0 where
  pub clean : (given.mark ≡ 0) ↔ layer.Correct address found
  pub rewritten : (given.mark ≡ 1) ↔ (((layer.read address found).mark ≡ 4 → ⊥) × (1 ≤ distance found given.line))

-- the marks of reading alone: a promise of the layer apart from those that repair relies on
abbrev pub MarksTell : Layer → Type 0
MarksTell layer =
    (address : ℕ) (found : Word) → length found ≡ layer.width → MarkTells layer address found (layer.read address found)

-- and so the marks that repair gives
abbrev pub RepairMarksTell : Layer → Type 0
RepairMarksTell layer =
    (gs : List Group) (found : List Word) (n : ℕ) → n < length found → length (get_or found n []) ≡ layer.width
    → MarkTells layer (layer.address n) (get_or found n []) (cell_at (repair (read_line layer) gs found).cells n)
