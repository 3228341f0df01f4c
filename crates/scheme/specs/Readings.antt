-- Request Q-1: "bytes, passes and answers are compared as before". What repair does depends on a reading's line and on whether it is
-- faulty, and not on which mark an accepted line has; for any two layers that agree and any list of groups.
use Rattle.std.specs.Prelude.{◌≡◌, ◌⊎◌, List, map, ℕ, ◌≤◌}
use Rattle.gf2.specs.Word.{Word}
use Rattle.scheme.specs.Layer.{Cell, Reading, Layer, read_line}
use Rattle.scheme.specs.Visit.{Group, cell_at}
use Rattle.scheme.specs.Repair.{Repaired, repair, lines_of, answer}
use Rattle.scheme.specs.Parity.{as_read, parity_after}

-- two cells that agree in line and faultiness: their marks are the same, or both those of an accepted reading
pub record SameButMark (c d : Cell) : Type 0 where
  pub line : c.line ≡ d.line
  pub mark : (c.mark ≡ d.mark) ⊎ ((c.mark ≤ 1) × (d.mark ≤ 1))

-- two readings that give such cells, whatever they read
abbrev pub Agreeing : Reading → Reading → Type 0
Agreeing one two = (n : ℕ) (found : Word) → SameButMark (one n found) (two n found)

-- two layers that give each line the same address and read so
pub record AgreeingLayers (one two : Layer) : Type 0 where
  pub address : one.address ≡ two.address
  pub read : Agreeing one.read two.read

-- what repair gives with both: the same lines, passes, answer and parity lines, and marks 2, 3 and 4 the same
pub record SameRepair (one two : Layer) (gs : List Group) (first second : Repaired) : Type 0 where
  pub lines : lines_of first.cells ≡ lines_of second.cells
  pub marks : (n : ℕ) → SameButMark (cell_at first.cells n) (cell_at second.cells n)
  pub passes : first.passes ≡ second.passes
  pub answers : answer (map (as_read one) gs) first.cells ≡ answer (map (as_read two) gs) second.cells
  pub parities : (g : Group) → parity_after one first.cells g ≡ parity_after two second.cells g

-- of two layers that agree so, repair gives the same
abbrev pub AcceptedMarksDecideNothing : Type 1
AcceptedMarksDecideNothing =
    (one two : Layer) → AgreeingLayers one two → (gs : List Group) (found : List Word)
    → SameRepair one two gs (repair (read_line one) (map (as_read one) gs) found) (repair (read_line two) (map (as_read two) gs) found)
