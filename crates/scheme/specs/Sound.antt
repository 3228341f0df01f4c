-- What repair leaves of any lines and parity lines found, however damaged: lines with another mark than 4 are correct lines, and where no
-- line is left faulty parity lines are too. For any layer and any list of groups.
use Rattle.std.specs.Prelude.{◌≡◌, List, map, ℕ, ◌<◌, length}
use Rattle.gf2.specs.Word.{Word}
use Rattle.scheme.specs.Layer.{Layer, read_line, CorrectLine, parity_address}
use Rattle.scheme.specs.Visit.{Group, State, cell_at, line_at}
use Rattle.scheme.specs.Repair.{faulty_count, repair}
use Rattle.scheme.specs.Parity.{as_read, parity_after}
use Rattle.scheme.specs.Demand3.{◌∈◌, RisingGroups, word_at}

-- what is asked of the lines and groups found: all of them have all places, and each group holds some of the lines, in rising order
pub record AllPlaces (layer : Layer) (gs : List Group) (found : List Word) : Type 0 where
  pub lines : (n : ℕ) → n < length found → length (word_at found n) ≡ layer.width
  pub parities : (g : Group) → g ∈ gs → length g.parity ≡ layer.width
  pub rising : RisingGroups gs
  pub inside : (g : Group) → g ∈ gs → (n : ℕ) → n ∈ g.members → n < length found

-- a store of so many lines: each is a correct line or has mark 4
abbrev pub SoundLines : Layer → ℕ → State → Type 0
SoundLines layer count s = (n : ℕ) → n < count → ((cell_at s n).mark ≡ 4 → ⊥) → CorrectLine layer n (line_at s n)

-- where none of them is faulty, the parity line of each group that has lines is correct (a parity line of no lines has no places)
abbrev pub SoundParities : Layer → List Group → State → Type 0
SoundParities layer gs s =
    faulty_count s ≡ 0 → (g : Group) → g ∈ gs → (n : ℕ) → n ∈ g.members
    → layer.Correct (parity_address layer g.members) (parity_after layer s g)

-- so repair leaves any lines and groups found
pub record RepairSound (layer : Layer) : Type 0 where
  pub lines : (gs : List Group) (found : List Word) → AllPlaces layer gs found
      → SoundLines layer (length found) (repair (read_line layer) (map (as_read layer) gs) found).cells
  pub parities : (gs : List Group) (found : List Word) → AllPlaces layer gs found
      → SoundParities layer gs (repair (read_line layer) (map (as_read layer) gs) found).cells
