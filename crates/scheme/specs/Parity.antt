-- Request Q-3, "Parity lines in the same magnetic cells": repair reads every parity line alone first. For any layer and any list of
-- groups, whatever their direction.
use Rattle.std.specs.Prelude.{◌≡◌, Bool, true, false, cond, ◌&&◌, List, [], ◌∷◌, ◌++◌, eqb, length}
use Rattle.gf2.specs.Word.{Word}
use Rattle.scheme.specs.Layer.{Cell, Reading, Layer, parity_address, Promises}
use Rattle.scheme.specs.Visit.{Group, State, line_at, is_faulty, sum, visit}
use Rattle.scheme.specs.Repair.{pass, faulty_count}

-- a group's parity line, read alone under its lines' addresses together
abbrev pub read_parity : Layer → Group → Cell
read_parity layer g = layer.read (parity_address layer g.members) g.parity

-- "a faulty one makes its group unusable"
unfoldable pub unusable : Layer → Group → Bool
unusable layer g = is_faulty (read_parity layer g)

-- "and its visits do nothing": it counts as a group without lines, which agrees with any parity line and keeps its turn
abbrev pub no_lines : Group
no_lines = record { members = []; parity = [] }

-- "An accepted one is used as read"
unfoldable pub as_read : Layer → Group → Group
as_read layer g =
    cond (unusable layer g) no_lines (record { members = g.members; parity = (read_parity layer g).line })

-- "accepted ones as read, faulty ones as found unless made afresh" (a faulty one reads as found), and "When no line is left faulty,
-- unusable parity lines are made afresh."
unfoldable pub parity_after : Layer → State → Group → Word
parity_after layer s g =
    let afresh = sum (line_at s) g.members in
    cond (unusable layer g && eqb (faulty_count s) 0) afresh (read_parity layer g).line

-- ---- what that comes to, for any group
-- "its visits do nothing": the visit of an unusable group leaves every store as it is, and so a pass is that over the other groups
pub record UnusableIdle : Type 1 where
  pub by_visit : (layer : Layer) (g : Group) → unusable layer g ≡ true → (read : Reading) (s : State) → visit read (as_read layer g) s ≡ s
  pub by_pass : (layer : Layer) (g : Group) → unusable layer g ≡ true → (read : Reading) (before after : List Group) (s : State)
      → pass read (before ++ as_read layer g ∷ after) s ≡ pass read (before ++ after) s

-- how a group is used, and how its parity line is left
pub record ParityLine (layer : Layer) (g : Group) : Type 0 where
  pub used : unusable layer g ≡ false → as_read layer g ≡ record { members = g.members; parity = (read_parity layer g).line }
  pub accepted : unusable layer g ≡ false → (s : State) → parity_after layer s g ≡ (read_parity layer g).line
  pub as_found : unusable layer g ≡ true → (s : State) → (faulty_count s ≡ 0 → ⊥) → parity_after layer s g ≡ g.parity
  pub afresh : unusable layer g ≡ true → (s : State) → faulty_count s ≡ 0 → parity_after layer s g ≡ sum (line_at s) g.members

-- with any line code that keeps the promises, for a parity line of all places
abbrev pub ParityLines : Type 1
ParityLines = (layer : Layer) → Promises layer → (g : Group) → length g.parity ≡ layer.width → ParityLine layer g
