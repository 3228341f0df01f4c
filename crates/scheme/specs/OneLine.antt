-- Request Q-4, "One caption wanted during the show": how much of repair decides one line. For any line code and any list of groups.
use Rattle.std.specs.Prelude.{◌≡◌, List, ◌∷◌, ◌++◌, ℕ, length}
use Rattle.scheme.specs.Layer.{Reading}
use Rattle.scheme.specs.Visit.{Group, State, cell_at, visit}
use Rattle.scheme.specs.Repair.{pass, passes_from}
use Rattle.scheme.specs.Demand3.{◌∈◌}

-- two stores of as many lines have the same lines and marks in a group
pub record AlikeIn (g : Group) (s t : State) : Type 0 where
  pub count : length s ≡ length t
  pub cells : (n : ℕ) → n ∈ g.members → cell_at s n ≡ cell_at t n

-- a group shares no line with some others
abbrev pub SharesNone : Group → List Group → Type 0
SharesNone g gs = (h : Group) → h ∈ gs → (n : ℕ) → n ∈ g.members → n ∈ h.members → ⊥

-- a visit is the affair of its group: it leaves all other lines as they are, and what it makes of its own depends on them alone
pub record VisitLocal : Type 0 where
  pub others : (read : Reading) (g : Group) (s : State) (n : ℕ) → (n ∈ g.members → ⊥) → cell_at (visit read g s) n ≡ cell_at s n
  pub own : (read : Reading) (g : Group) (s t : State) → AlikeIn g s t → AlikeIn g (visit read g s) (visit read g t)
  -- "as repair does": groups visited before it that share no line with it change nothing of its visit
  pub in_pass : (read : Reading) (before : List Group) (g : Group) (s : State) → SharesNone g before
      → AlikeIn g (visit read g (pass read before s)) (visit read g s)

-- "It stops as soon as the line is whole": a line not faulty by then has what all passes give it
pub record StopsEarly : Type 0 where
  -- "reads it alone"
  pub alone : (read : Reading) (gs : List Group) (s : State) (n : ℕ) → ((cell_at s n).mark ≡ 4 → ⊥)
      → cell_at (passes_from read gs s).cells n ≡ cell_at s n
  -- "then makes its row's visit as repair does": straight from the first reading
  pub by_visit : (read : Reading) (before : List Group) (g : Group) (after : List Group) (s : State) (n : ℕ) → SharesNone g before
      → n ∈ g.members → ((cell_at (visit read g s) n).mark ≡ 4 → ⊥)
      → cell_at (passes_from read (before ++ g ∷ after) s).cells n ≡ cell_at (visit read g s) n
