-- Document 01, "Repair": "An accepted line is never altered later.", and a line that is faulty to the end is left as it was;
-- one that was faulty and is no longer was mended by trial or rebuilt.
use Rattle.std.specs.Prelude.{◌≡◌, List, ℕ, ◌≤◌}
use Rattle.scheme.specs.Layer.{Reading}
use Rattle.scheme.specs.Visit.{Group, State, cell_at, visit}
use Rattle.scheme.specs.Repair.{pass, passes_from}

-- what holds between a store and what becomes of it, line by line, marks too
pub record Stays (before after : State) : Type 0 where
  pub accepted : (n : ℕ) → ((cell_at before n).mark ≡ 4 → ⊥) → cell_at after n ≡ cell_at before n
  pub faulty : (n : ℕ) → (cell_at after n).mark ≡ 4 → cell_at after n ≡ cell_at before n
  -- a line that was faulty is mended by trial or rebuilt, or still faulty: its mark is 2 or more (`RepairMarks`: at most 4)
  pub mended : (n : ℕ) → (cell_at before n).mark ≡ 4 → 2 ≤ (cell_at after n).mark

-- by a visit, by a pass and by all passes, whenever the line was accepted
pub record NeverAltered : Type 0 where
  pub by_visit : (read : Reading) (g : Group) (s : State) → Stays s (visit read g s)
  pub by_pass : (read : Reading) (gs : List Group) (s : State) → Stays s (pass read gs s)
  pub by_passes : (read : Reading) (gs : List Group) (s : State) → Stays s (passes_from read gs s).cells
