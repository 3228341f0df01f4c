-- What the steps of repair ask of lent buffers, and what they make of the store and the tables in them.
use Rattle.std.specs.Prelude.{◌≡◌, cond, List, map, ℕ, ◌+◌, ◌*◌, ◌<◌, eqb, get_or}
use Rattle.gf2.specs.Word.{Word, ◌⊕◌}
use Rattle.linecode.specs.Places.{line_of}
use Rattle.linecode.specs.Code.{up_from}
use Rattle.scheme.specs.Layer.{read_line}
use Rattle.scheme.specs.Visit.{Group, State, line_at, sum}
use Rattle.scheme.specs.Repair.{read_all, passes_from, answer}
use Rattle.scheme.specs.Parity.{no_lines}
use Rattle.rectangle.specs.Store.{line_layer, bytes_at, lines_in}
use Rattle.groups.specs.Lent.{Holding, members_of, group_of, Carried, Makes}

-- group k as it is visited: without lines where its parity line is marked faulty
unfoldable pub used_group : ℕ → ℕ → List ℕ → (ℕ → Word) → ℕ → Group
used_group rows columns parity_marks parity k = cond (eqb (get_or parity_marks k 0) 4) no_lines (group_of rows columns parity k)

-- all groups, in visiting order
unfoldable pub all_groups : ℕ → ℕ → List ℕ → (ℕ → Word) → List Group
all_groups rows columns parity_marks parity = map (used_group rows columns parity_marks parity) (up_from 0 (rows + columns))

-- whatever store the buffers hold before, they hold what the passes make of it after, and n is the number of passes
pub record RanPasses (rows columns : ℕ) (parity_marks out marks lacks faulty out' marks' lacks' faulty' : List ℕ) (n : ℕ) : Type 0 where
  pub cells : Makes rows columns out marks lacks faulty out' marks' lacks' faulty'
      (λ parity s. (passes_from (read_line line_layer) (all_groups rows columns parity_marks parity) s).cells)
  pub passes : (parity : ℕ → Word) (s : State) → Carried rows columns parity out marks lacks faulty s
      → n ≡ (passes_from (read_line line_layer) (all_groups rows columns parity_marks parity) s).passes

-- the lines found, read and passed over, stand in the buffers with their marks; the answer and the number of passes are theirs, and so
-- are the differences
pub record Finished (rows columns : ℕ) (parity_marks : List ℕ) (parity : ℕ → Word) (found out marks lacks : List ℕ)
    (answered passed : ℕ) : Type 0 where
  pub cells : State
  pub ran : passes_from (read_line line_layer) (all_groups rows columns parity_marks parity)
      (read_all (read_line line_layer) 0 (lines_in (rows * columns) found))
      ≡ record { cells = cells; passes = passed }
  pub held : Holding out marks cells
  pub answers : answered ≡ answer (all_groups rows columns parity_marks parity) cells
  pub differences : (k : ℕ) → k < rows + columns
      → bytes_at lacks k ≡ line_of (sum (line_at cells) (members_of rows columns k) ⊕ parity k)
