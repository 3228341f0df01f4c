-- What a visit of one group asks of a line and a mark buffer, and what it makes of them, whatever bytes they hold.
use Rattle.std.specs.Prelude.{◌≡◌, ◌⊎◌, List, map, ℕ, ◌*◌, ◌<◌, length, get_or}
use Rattle.linecode.specs.Places.{places, line_of}
use Rattle.linecode.specs.Code.{up_from}
use Rattle.scheme.specs.Layer.{Cell}
use Rattle.scheme.specs.Visit.{Group, State}
use Rattle.rectangle.specs.Store.{bytes_at, places_at, stride}
use Rattle.groups.specs.Lent.{Inside}

-- line n and its mark, as they stand in the buffers
abbrev pub cell_in : List ℕ → List ℕ → ℕ → Cell
cell_in out marks n = record { line = places_at out n; mark = get_or marks n 0 }

-- the store that they hold
unfoldable pub store_in : List ℕ → List ℕ → State
store_in out marks = map (cell_in out marks) (up_from 0 (length marks))

-- a group of so many lines, from the first on at equal steps, inside two buffers that hold as many lines as marks
pub record Lent (out marks : List ℕ) (first step count : ℕ) : Type 0 where
  pub room : length out ≡ length marks * 70
  pub inside : Inside first step count (length marks)

-- the group with its parity line
abbrev pub group_at : ℕ → ℕ → ℕ → List ℕ → Group
group_at first step count parity = record { members = stride first step count; parity = places parity }

-- line n keeps its bytes and its mark
pub record Untouched (out marks out' marks' : List ℕ) (n : ℕ) : Type 0 where
  pub bytes : bytes_at out' n ≡ bytes_at out n
  pub mark : get_or marks' n 0 ≡ get_or marks n 0

-- line n was faulty and is mended: it is written with spare bits 0
pub record Mended (out marks out' marks' : List ℕ) (n : ℕ) : Type 0 where
  pub was : get_or marks n 0 ≡ 4
  pub is : get_or marks' n 0 < 4
  pub bytes : bytes_at out' n ≡ line_of (places_at out' n)

-- every line that is not mended keeps its bytes, spare bits too
abbrev pub MendedAlone : List ℕ → List ℕ → List ℕ → List ℕ → Type 0
MendedAlone out marks out' marks' = (n : ℕ) → n < length marks → Untouched out marks out' marks' n ⊎ Mended out marks out' marks' n

-- the store in the buffers becomes f of it, and nothing else of them changes
pub record Becomes (f : State → State) (out marks out' marks' : List ℕ) : Type 0 where
  pub store : store_in out' marks' ≡ f (store_in out marks)
  pub bytes : MendedAlone out marks out' marks'
