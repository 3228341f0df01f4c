-- What reading and handing over the parity lines ask of lent buffers, and what they make of the tables in them; for groups of any
-- direction.
use Rattle.std.specs.Prelude.{◌≡◌, true, cond, List, ℕ, ◌+◌, ◌<◌, get_or}
use Rattle.gf2.specs.Word.{Word, zeros}
use Rattle.linecode.specs.Places.{line_places, line_of}
use Rattle.linecode.specs.Entry.{reading}
use Rattle.scheme.specs.Visit.{Group, State, line_at, sum}
use Rattle.scheme.specs.Parity.{read_parity, unusable}
use Rattle.rectangle.specs.Store.{line_layer, bytes_at, places_at}

-- what a group's difference starts from: its parity line as read, or zeros where that is faulty
unfoldable pub start_of : Group → Word
start_of g = cond (unusable line_layer g) (zeros line_places) (read_parity line_layer g).line

-- a table has the parity lines of some groups, the first of them as line 0
abbrev pub ParitiesIn : List ℕ → ℕ → (ℕ → Group) → Type 0
ParitiesIn table total g = (k : ℕ) → k < total → (g k).parity ≡ places_at table k

-- the parity lines of some groups are read, the first of them as group b in visiting order: their differences start in their own table,
-- and their marks are kept; those of the groups before stay
pub record Started (g : ℕ → Group) (b total : ℕ) (lacks parity_marks₀ parity_marks : List ℕ) : Type 0 where
  pub starts : (k : ℕ) → k < total → bytes_at lacks k ≡ line_of (start_of (g k))
  pub marked : (k : ℕ) → k < total → get_or parity_marks (b + k) 0 ≡ (read_parity line_layer (g k)).mark
  pub before : (k : ℕ) → k < b → get_or parity_marks k 0 ≡ get_or parity_marks₀ k 0

-- from number b on stand the marks with which a table's parity lines read alone
abbrev pub MarksOf : List ℕ → ℕ → ℕ → List ℕ → Type 0
MarksOf table b total parity_marks = (k : ℕ) → k < total → get_or parity_marks (b + k) 0 ≡ (reading (bytes_at table k)).mark

-- the difference of each unusable group is the sum of its lines
abbrev pub Fresh : (ℕ → Group) → ℕ → List ℕ → State → Type 0
Fresh g total lacks s =
    (k : ℕ) → k < total → unusable line_layer (g k) ≡ true → bytes_at lacks k ≡ line_of (sum (line_at s) (g k).members)
