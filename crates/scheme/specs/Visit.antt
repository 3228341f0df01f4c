-- A visit of one group, as document 01 words it under "Repair".
use Rattle.std.specs.Prelude.{Bool, true, false, not, cond, ◌&&◌, List, [], ◌∷◌, ℕ, suc, eqb, leb, length, get_or, set}
use Rattle.gf2.specs.Word.{Word, ◌⊕◌, flip}
use Rattle.scheme.specs.Layer.{Cell, Reading}

-- a row or a column: the numbers of its lines, rising, and its parity line
pub record Group : Type 0 where
  pub members : List ℕ
  pub parity : Word

-- the store under repair: its lines with their marks
abbrev pub State : Type 0
State = List Cell

-- line n with its mark; past the end stands an accepted line
abbrev pub cell_at : State → ℕ → Cell
cell_at s n = get_or s n (record { line = []; mark = 0 })

-- line n as it stands
abbrev pub line_at : State → ℕ → Word
line_at s n = (cell_at s n).line

-- the mark of a faulty line
abbrev pub is_faulty : Cell → Bool
is_faulty c = eqb c.mark 4

-- those that pass a test, in their order
abbrev pub select : {A : Type 0} → (A → Bool) → List A → List A
select test [] = []
select test (a ∷ l) = let rest = select test l in cond (test a) (a ∷ rest) rest

-- a group's faulty lines
abbrev pub faulty_of : State → List ℕ → List ℕ
faulty_of s members = select (λ n. is_faulty (cell_at s n)) members

-- a group's lines other than line n
abbrev pub without : ℕ → List ℕ → List ℕ
without n members = select (λ m. not (eqb m n)) members

-- the exclusive or of some lines
abbrev pub sum : (ℕ → Word) → List ℕ → Word
sum line [] = []
sum line (n ∷ ns) = line n ⊕ sum line ns

-- rebuilding: line n becomes the exclusive or of the parity line and the group's other lines
unfoldable pub rebuild : Group → State → ℕ → State
rebuild g s n = set s n (record { line = g.parity ⊕ sum (line_at s) (without n g.members); mark = 3 })

-- of a group's faulty lines, exactly one is rebuilt
abbrev pub rebuild_only : Group → State → List ℕ → State
rebuild_only g s [] = s
rebuild_only g s (n ∷ []) = rebuild g s n
rebuild_only g s (n ∷ m ∷ ns) = s

-- if exactly one line of the group is faulty, it is rebuilt
unfoldable pub settle : Group → State → State
settle g s = rebuild_only g s (faulty_of s g.members)

-- the set places of a word in rising order; i is the number of its first place
abbrev pub set_places : ℕ → Word → List ℕ
set_places i [] = []
set_places i (false ∷ w) = set_places (suc i) w
set_places i (true ∷ w) = i ∷ set_places (suc i) w

-- the mismatch: the places where the exclusive or of all the group's lines, faulty ones as found, differs from the parity line
unfoldable pub mismatch : Group → State → List ℕ
mismatch g s = set_places 0 (sum (line_at s) g.members ⊕ g.parity)

-- line n tries each place: flip it, read the line alone; the first accepted trial ends the search and is kept as read
abbrev pub try_places : Reading → ℕ → Cell → List ℕ → Cell
try_places read n c [] = c
try_places read n c (p ∷ ps) =
    let trial = read n (flip p c.line) in
    let later = try_places read n c ps in
    cond (is_faulty trial) later (record { line = trial.line; mark = 2 })

-- each faulty one of the lines, in rising order, tries each place in rising order
abbrev pub try_lines : Reading → List ℕ → State → List ℕ → State
try_lines read places s [] = s
try_lines read places s (n ∷ ns) =
    let c = cell_at s n in
    let tried = try_places read n c places in
    try_lines read places (set s n (cond (is_faulty c) tried c)) ns

-- two or more lines are faulty, and the mismatch has 1 to 6 places
abbrev pub triable : Group → State → Bool
triable g s =
    let places = length (mismatch g s) in
    leb 2 (length (faulty_of s g.members)) && (leb 1 places && leb places 6)

-- then the faulty lines try the places of the mismatch, which is worked out once
unfoldable pub trial : Reading → Group → State → State
trial read g s = let tried = try_lines read (mismatch g s) s g.members in cond (triable g s) tried s

-- a visit: no faulty line, nothing; one, it is rebuilt; two or more, the trials, and if exactly one is then left, it is rebuilt
unfoldable pub visit : Reading → Group → State → State
visit read g s = settle g (trial read g s)
