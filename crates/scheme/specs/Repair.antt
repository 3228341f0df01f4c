-- Repair, as document 01 words it: the first reading, the passes and the answer.
use Rattle.std.specs.Prelude.{◌≡◌, Bool, true, cond, ◌&&◌, List, [], ◌∷◌, map, ℕ, zero, suc, eqb, length}
use Rattle.gf2.specs.Word.{Word, ◌⊕◌, is_zero}
use Rattle.scheme.specs.Layer.{Reading}
use Rattle.scheme.specs.Visit.{Group, State, line_at, is_faulty, select, sum, visit}

-- every line is read alone, the first of them as line n
abbrev pub read_all : Reading → ℕ → List Word → State
read_all read n [] = []
read_all read n (found ∷ rest) = read n found ∷ read_all read (suc n) rest

-- a pass visits all groups in their order
abbrev pub pass : Reading → List Group → State → State
pass read [] s = s
pass read (g ∷ gs) s = pass read gs (visit read g s)

-- the number of faulty lines
abbrev pub faulty_count : State → ℕ
faulty_count s = length (select is_faulty s)

-- what the passes leave, and their number
pub record Repaired : Type 0 where
  pub cells : State
  pub passes : ℕ

-- while some line is faulty, a pass; passes end when none is faulty or a pass mended nothing (at most k of them)
abbrev pub passes_up_to : ℕ → Reading → List Group → State → Repaired
passes_up_to zero read gs s = record { cells = s; passes = 0 }
passes_up_to (suc k) read gs s =
    let after = pass read gs s in
    let later = passes_up_to k read gs after in
    cond (eqb (faulty_count s) 0) (record { cells = s; passes = 0 })
    (cond (eqb (faulty_count after) (faulty_count s)) (record { cells = after; passes = 1 })
    (record { cells = later.cells; passes = suc later.passes }))

-- the passes from a store on; as each but the last mends some line, the faulty lines bound them
unfoldable pub passes_from : Reading → List Group → State → Repaired
passes_from read gs s = passes_up_to (faulty_count s) read gs s

-- "While some line is faulty, a pass .. Passes end when none is faulty or a pass mended nothing": so from any store on, and the bound
-- above cuts nothing off
abbrev pub LoopOfPasses : Type 0
LoopOfPasses =
    (read : Reading) (gs : List Group) (s : State) → passes_from read gs s
    ≡ (let after = pass read gs s in
    let later = passes_from read gs after in
    cond (eqb (faulty_count s) 0) (record { cells = s; passes = 0 })
    (cond (eqb (faulty_count after) (faulty_count s)) (record { cells = after; passes = 1 })
    (record { cells = later.cells; passes = suc later.passes })))

-- repair of the lines found
unfoldable pub repair : Reading → List Group → List Word → Repaired
repair read gs found = passes_from read gs (read_all read 0 found)

-- the lines that repair hands over
abbrev pub lines_of : State → List Word
lines_of s = map (λ c. c.line) s

-- their marks
abbrev pub marks_of : State → List ℕ
marks_of s = map (λ c. c.mark) s

-- no parity line differs from that of the lines
abbrev pub agrees : List Group → State → Bool
agrees [] s = true
agrees (g ∷ gs) s = is_zero (sum (line_at s) g.members ⊕ g.parity) && agrees gs s

-- the answer: 11 where faulty lines are left, 12 where none is but some parity line differs, otherwise 0
unfoldable pub answer : List Group → State → ℕ
answer gs s = cond (eqb (faulty_count s) 0) (cond (agrees gs s) 0 12) 11
