-- Cases that tell: "The mismatch .. is worked out once in a visit" from a mismatch worked out again after a trial took, and the bound of
-- request Q-6 from its converse.
use Rattle.std.specs.Prelude.{◌≡◌, cond, List, [], ◌∷◌, map, ℕ, leb}
use Rattle.gf2.specs.Word.{Word, zeros, weight, flip}
use Rattle.scheme.specs.Layer.{Cell, Layer}
use Rattle.scheme.specs.Visit.{Group, State, trial, visit}
use Rattle.scheme.specs.Repair.{read_all, repair, lines_of, marks_of, answer}
use Rattle.scheme.specs.Parity.{as_read, parity_after}
use Rattle.scheme.specs.Forecast.{foreseen}

-- a small line code of k places: its only correct line is zero, and it takes back one damaged bit
unfoldable pub read_zero : ℕ → ℕ → Word → Cell
read_zero k a found =
    cond (leb (weight found) 1) (record { line = zeros k; mark = weight found }) (record { line = found; mark = 4 })

-- a group of zero lines of five places, and such a line hurt at some places
abbrev pub zero_group : List ℕ → Group
zero_group members = record { members = members; parity = zeros 5 }

abbrev pub hurt_at : List ℕ → Word
hurt_at [] = zeros 5
hurt_at (p ∷ ps) = flip p (hurt_at ps)

-- the rows and columns of a 2 by 3 store
abbrev pub two_by_three : List Group
two_by_three =
    zero_group (0 ∷ 1 ∷ 2 ∷ [])
    ∷ zero_group (3 ∷ 4 ∷ 5 ∷ [])
    ∷ zero_group (0 ∷ 3 ∷ [])
    ∷ zero_group (1 ∷ 4 ∷ [])
    ∷ zero_group (2 ∷ 5 ∷ [])
    ∷ []

-- lines 0, 1 and 2 are hurt: of the mismatch {1, 3, 4} line 0 takes place 1. Worked out again it would be {0, 3, 4}, of which line 1
-- would take place 0; so it is left to its column, and line 2 too
abbrev pub hurt_lines : List Word
hurt_lines =
    hurt_at (0 ∷ 1 ∷ []) ∷ hurt_at (0 ∷ 2 ∷ []) ∷ hurt_at (2 ∷ 3 ∷ 4 ∷ []) ∷ hurt_at [] ∷ hurt_at [] ∷ hurt_at [] ∷ []

abbrev pub MismatchWorkedOutOnce : Type 0
MismatchWorkedOutOnce = marks_of (repair (read_zero 5) two_by_three hurt_lines).cells ≡ 2 ∷ 3 ∷ 3 ∷ 0 ∷ 0 ∷ 0 ∷ []

-- the rows and columns of a 2 by 2 store
abbrev pub two_by_two : List Group
two_by_two = zero_group (0 ∷ 1 ∷ []) ∷ zero_group (2 ∷ 3 ∷ []) ∷ zero_group (0 ∷ 2 ∷ []) ∷ zero_group (1 ∷ 3 ∷ []) ∷ []

-- all its lines are hurt, two and two alike
abbrev pub hurt_four : List Word
hurt_four = hurt_at (0 ∷ 1 ∷ []) ∷ hurt_at (2 ∷ 3 ∷ []) ∷ hurt_at (0 ∷ 1 ∷ []) ∷ hurt_at (2 ∷ 3 ∷ []) ∷ []

-- each takes a trial in its row, where rebuilding alone saves none
pub record TrialsSaveMore : Type 0 where
  pub repaired : marks_of (repair (read_zero 5) two_by_two hurt_four).cells ≡ 2 ∷ 2 ∷ 2 ∷ 2 ∷ []
  pub forecast : marks_of (foreseen two_by_two (1 ∷ 2 ∷ 4 ∷ 255 ∷ [])).cells ≡ 4 ∷ 4 ∷ 4 ∷ 4 ∷ []

-- ---- further cases, over lines of seven places
-- the same line code as a layer of seven places
abbrev pub seven_layer : Layer
seven_layer = record { width = 7; address = λ n. n; read = read_zero 7; Correct = λ a w. w ≡ zeros 7 }

-- a zero line of seven places, hurt at some of them; a group of such lines, of which the parity line is hurt at some places
abbrev pub hurt_seven_at : List ℕ → Word
hurt_seven_at [] = zeros 7
hurt_seven_at (p ∷ ps) = flip p (hurt_seven_at ps)

abbrev pub seven_group : List ℕ → List ℕ → Group
seven_group members places = record { members = members; parity = hurt_seven_at places }

-- a row of two lines, hurt at two places and at some others, after the first reading
abbrev pub seven_pair : Group
seven_pair = seven_group (0 ∷ 1 ∷ []) []

abbrev pub hurt_pair : List ℕ → State
hurt_pair others = read_all (read_zero 7) 0 (hurt_seven_at (0 ∷ 1 ∷ []) ∷ hurt_seven_at others ∷ [])

-- "If it has 1 to 6 places": of a mismatch of six line 0 takes place 0, of one of seven no line tries any
pub record SixPlacesTried : Type 0 where
  pub six : marks_of (trial (read_zero 7) seven_pair (hurt_pair (2 ∷ 3 ∷ 4 ∷ 5 ∷ []))) ≡ 2 ∷ 4 ∷ []
  pub seven : marks_of (trial (read_zero 7) seven_pair (hurt_pair (2 ∷ 3 ∷ 4 ∷ 5 ∷ 6 ∷ []))) ≡ 4 ∷ 4 ∷ []

-- "If exactly one line is then left faulty, it is rebuilt.": line 1, in the same visit in which line 0's trial took
pub record RebuiltInTheSameVisit : Type 0 where
  pub marks : marks_of (visit (read_zero 7) seven_pair (hurt_pair (2 ∷ 3 ∷ 4 ∷ []))) ≡ 2 ∷ 3 ∷ []
  pub lines : lines_of (visit (read_zero 7) seven_pair (hurt_pair (2 ∷ 3 ∷ 4 ∷ []))) ≡ hurt_seven_at [] ∷ hurt_seven_at [] ∷ []

-- request Q-3, "accepted ones as read, faulty ones as found unless made afresh": the parity line of a group of one line, hurt at one place
-- and at two, where that line is whole and where it is faulty
abbrev pub parity_left : List ℕ → List ℕ → Word
parity_left line parity =
    parity_after seven_layer (read_all (read_zero 7) 0 (hurt_seven_at line ∷ [])) (seven_group (0 ∷ []) parity)

pub record ParityHandedOver : Type 0 where
  pub read : parity_left [] (0 ∷ []) ≡ hurt_seven_at []
  pub afresh : parity_left [] (0 ∷ 1 ∷ []) ≡ hurt_seven_at []
  pub found : parity_left (2 ∷ 3 ∷ []) (0 ∷ 1 ∷ []) ≡ hurt_seven_at (0 ∷ 1 ∷ [])

-- request Q-3, "Answer 12 compares only the accepted ones.", each as read: the answer for one such group and a cell of mark 0, as if its
-- line had been read so
abbrev pub answer_beside : List ℕ → List ℕ → ℕ
answer_beside line parity =
    answer (map (as_read seven_layer) (seven_group (0 ∷ []) parity ∷ [])) (record { line = hurt_seven_at line; mark = 0 } ∷ [])

pub record AcceptedOnesCompared : Type 0 where
  pub agrees : answer_beside [] (0 ∷ []) ≡ 0
  pub differs : answer_beside (2 ∷ []) (0 ∷ []) ≡ 12
  pub unusable : answer_beside (2 ∷ []) (0 ∷ 1 ∷ []) ≡ 0
