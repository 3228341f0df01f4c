-- Tables of cases without a star, each row a claim that the definitions decide.
use Rattle.std.specs.Prelude.{List, [], ◌∷◌, ℕ}
use Rattle.sampling.specs.Rows.{Store, Sample, was_marked, mends, repairs, changes, reads, hurt, clean, last}

-- the marks of before, and one at which a plausible and false way of repair would give other marks. The mismatch is worked out once in a
-- visit: of {1, 3, 4} line 0 takes place 1; worked out again it would be {0, 3, 4}, and line 1 would be mended by trial too. Then request
-- Q-2's: a change's own row and column, and no other
abbrev pub cases : List Sample
cases =
    was_marked (0 ∷ []) 1
    ∷ was_marked (542 ∷ []) 1
    ∷ was_marked (543 ∷ []) 0
    ∷ mends 3 (hurt (0 ∷ 1 ∷ []) ∷ hurt (0 ∷ 2 ∷ []) ∷ hurt (2 ∷ 3 ∷ 4 ∷ []) ∷ clean ∷ clean ∷ clean ∷ []) (2 ∷ 3 ∷ 3 ∷ 0 ∷ 0 ∷ 0 ∷ []) 1
    ∷ changes (clean ∷ hurt (0 ∷ []) ∷ []) (hurt (0 ∷ []) ∷ clean ∷ []) 2 13 1
    ∷ changes (hurt (0 ∷ []) ∷ clean ∷ []) (clean ∷ hurt (0 ∷ []) ∷ []) 3 14 1
    ∷ changes (hurt (0 ∷ []) ∷ clean ∷ []) (clean ∷ hurt (0 ∷ []) ∷ []) 2 0 0
    ∷ []

-- ---- request Q-3's cases
-- a zero line hurt at two places: faulty, and as a parity line unusable
abbrev pub twice : List ℕ
twice = hurt (0 ∷ 1 ∷ [])

-- a store whose first line and whose first row's and first column's parity lines are these, the others zero
abbrev pub firsts : List ℕ → List ℕ → List ℕ → Store
firsts line row column =
    record {
      lines = line ∷ clean ∷ clean ∷ clean ∷ [];
      row_table = row ∷ clean ∷ [];
      column_table = column ∷ clean ∷ [];
    }

-- a store given up: all its lines hurt alike, and its first row's parity line
abbrev pub given_up : Store
given_up = record { lines = twice ∷ twice ∷ twice ∷ twice ∷ []; row_table = twice ∷ clean ∷ []; column_table = clean ∷ clean ∷ [] }

-- a parity line hurt at one place is handed over as read; an unusable one is made afresh, also where its row's line was rebuilt by its
-- column; with 11 it stays as found. Answer 12 compares accepted ones only: a line that no parity line allows for gives 0 where its row and
-- its column are unusable, and 12 where its row alone is
abbrev pub parity_cases : List Sample
parity_cases =
    repairs (firsts clean (hurt (0 ∷ [])) clean) (firsts clean clean clean) (0 ∷ 0 ∷ 0 ∷ 0 ∷ []) 0 0
    ∷ repairs (firsts clean twice clean) (firsts clean clean clean) (0 ∷ 0 ∷ 0 ∷ 0 ∷ []) 0 0
    ∷ repairs (firsts twice twice clean) (firsts clean clean clean) (3 ∷ 0 ∷ 0 ∷ 0 ∷ []) 1 0
    ∷ repairs given_up given_up (4 ∷ 4 ∷ 4 ∷ 4 ∷ []) 1 11
    ∷ repairs (firsts last twice twice) (firsts last last last) (0 ∷ 0 ∷ 0 ∷ 0 ∷ []) 0 0
    ∷ repairs (firsts last twice clean) (firsts last last clean) (0 ∷ 0 ∷ 0 ∷ 0 ∷ []) 0 12
    ∷ []

-- ---- request Q-4's cases
-- two by two lines, with zero tables
abbrev pub four : List ℕ → List ℕ → List ℕ → List ℕ → Store
four a b c d = record { lines = a ∷ b ∷ c ∷ d ∷ []; row_table = clean ∷ clean ∷ []; column_table = clean ∷ clean ∷ [] }

-- by the row, rebuilt or by trial; by a column only; never; and alone: 12 is not passed on, nor is 11 where another line stays faulty
abbrev pub one_cases : List Sample
one_cases =
    reads (four twice clean clean clean) 0 2 3 0 clean
    ∷ reads (four twice (hurt (2 ∷ 3 ∷ [])) clean clean) 1 2 2 0 clean
    ∷ reads (four twice twice clean clean) 0 3 3 0 clean
    ∷ reads (four twice twice twice twice) 0 3 4 11 twice
    ∷ reads (four last clean clean clean) 0 1 0 0 last
    ∷ reads (firsts twice twice twice) 1 1 0 0 clean
    ∷ []
