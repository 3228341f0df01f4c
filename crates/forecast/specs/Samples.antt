-- Forecasts worked out by hand, in one table; the buffer for marks holds 9s before, of the pattern's length unless a row says another.
use Rattle.std.specs.Prelude.{◌≡◌, List, [], ◌∷◌, map, ℕ, length, replicate}
use Rattle.forecast.specs.Forecast.{Forecast, forecast}

-- rows, columns, the pattern and the marks handed in, and what they give
pub record Sample : Type 0 where
  pub rows : ℕ
  pub columns : ℕ
  pub pattern : List ℕ
  pub marks : List ℕ
  pub gives : Forecast

-- a row of the table, with a buffer for so many marks
abbrev pub into : ℕ → ℕ → ℕ → List ℕ → ℕ → ℕ → List ℕ → Sample
into room rows columns pattern answer passes marks =
    record {
      rows = rows;
      columns = columns;
      pattern = pattern;
      marks = replicate room 9;
      gives = record { answer = answer; passes = passes; marks = marks };
    }

abbrev pub sample : ℕ → ℕ → List ℕ → ℕ → ℕ → List ℕ → Sample
sample rows columns pattern = into (length pattern) rows columns pattern

abbrev pub samples : List Sample
samples =
    -- none is faulty
    sample 2 2 (0 ∷ 0 ∷ 0 ∷ 0 ∷ []) 0 0 (0 ∷ 0 ∷ 0 ∷ 0 ∷ [])
    -- one: by its row; any byte but 0 means faulty
    ∷ sample 2 2 (0 ∷ 0 ∷ 3 ∷ 0 ∷ []) 0 1 (0 ∷ 0 ∷ 3 ∷ 0 ∷ [])
    -- two in a row: each by its column
    ∷ sample 2 2 (255 ∷ 1 ∷ 0 ∷ 0 ∷ []) 0 1 (3 ∷ 3 ∷ 0 ∷ 0 ∷ [])
    -- four around a block: none is alone in its row or column, and the pass that shows it counts
    ∷ sample 2 2 (1 ∷ 2 ∷ 3 ∷ 4 ∷ []) 0 1 (4 ∷ 4 ∷ 4 ∷ 4 ∷ [])
    -- a line beside such a block is rebuilt by its column; the second pass rebuilds nothing, and counts
    ∷ sample 2 3 (1 ∷ 1 ∷ 1 ∷ 1 ∷ 1 ∷ 0 ∷ []) 0 2 (4 ∷ 4 ∷ 3 ∷ 4 ∷ 4 ∷ 0 ∷ [])
    -- a staircase: the rows hold two each, so the columns at its ends come first; columns before rows would take one pass
    ∷ sample 2 3 (1 ∷ 1 ∷ 0 ∷ 0 ∷ 1 ∷ 1 ∷ []) 0 2 (3 ∷ 3 ∷ 0 ∷ 0 ∷ 3 ∷ 3 ∷ [])
    -- the same with rows and columns exchanged: its ends are alone in their rows, and one pass suffices
    ∷ sample 3 2 (1 ∷ 0 ∷ 1 ∷ 1 ∷ 0 ∷ 1 ∷ []) 0 1 (3 ∷ 0 ∷ 3 ∷ 3 ∷ 0 ∷ 3 ∷ [])
    -- one row, or one column; more columns than 512, though the lengths do not fit either
    ∷ sample 1 2 (1 ∷ 0 ∷ []) 2 0 (9 ∷ 9 ∷ [])
    ∷ sample 2 1 (1 ∷ 0 ∷ []) 2 0 (9 ∷ 9 ∷ [])
    ∷ sample 2 513 (1 ∷ 0 ∷ []) 2 0 (9 ∷ 9 ∷ [])
    -- a pattern of another length than its lines, or a buffer for marks
    ∷ into 4 2 2 (1 ∷ 0 ∷ 0 ∷ []) 7 0 (9 ∷ 9 ∷ 9 ∷ 9 ∷ [])
    ∷ into 3 2 2 (1 ∷ 0 ∷ 0 ∷ 0 ∷ []) 7 0 (9 ∷ 9 ∷ 9 ∷ [])
    ∷ []

abbrev pub SamplesHold : Type 0
SamplesHold = map (λ s. forecast s.rows s.columns s.pattern s.marks) samples ≡ map (λ s. s.gives) samples
