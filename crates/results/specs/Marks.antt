-- Document 01, "Store file": the counts of marks 0 to 4.
use Rattle.std.specs.Prelude.{List, ℕ, ◌+◌, eqb, length}
use Rattle.scheme.specs.Visit.{select}
use Rattle.results.specs.declared.marks.Counts.{Counts}

-- how often a number stands in a list
unfoldable pub count_of : ℕ → List ℕ → ℕ
count_of mark marks = length (select (λ m. eqb m mark) marks)

-- 0 correct as found, 1 accepted and rewritten somewhere, 2 mended by trial, 3 rebuilt, 4 faulty
unfoldable pub counts_of : List ℕ → Counts
counts_of marks =
    record {
      clean = count_of 0 marks;
      alone = count_of 1 marks;
      trial = count_of 2 marks;
      rebuilt = count_of 3 marks;
      faulty = count_of 4 marks;
    }

-- where nothing was counted
unfoldable pub no_counts : Counts
no_counts = record { clean = 0; alone = 0; trial = 0; rebuilt = 0; faulty = 0 }

-- all lines that were counted
abbrev pub total : Counts → ℕ
total c = c.clean + c.alone + c.trial + c.rebuilt + c.faulty

-- the counts of two lists together
unfoldable pub plus_counts : Counts → Counts → Counts
plus_counts a b =
    record {
      clean = a.clean + b.clean;
      alone = a.alone + b.alone;
      trial = a.trial + b.trial;
      rebuilt = a.rebuilt + b.rebuilt;
      faulty = a.faulty + b.faulty;
    }
