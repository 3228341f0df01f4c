-- What is promised of the counts; the proofs stand in proofs/.
use Rattle.std.specs.Prelude.{◌≡◌, ◌↔◌, List, ◌++◌, ℕ, ◌≤◌, ◌<◌, length, get_or}
use Rattle.results.specs.Marks.{counts_of, total, plus_counts}

-- ---- "the counts are defined from the marks and add up to the lines", exactly where every mark is one of 0 to 4
abbrev pub CountsAddUp : Type 0
CountsAddUp = (marks : List ℕ) → (total (counts_of marks) ≡ length marks) ↔ ((n : ℕ) → n < length marks → get_or marks n 0 ≤ 4)

-- ---- lists one after the other: the counts of both together
abbrev pub CountsTogether : Type 0
CountsTogether = (first second : List ℕ) → counts_of (first ++ second) ≡ plus_counts (counts_of first) (counts_of second)
