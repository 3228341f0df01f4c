-- Request Q-5, "Wear figures for a whole tour": "all counts are defined from the list of these stores".
use Rattle.std.specs.Prelude.{List, [], ◌∷◌, ◌++◌, map, ℕ, ◌+◌, length}
use Rattle.results.specs.Marks.{count_of, counts_of}
use Rattle.tour.specs.declared.Answers.{Answers}
use Rattle.tour.specs.declared.Wear as Declared

-- a repair result: the marks of a store's lines, and the answer
pub record Result : Type 0 where
  pub marks : List ℕ
  pub answer : ℕ

-- "the lines in all stores taken in"
abbrev pub lines_seen : List Result → ℕ
lines_seen [] = 0
lines_seen (store ∷ stores) = length store.marks + lines_seen stores

-- the marks of all stores, one store after the other
abbrev pub marks_seen : List Result → List ℕ
marks_seen [] = []
marks_seen (store ∷ stores) = store.marks ++ marks_seen stores

-- "stores for each answer 0, 11 and 12"
unfoldable pub answers_of : List ℕ → Answers
answers_of answers = record { done = count_of 0 answers; left = count_of 11 answers; differs = count_of 12 answers }

-- "stores seen, lines seen, lines for each mark, and stores for each answer"
unfoldable pub wear_of : List Result → Declared.Wear
wear_of stores =
    record {
      stores = length stores;
      lines = lines_seen stores;
      marks = counts_of (marks_seen stores);
      answers = answers_of (map (λ (store : Result). store.answer) stores);
    }

-- "the empty report"
abbrev pub empty : Declared.Wear
empty = wear_of []
