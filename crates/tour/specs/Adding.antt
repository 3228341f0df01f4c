-- Request Q-5: "a report that takes in one repair result after another", and what 15 refuses.
use Rattle.std.specs.Prelude.{Bool, cond, ◌&&◌, List, [], ◌∷◌, ℕ, ◌+◌, ◌*◌, eqb, leb, ltb, length}
use Rattle.rectangle.specs.Refusals.{every}
use Rattle.rectangle.specs.Repair.{hands_over}
use Rattle.results.specs.Marks.{total, plus_counts}
use Rattle.tour.specs.Wear.{Result, wear_of}
use Rattle.tour.specs.declared.Answers.{Answers}
use Rattle.tour.specs.declared.Wear as Declared

-- the most stores of a report
unfoldable pub most_stores : ℕ
most_stores = 1000000

-- the most lines of a store: sixteen layers of 512 by 512 (request Q-11)
unfoldable pub most_lines : ℕ
most_lines = 4194304

-- all stores that were counted by their answers
abbrev pub answers_total : Answers → ℕ
answers_total a = a.done + a.left + a.differs

-- 15, of a report: at most 1,000,000 stores, at most 4,194,304 lines for each, marks that add up to the lines and answers to the stores
unfoldable pub is_report : Declared.Wear → Bool
is_report w =
    leb w.stores most_stores
    && (leb w.lines (most_lines * w.stores)
    && (eqb (total w.marks) w.lines
    && eqb (answers_total w.answers) w.stores))

-- 15, of a result: 4 to 4,194,304 marks of 0 to 4, with answer 0, 11 or 12
unfoldable pub is_result : Result → Bool
is_result store =
    leb 4 (length store.marks)
    && (leb (length store.marks) most_lines
    && (every (λ m. leb m 4) store.marks
    && hands_over store.answer))

-- 15, adding: fewer than 1,000,000 stores so far
unfoldable pub has_room : Declared.Wear → Bool
has_room w = ltb w.stores most_stores

-- the stores for each answer, of two reports together
unfoldable pub plus_answers : Answers → Answers → Answers
plus_answers a b = record { done = a.done + b.done; left = a.left + b.left; differs = a.differs + b.differs }

-- two reports together, number by number
unfoldable pub plus : Declared.Wear → Declared.Wear → Declared.Wear
plus a b =
    record {
      stores = a.stores + b.stores;
      lines = a.lines + b.lines;
      marks = plus_counts a.marks b.marks;
      answers = plus_answers a.answers b.answers;
    }

-- what an addition answers, and the report after it
pub record Added : Type 0 where
  pub answer : ℕ
  pub wear : Declared.Wear

-- the entry point: one result more, or 15 and "A refused addition leaves the report unchanged."
unfoldable pub add_store : Declared.Wear → Result → Added
add_store w store =
    cond (is_report w && (has_room w && is_result store))
    (record { answer = 0; wear = plus w (wear_of (store ∷ [])) })
    (record { answer = 15; wear = w })

-- one addition after the other, from a report on
abbrev pub add_all : Declared.Wear → List Result → Declared.Wear
add_all w [] = w
add_all w (store ∷ stores) = add_all (add_store w store).wear stores

-- "the list of these stores, refused ones left out": those whose addition answered 0
abbrev pub taken_in : Declared.Wear → List Result → List Result
taken_in w [] = []
taken_in w (store ∷ stores) =
    let added = add_store w store in
    let later = taken_in added.wear stores in
    cond (eqb added.answer 0) (store ∷ later) later
