-- Request Q-5 at the C interface: a report is ten numbers, and another length is 7, before 15.
use Rattle.std.specs.Prelude.{cond, ◌&&◌, List, [], ◌∷◌, ℕ, eqb, length, get_or}
use Rattle.tour.specs.Wear.{Result}
use Rattle.tour.specs.Adding.{add_store}
use Rattle.tour.specs.Share.{Compared, compare_shares}
use Rattle.tour.specs.declared.Wear as Declared

-- how many numbers a report has
unfoldable pub report_numbers : ℕ
report_numbers = 10

-- stores, lines, marks 0 to 4, answers 0, 11 and 12
unfoldable pub numbers_of : Declared.Wear → List ℕ
numbers_of w =
    w.stores ∷ w.lines
    ∷ w.marks.clean ∷ w.marks.alone ∷ w.marks.trial ∷ w.marks.rebuilt ∷ w.marks.faulty
    ∷ w.answers.done ∷ w.answers.left ∷ w.answers.differs ∷ []

-- the report that ten numbers are
unfoldable pub wear_in : List ℕ → Declared.Wear
wear_in numbers =
    let at : ℕ → ℕ = λ n. get_or numbers n 0 in
    record {
      stores = at 0;
      lines = at 1;
      marks = record { clean = at 2; alone = at 3; trial = at 4; rebuilt = at 5; faulty = at 6 };
      answers = record { done = at 7; left = at 8; differs = at 9 };
    }

-- what an addition answers, and the numbers as it leaves them
pub record NumbersAdded : Type 0 where
  pub answer : ℕ
  pub numbers : List ℕ

-- the entry point that adds
unfoldable pub add_numbers : List ℕ → Result → NumbersAdded
add_numbers numbers store =
    let added = add_store (wear_in numbers) store in
    cond (eqb (length numbers) report_numbers)
    (record { answer = added.answer; numbers = numbers_of added.wear })
    (record { answer = 7; numbers = numbers })

-- the entry point that compares
unfoldable pub compare_numbers : List ℕ → List ℕ → Compared
compare_numbers a b =
    cond (eqb (length a) report_numbers && eqb (length b) report_numbers)
    (compare_shares (wear_in a) (wear_in b))
    (record { answer = 7; order = 0 })
