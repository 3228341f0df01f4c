-- One store more: the numbers fit, and the tests that the code makes are those of the definition.
use mathlib.Core.Path.{◌≡◌, refl, sym, ap, ◌∙◌}
use mathlib.Core.Bool.{Bool, true, false, ◌&&◌, and_comm, and-eq-true_iff}
use mathlib.Core.List.{List, [], ◌∷◌}
use Prim.Native.Nat.{ℕ, ◌≤◌}
use borrow.Author.Tests.{leb-true}
use lib.Dec.{eqb, leb}
use lib.ListN.{length}
use Rattle.rectangle.specs.Refusals.{every}
use Rattle.rectangle.specs.Repair.{hands_over}
use Rattle.results.specs.Marks.{total, counts_of}
use Rattle.results.proofs.Adding.{counts-tell-marks}
use Rattle.tour.specs.Wear.{Result, answers_of}
use Rattle.tour.specs.Adding.{most_lines, is_report, is_result, has_room, plus, add_store}
use Rattle.tour.specs.declared.Wear as Declared
use Rattle.tour.proofs.Refused.{added-taken, added-refused}
use Rattle.tour.proofs.Counted.{one_store}

-- the tests in a row, that of the marks made last
made-last : (a b c d e f : Bool) → a && (b && (c && (d && (e && f)))) ≡ ((a && (b && (c && d))) && f) && e
made-last false b c d e f = refl
made-last true false c d e f = refl
made-last true true false d e f = refl
made-last true true true false e f = refl
made-last true true true true e f = and_comm e f

module _ (w : Declared.Wear) (marks : List ℕ) (answer : ℕ) where
  abbrev store : Result
  store = record { marks = marks; answer = answer }

  -- the two tests of a length, as a result makes them
  abbrev at_least : Bool
  at_least = leb 4 (length marks)

  abbrev at_most : Bool
  at_most = leb (length marks) most_lines

  abbrev all_marks : Bool
  all_marks = every (λ m. leb m 4) marks

  -- all tests but those of the answer and of the marks
  abbrev Takes : Bool
  Takes = is_report w && (has_room w && (at_least && at_most))

  tests : is_report w && (has_room w && is_result store) ≡ (hands_over answer && Takes) && all_marks
  unfolding is_result
  tests =
      made-last (is_report w) (has_room w) at_least at_most all_marks (hands_over answer)
      ∙ ap (λ (t : Bool). t && all_marks) (and_comm Takes (hands_over answer))

  pub not_over : hands_over answer ≡ false → record { answer = 15; wear = w } ≡ add_store w store
  not_over p = sym (added-refused w store (tests ∙ rw p))

  -- what they tell
  pub takes-report : Takes ≡ true → is_report w ≡ true
  takes-report p = ((and-eq-true_iff (is_report w) _).0 p).0

  pub takes-most : Takes ≡ true → length marks ≤ 4194304
  unfolding most_lines
  takes-most p =
      leb-true (length marks) 4194304
      ((and-eq-true_iff at_least _).0 ((and-eq-true_iff (has_room w) _).0 ((and-eq-true_iff (is_report w) _).0 p).1).1).1

  module _ (over : hands_over answer ≡ true) where
    pub not_taken : Takes ≡ false → record { answer = 15; wear = w } ≡ add_store w store
    not_taken p = sym (added-refused w store (tests ∙ rw (over, p)))

    -- and where they pass, that of the marks, by their counts
    module _ (passed : Takes ≡ true) where
      marks-left : is_report w && (has_room w && is_result store) ≡ eqb (total (counts_of marks)) (length marks)
      marks-left = tests ∙ rw (over, passed) (sym (counts-tell-marks marks))

      pub no-marks : eqb (total (counts_of marks)) (length marks) ≡ false → record { answer = 15; wear = w } ≡ add_store w store
      no-marks q = sym (added-refused w store (marks-left ∙ q))

      pub taken : eqb (total (counts_of marks)) (length marks) ≡ true → (next : Declared.Wear)
          → next ≡ plus w (record { stores = 1; lines = length marks; marks = counts_of marks; answers = answers_of (answer ∷ []) })
          → record { answer = 0; wear = next } ≡ add_store w store
      taken q next e = rw (added-taken w store (marks-left ∙ q), one_store store, e)
