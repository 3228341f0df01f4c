-- A report counts the list of stores that were taken in.
use mathlib.Core.Path.{◌≡◌, refl, sym, ap, ◌∙◌}
use mathlib.Core.Bool.{Bool, true, false}
use mathlib.Core.List.{List, [], ◌∷◌, ◌++◌, map, map-append, append-nil, append_assoc}
use Prim.Native.Nat.{ℕ, zero, suc, ◌+◌, ◌≤◌}
use native.Mathlib.Nat.{add-zero, zero-add, add_assoc}
use native.Mathlib.Omega.{arith}
use borrow.Author.Tests.{lt-ltb, le-ltb, eqb-true}
use lib.Dec.{eqb}
use lib.ListN.{length, take, length-append}
use Rattle.scheme.specs.Visit.{select}
use Rattle.scheme.specs.Demand3.{◌∈◌}
use Rattle.rectangle.proofs.Tests.{every-at}
use Rattle.results.specs.Marks.{count_of, counts_of, plus_counts}
use Rattle.results.proofs.Counting.{count-together, counts-together}
use Rattle.results.proofs.Adding.{counts-add-up}
use Rattle.tour.specs.Wear.{Result, lines_seen, marks_seen, answers_of, wear_of, empty}
use Rattle.tour.specs.Adding.{most_stores, answers_total, is_result, has_room, plus_answers, plus, add_store, add_all, taken_in}
use Rattle.tour.specs.Promises.{IsReport, IsResult, Counted, StaysReport}
use Rattle.tour.specs.declared.Wear as Declared
use Rattle.tour.proofs.Refused.{report-is, takes, added-taken, added-refused, tests}

-- ---- lists of stores one after the other
lines-together : (a b : List Result) → lines_seen (a ++ b) ≡ lines_seen a + lines_seen b
lines-together [] b = sym (zero-add (lines_seen b))
lines-together (store ∷ a) b = omega (arith, lines-together a b)

marks-together : (a b : List Result) → marks_seen (a ++ b) ≡ marks_seen a ++ marks_seen b
marks-together [] b = refl
marks-together (store ∷ a) b =
    ap (λ (l : List ℕ). store.marks ++ l) (marks-together a b) ∙ sym (append_assoc store.marks (marks_seen a) (marks_seen b))

answers-together : (a b : List ℕ) → answers_of (a ++ b) ≡ plus_answers (answers_of a) (answers_of b)
unfolding answers_of plus_answers
answers-together a b = simp count-together

abbrev answer_of : Result → ℕ
answer_of store = store.answer

pub together : (a b : List Result) → wear_of (a ++ b) ≡ plus (wear_of a) (wear_of b)
unfolding wear_of plus
together a b =
    rw (
      length-append a b,
      lines-together a b,
      marks-together a b,
      counts-together (marks_seen a) (marks_seen b),
      map-append answer_of a b,
      answers-together (map answer_of a) (map answer_of b),
    )

-- one store
pub one_store : (store : Result)
    → wear_of (store ∷ [])
    ≡ record {
      stores = 1;
      lines = length store.marks;
      marks = counts_of store.marks;
      answers = answers_of (store.answer ∷ []);
    }
unfolding wear_of
one_store store = rw (add-zero (length store.marks), append-nil store.marks)

-- reports together: no store is none, and lists in turn are in turn
plus_none : (w : Declared.Wear) → plus w empty ≡ w
unfolding plus plus_counts plus_answers wear_of counts_of answers_of count_of
plus_none w = simp add-zero

plus_turn : (a b c : Declared.Wear) → plus (plus a b) c ≡ plus a (plus b c)
unfolding plus plus_counts plus_answers
plus_turn a b c = simp add_assoc

-- ---- from any report on: what the additions leave is what was there, and the stores taken in
pub added-all : (results : List Result) (w : Declared.Wear) → add_all w results ≡ plus w (wear_of (taken_in w results))
added-all [] w = sym (plus_none w)
added-all (store ∷ results) w = go (takes w store) refl (added-all results)
  where
    go : (b : Bool) → takes w store ≡ b → ((v : Declared.Wear) → add_all v results ≡ plus v (wear_of (taken_in v results)))
        → add_all w (store ∷ results) ≡ plus w (wear_of (taken_in w (store ∷ results)))
    go true e later =
        let next = plus w (wear_of (store ∷ [])) in
        let taken = taken_in next results in
        rw (added-taken w store e)
        (later next ∙ plus_turn w (wear_of (store ∷ [])) (wear_of taken) ∙ ap (plus w) (sym (together (store ∷ []) taken)))
    go false e later = rw (added-refused w store e) (later w)

-- ---- a report with one result more is a report
one_answer : (answer : ℕ) → answer ∈ (0 ∷ 11 ∷ 12 ∷ []) → answers_total (answers_of (answer ∷ [])) ≡ 1
unfolding answers_of count_of
one_answer answer i = eqb-true _ 1 (every-at (λ a. eqb (answers_total (answers_of (a ∷ []))) 1) (0 ∷ 11 ∷ 12 ∷ []) refl answer i)

one-report : (store : Result) → IsResult store → IsReport (wear_of (store ∷ []))
one-report store r =
    rw (one_store store)
    (record {
      stores = omega arith;
      lines = omega (arith, r.most);
      marks = (counts-add-up store.marks).1 r.marks;
      answers = one_answer store.answer r.answer;
    })

more-report : (a b : Declared.Wear) → IsReport a → IsReport b → a.stores + b.stores ≤ 1000000 → IsReport (plus a b)
unfolding plus plus_counts plus_answers
more-report a b p q few =
    record {
      stores = few;
      lines = omega (arith, p.lines, q.lines);
      marks = omega (arith, p.marks, q.marks);
      answers = omega (arith, p.answers, q.answers);
    }

pub stays-report : StaysReport
unfolding wear_of
stays-report w store r = go (takes w store) refl
  where
    go : (b : Bool) → takes w store ≡ b → IsReport (add_store w store).wear
    go true e =
        let passed = (tests w store).0 e in
        rw (added-taken w store e)
        (more-report w (wear_of (store ∷ [])) r (one-report store passed.2) (omega (arith, passed.1)))
    go false e = rw (added-refused w store e) r

-- ---- which stores are taken in: those that are results, while there is room
module _ (store : Result) (results : List Result) (w : Declared.Wear) (r : IsReport w)
    (later : (v : Declared.Wear) (room : ℕ) → IsReport v → v.stores + room ≡ most_stores
    → taken_in v results ≡ take room (select is_result results)) where
  -- one more, where the report has room
  one-stored : (room : ℕ) → w.stores + suc room ≡ most_stores → (plus w (wear_of (store ∷ []))).stores + room ≡ most_stores
  unfolding plus wear_of
  one-stored room f = omega (arith, f)

  taken_more : (room : ℕ) → w.stores + suc room ≡ most_stores
      → taken_in w (store ∷ results) ≡ take (suc room) (select is_result (store ∷ results))
  unfolding has_room
  taken_more room f = go (is_result store) refl (lt-ltb w.stores most_stores (omega (arith, f)))
    where
      go : (b : Bool) → is_result store ≡ b → has_room w ≡ true
          → taken_in w (store ∷ results) ≡ take (suc room) (select is_result (store ∷ results))
      go true e h =
          let t : takes w store ≡ true = rw (report-is w r, h, e) in
          let next = stays-report w store r in
          rw (added-taken w store t, e)
          (ap (λ (l : List Result). store ∷ l)
          (later (plus w (wear_of (store ∷ []))) room (rw (added-taken w store t) at next) (one-stored room f)))
      go false e h =
          let t : takes w store ≡ false = rw (report-is w r, h, e) in rw (added-refused w store t, e) (later w (suc room) r f)

  -- and none, where it is full
  taken_none : w.stores + 0 ≡ most_stores → taken_in w (store ∷ results) ≡ []
  unfolding has_room
  taken_none f =
      let t : takes w store ≡ false = rw (report-is w r, le-ltb w.stores most_stores (omega (arith, f))) in
      rw (added-refused w store t) (later w 0 r f)

pub taken-from : (results : List Result) (w : Declared.Wear) (room : ℕ) → IsReport w → w.stores + room ≡ most_stores
    → taken_in w results ≡ take room (select is_result results)
taken-from [] w zero r f = refl
taken-from [] w (suc room) r f = refl
taken-from (store ∷ results) w zero r f = taken_none store results w r (taken-from results) f
taken-from (store ∷ results) w (suc room) r f = taken_more store results w r (taken-from results) room f

-- ---- from the empty report on
empty-report : IsReport empty
unfolding wear_of counts_of answers_of count_of
empty-report = record { stores = omega arith; lines = omega arith; marks = refl; answers = refl }

all-report : (results : List Result) (w : Declared.Wear) → IsReport w → IsReport (add_all w results)
all-report [] w r = r
all-report (store ∷ results) w r = all-report results (add_store w store).wear (stays-report w store r)

pub counted : Counted
unfolding wear_of
counted results =
    let from-none : add_all empty results ≡ wear_of (taken_in empty results) =
    added-all results empty ∙ sym (together [] (taken_in empty results)) in
    record {
      report = from-none;
      taken = taken-from results empty most_stores empty-report (zero-add most_stores);
      lines = ap (λ (w : Declared.Wear). w.lines) from-none;
      adds = all-report results empty empty-report;
    }
