-- What is promised of wear reports beyond their definitions (request Q-5); the proofs stand in proofs/.
use Rattle.std.specs.Prelude.{◌≡◌, ◌⊎◌, ◌↔◌, true, List, [], ◌∷◌, ℕ, ◌*◌, ◌≤◌, ◌<◌, length, take, get_or}
use Rattle.scheme.specs.Visit.{select}
use Rattle.scheme.specs.Demand3.{◌∈◌}
use Rattle.rectangle.specs.Repair.{Buffers, StoreRepaired, hands_over}
use Rattle.demands.specs.Demands.{Rectangle, count, repair_of}
use Rattle.results.specs.Marks.{total}
use Rattle.tour.specs.Wear.{Result, lines_seen, wear_of, empty}
use Rattle.tour.specs.Adding.{most_stores, answers_total, is_result, add_store, add_all, taken_in}
use Rattle.tour.specs.Share.{share_order, compare_shares}
use Rattle.tour.specs.Numbers.{numbers_of, wear_in, add_numbers, compare_numbers}
use Rattle.tour.specs.declared.Wear as Declared

-- ---- "Errors: 15, after 8, when a report's marks or answers don't add up to its lines or stores, it has more than 4,194,304 lines for
-- each store or above 1,000,000 stores, or, adding, has that many already or the result isn't 4 to 4,194,304 marks of 0 to 4 with answer
-- 0, 11 or 12."
pub record IsReport (w : Declared.Wear) : Type 0 where
  pub stores : w.stores ≤ 1000000
  pub lines : w.lines ≤ 4194304 * w.stores
  pub marks : total w.marks ≡ w.lines
  pub answers : answers_total w.answers ≡ w.stores

pub record IsResult (store : Result) : Type 0 where
  pub least : 4 ≤ length store.marks
  pub most : length store.marks ≤ 4194304
  pub marks : (n : ℕ) → n < length store.marks → get_or store.marks n 0 ≤ 4
  pub answer : store.answer ∈ (0 ∷ 11 ∷ 12 ∷ [])

-- ---- "Lines seen must equal the lines in all stores taken in since the empty report, and the mark counts must add up to it; all counts
-- are defined from the list of these stores, refused ones left out."
pub record CountedFrom (results : List Result) : Type 0 where
  -- the report is the one of the stores that were taken in
  pub report : add_all empty results ≡ wear_of (taken_in empty results)
  -- and these are the first million of those that are results at all
  pub taken : taken_in empty results ≡ take most_stores (select is_result results)
  pub lines : (add_all empty results).lines ≡ lines_seen (taken_in empty results)
  -- its marks add up to its lines, and its answers to its stores
  pub adds : IsReport (add_all empty results)

abbrev pub Counted : Type 0
Counted = (results : List Result) → CountedFrom results

-- what is taken, with 0, and all else is 15: "A refused addition leaves the report unchanged."
pub record Refused : Type 0 where
  pub taken : (w : Declared.Wear) (store : Result) → ((add_store w store).answer ≡ 0) ↔ (IsReport w × (w.stores < 1000000) × IsResult store)
  pub refused : (w : Declared.Wear) (store : Result) → ((add_store w store).answer ≡ 0 → ⊥)
      → add_store w store ≡ record { answer = 15; wear = w }
  pub compared : (a b : Declared.Wear) → ((compare_shares a b).answer ≡ 0) ↔ (IsReport a × IsReport b)
  pub ordered : (a b : Declared.Wear) → (compare_shares a b).answer ≡ 0 → (compare_shares a b).order ≡ share_order a b
  pub not_compared : (a b : Declared.Wear) → ((compare_shares a b).answer ≡ 0 → ⊥) → compare_shares a b ≡ record { answer = 15; order = 0 }

-- what was added to is a report again
abbrev pub StaysReport : Type 0
StaysReport = (w : Declared.Wear) (store : Result) → IsReport w → IsReport (add_store w store).wear

-- ---- "one repair result": what repair hands over is one, with a mark for each line of the store, and what it refuses is none
abbrev pub result_of : StoreRepaired → Result
result_of r = record { marks = r.marks; answer = r.answer }

pub record GivesResult (r : Rectangle) (given : StoreRepaired) : Type 0 where
  pub result : is_result (result_of given) ≡ hands_over given.answer
  pub lines : hands_over given.answer ≡ true → lines_seen (result_of given ∷ []) ≡ count r

abbrev pub RepairGivesResult : Type 0
RepairGivesResult = (r : Rectangle) (work : Buffers) → GivesResult r (repair_of r work)

-- ---- "The share of rebuilt lines in two reports is compared exactly in whole numbers, and a report with no lines counts as share zero."
-- x out of m is a report's share: as its rebuilt lines out of its lines, and none where it has no lines
pub record HasShare (w : Declared.Wear) (x m : ℕ) : Type 0 where
  pub some : 1 ≤ m
  pub of_lines : 1 ≤ w.lines → w.marks.rebuilt * m ≡ x * w.lines
  pub no_lines : w.lines ≡ 0 → x ≡ 0

-- the order that is given: 0 equal, 1 the first is smaller, 2 it is greater
pub record OrderTells (order x y : ℕ) : Type 0 where
  pub equal : (order ≡ 0) ↔ (x ≡ y)
  pub smaller : (order ≡ 1) ↔ (x < y)
  pub greater : (order ≡ 2) ↔ (y < x)

-- two shares out of one number, and the order is theirs; there is always such a number
pub record OrderOfFractions (a b : Declared.Wear) : Type 0 where
  pub agrees : (x y m : ℕ) → HasShare a x m → HasShare b y m → OrderTells (share_order a b) x y
  pub common : (m : ℕ) × (x : ℕ) × (y : ℕ) × (HasShare a x m) × (HasShare b y m)

abbrev pub SharesCompared : Type 0
SharesCompared = (a b : Declared.Wear) → IsReport a → IsReport b → OrderOfFractions a b

-- the comparison orders all reports: it is total, and equal, smaller and greater each carry over
pub record OrdersReports : Type 0 where
  pub total : (a b : Declared.Wear) → (share_order a b ≡ 0) ⊎ ((share_order a b ≡ 1) ⊎ (share_order a b ≡ 2))
  pub itself : (a : Declared.Wear) → share_order a a ≡ 0
  pub turned : (a b : Declared.Wear) → (share_order a b ≡ 1) ↔ (share_order b a ≡ 2)
  pub transitive : (a b c : Declared.Wear) (k : ℕ) → share_order a b ≡ k → share_order b c ≡ k → share_order a c ≡ k
  pub equals : (a b c : Declared.Wear) → share_order a b ≡ 0 → share_order a c ≡ share_order b c

-- ---- as ten numbers: nothing is lost either way, the empty report is ten zeros, and both entry points do what they do on reports
pub record TenNumbers : Type 0 where
  pub read : (w : Declared.Wear) → wear_in (numbers_of w) ≡ w
  pub written : (numbers : List ℕ) → length numbers ≡ 10 → numbers_of (wear_in numbers) ≡ numbers
  pub empty : numbers_of empty ≡ 0 ∷ 0 ∷ 0 ∷ 0 ∷ 0 ∷ 0 ∷ 0 ∷ 0 ∷ 0 ∷ 0 ∷ []
  pub adds : (w : Declared.Wear) (store : Result)
      → add_numbers (numbers_of w) store ≡ record { answer = (add_store w store).answer; numbers = numbers_of (add_store w store).wear }
  pub compares : (a b : Declared.Wear) → compare_numbers (numbers_of a) (numbers_of b) ≡ compare_shares a b

-- the answers are 0, 15, and 7 exactly for another length; a refusal writes nothing
pub record NumbersRefused : Type 0 where
  pub refused : (numbers : List ℕ) (store : Result) → ((add_numbers numbers store).answer ≡ 0 → ⊥)
      → (add_numbers numbers store).numbers ≡ numbers
  pub answers : (numbers : List ℕ) (store : Result) → (add_numbers numbers store).answer ∈ (0 ∷ 7 ∷ 15 ∷ [])
  pub seven : (numbers : List ℕ) (store : Result) → ((add_numbers numbers store).answer ≡ 7) ↔ (length numbers ≡ 10 → ⊥)
  pub compare_answers : (a b : List ℕ) → (compare_numbers a b).answer ∈ (0 ∷ 7 ∷ 15 ∷ [])
  pub compare_seven : (a b : List ℕ) → ((compare_numbers a b).answer ≡ 7) ↔ ((length a ≡ 10) × (length b ≡ 10) → ⊥)
  pub not_compared : (a b : List ℕ) → ((compare_numbers a b).answer ≡ 0 → ⊥) → (compare_numbers a b).order ≡ 0
