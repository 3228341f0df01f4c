-- A report as ten numbers: both round trips, and the answers 0, 7 and 15.
use mathlib.Core.Path.{◌≡◌, refl, ap}
use mathlib.Core.Logic.Iff
use mathlib.Core.Logic.{◌↔◌, inl, inr}
use mathlib.Core.Bool.{Bool, true, false, cond, ◌&&◌, false≢true, and-eq-true_iff}
use mathlib.Core.List.{List, [], ◌∷◌}
use Prim.Native.Nat.{ℕ, zero, suc}
use native.Mathlib.Omega.{arith}
use borrow.Author.Tests.{eqb-true, eq-eqb}
use lib.Dec.{eqb}
use lib.ListN.{length, get_or}
use Rattle.scheme.specs.Demand3.{◌∈◌}
use Rattle.rectangle.proofs.Tests.{not-among, either_way}
use Rattle.results.specs.Marks.{count_of, counts_of}
use Rattle.tour.specs.Wear.{Result, answers_of, wear_of}
use Rattle.tour.specs.Adding.{is_report, Added, add_store}
use Rattle.tour.specs.Share.{Compared, compare_shares}
use Rattle.tour.specs.Numbers.{report_numbers, numbers_of, wear_in, NumbersAdded, add_numbers, compare_numbers}
use Rattle.tour.specs.Promises.{TenNumbers, NumbersRefused}
use Rattle.tour.specs.declared.Wear as Declared
use Rattle.tour.proofs.Refused.{takes, refused}

-- ---- nothing is lost either way
pub read_back : (w : Declared.Wear) → wear_in (numbers_of w) ≡ w
unfolding wear_in numbers_of
read_back w = refl

-- a list is what stands at its places
placed : (ℕ → ℕ → ℕ) → ℕ → List ℕ
placed at zero = []
placed at (suc n) = at 0 0 ∷ placed (λ i. at (suc i)) n

all_placed : (l : List ℕ) (n : ℕ) → length l ≡ n → placed (get_or l) n ≡ l
unfolding placed
all_placed [] zero e = refl
all_placed [] (suc n) e = let z : ⊥ = omega arith in absurd z
all_placed (a ∷ l) zero e = let z : ⊥ = omega arith in absurd z
all_placed (a ∷ l) (suc n) e = rw (all_placed l n (omega arith))

pub written_back : (numbers : List ℕ) → length numbers ≡ 10 → numbers_of (wear_in numbers) ≡ numbers
unfolding wear_in numbers_of report_numbers placed
written_back numbers e = all_placed numbers 10 e

-- ---- the answers
abbrev ten : List ℕ → Bool
ten numbers = eqb (length numbers) report_numbers

ten-tells : (numbers : List ℕ) → (ten numbers ≡ true) ↔ (length numbers ≡ 10)
unfolding report_numbers
ten-tells numbers = (eqb-true _ _, eq-eqb _ _)

-- a choice between a result with 0 or 15 and one with 7
module _ {A : Type 0} (answer : A → ℕ) (x y : A) (i : answer x ∈ (0 ∷ 15 ∷ [])) (seven : answer y ≡ 7) where
  three-answers : (b : Bool) → answer (cond b x y) ∈ (0 ∷ 7 ∷ 15 ∷ [])
  three-answers true = go i
    where
      go : answer x ∈ (0 ∷ 15 ∷ []) → answer x ∈ (0 ∷ 7 ∷ 15 ∷ [])
      go (inl e) = inl e
      go (inr j) = inr (inr j)
  three-answers false = inr (inl seven)

  seven-tells : (b : Bool) → (answer (cond b x y) ≡ 7) ↔ (b ≡ true → ⊥)
  seven-tells true = (λ e. absurd (not-among 7 (0 ∷ 15 ∷ []) refl i e), λ d. absurd (d refl))
  seven-tells false = (λ e. false≢true, λ d. seven)

added-answers : (w : Declared.Wear) (store : Result) → (add_store w store).answer ∈ (0 ∷ 15 ∷ [])
unfolding add_store
added-answers w store = either_way (λ (a : Added). a.answer ∈ (0 ∷ 15 ∷ [])) (takes w store) _ _ (inl refl) (inr (inl refl))

compared-answers : (a b : Declared.Wear) → (compare_shares a b).answer ∈ (0 ∷ 15 ∷ [])
unfolding compare_shares
compared-answers a b =
    either_way (λ (c : Compared). c.answer ∈ (0 ∷ 15 ∷ [])) (is_report a && is_report b) _ _ (inl refl) (inr (inl refl))

-- what is not taken is left as it was
kept : (numbers : List ℕ) (store : Result) → ((add_numbers numbers store).answer ≡ 0 → ⊥) → (add_numbers numbers store).numbers ≡ numbers
unfolding add_numbers
kept numbers store = go (ten numbers) refl
  where
    added : Bool → NumbersAdded
    added b =
        let a = add_store (wear_in numbers) store in
        cond b (record { answer = a.answer; numbers = numbers_of a.wear }) (record { answer = 7; numbers = numbers })

    go : (b : Bool) → ten numbers ≡ b → ((added b).answer ≡ 0 → ⊥) → (added b).numbers ≡ numbers
    go true e d = rw (refused.refused (wear_in numbers) store d) (written_back numbers ((ten-tells numbers).0 e))
    go false e d = refl

-- and what is not compared has order 0
not-ordered : (a b : List ℕ) → ((compare_numbers a b).answer ≡ 0 → ⊥) → (compare_numbers a b).order ≡ 0
unfolding compare_numbers
not-ordered a b = go (ten a && ten b)
  where
    compared : Bool → Compared
    compared t = cond t (compare_shares (wear_in a) (wear_in b)) (record { answer = 7; order = 0 })

    go : (t : Bool) → ((compared t).answer ≡ 0 → ⊥) → (compared t).order ≡ 0
    go true d = ap (λ (c : Compared). c.order) (refused.not_compared (wear_in a) (wear_in b) d)
    go false d = refl

pub ten-numbers : TenNumbers
unfolding numbers_of wear_in add_numbers compare_numbers report_numbers wear_of counts_of answers_of count_of
ten-numbers =
    record {
      read = read_back;
      written = written_back;
      empty = refl;
      adds = λ w store. refl;
      compares = λ a b. refl;
    }

pub numbers-refused : NumbersRefused
unfolding add_numbers compare_numbers
numbers-refused =
    record {
      refused = kept;
      answers = λ numbers store.
          three-answers (λ (a : NumbersAdded). a.answer) _ _ (added-answers (wear_in numbers) store) refl (ten numbers);
      seven = λ numbers store.
          Iff.trans (seven-tells (λ (a : NumbersAdded). a.answer) _ _ (added-answers (wear_in numbers) store) refl (ten numbers))
          (Iff.not (ten-tells numbers));
      compare_answers = λ a b.
          three-answers (λ (c : Compared). c.answer) _ _ (compared-answers (wear_in a) (wear_in b)) refl (ten a && ten b);
      compare_seven = λ a b.
          Iff.trans (seven-tells (λ (c : Compared). c.answer) _ _ (compared-answers (wear_in a) (wear_in b)) refl (ten a && ten b))
          (Iff.not (Iff.trans (and-eq-true_iff (ten a) (ten b)) (Iff.and (ten-tells a) (ten-tells b))));
      not_compared = not-ordered;
    }
