-- The five counts add up to the marks, exactly where all of them are 0 to 4.
use mathlib.Core.Path.{◌≡◌, refl, sym, ◌∙◌}
use mathlib.Core.Logic.{◌↔◌}
use mathlib.Core.Bool.{Bool, true, false, ◌&&◌, true≢false, and-eq-true_iff}
use mathlib.Core.List.{List, [], ◌∷◌}
use Prim.Native.Nat.{ℕ, zero, suc, ◌≤◌, ◌<◌}
use native.Mathlib.Omega.{arith}
use borrow.Author.Tests.{leb-true, leb-false, le-leb, eq-eqb, ne_eqb}
use lib.Dec.{eqb, leb}
use lib.ListN.{length, get_or}
use Rattle.rectangle.specs.Refusals.{every}
use Rattle.results.specs.Marks.{count_of, counts_of, total}
use Rattle.results.specs.Promises.{CountsAddUp}

-- one mark more is counted once, and another byte not at all
one_more : (m : ℕ) (rest : List ℕ) → m ≤ 4 → total (counts_of (m ∷ rest)) ≡ suc (total (counts_of rest))
unfolding counts_of count_of
one_more zero rest h = omega arith
one_more (suc zero) rest h = omega arith
one_more (suc (suc zero)) rest h = omega arith
one_more (suc (suc (suc zero))) rest h = omega arith
one_more (suc (suc (suc (suc zero)))) rest h = omega arith
one_more (suc (suc (suc (suc (suc m))))) rest h = let z : ⊥ = omega arith in absurd z

no_more : (m : ℕ) (rest : List ℕ) → 4 < m → total (counts_of (m ∷ rest)) ≡ total (counts_of rest)
unfolding counts_of count_of
no_more m rest h =
    rw (
      ne_eqb m 0 (λ e. omega (arith, e)),
      ne_eqb m 1 (λ e. omega (arith, e)),
      ne_eqb m 2 (λ e. omega (arith, e)),
      ne_eqb m 3 (λ e. omega (arith, e)),
      ne_eqb m 4 (λ e. omega (arith, e)),
    )

abbrev is_mark : ℕ → Bool
is_mark m = leb m 4

-- what the counts of a list are, by whether all of it are marks
record Tells (marks : List ℕ) : Type 0 where
  all : every is_mark marks ≡ true → total (counts_of marks) ≡ length marks
  some : every is_mark marks ≡ false → total (counts_of marks) < length marks
  most : total (counts_of marks) ≤ length marks

tells : (marks : List ℕ) → Tells marks
unfolding counts_of count_of
tells [] = record { all = λ e. refl; some = λ e. absurd (true≢false e); most = omega arith }
tells (m ∷ rest) = go (leb m 4) refl (tells rest)
  where
    go : (t : Bool) → leb m 4 ≡ t → Tells rest → Tells (m ∷ rest)
    go true e r =
        let one = one_more m rest (leb-true m 4 e) in
        record {
          all = λ f. omega (arith, one, r.all ((and-eq-true_iff (leb m 4) _).0 f).1);
          some = λ f. omega (arith, one, r.some (rest-fails f));
          most = omega (arith, one, r.most);
        }
      where
        rest-fails : leb m 4 && every is_mark rest ≡ false → every is_mark rest ≡ false
        rest-fails f = rw e at f
    go false e r =
        let none = no_more m rest (leb-false m 4 e) in
        record {
          all = λ f. absurd (true≢false (sym ((and-eq-true_iff (leb m 4) _).0 f).0 ∙ e));
          some = λ f. omega (arith, none, r.most);
          most = omega (arith, none, r.most);
        }

-- as a test
pub counts-tell-marks : (marks : List ℕ) → eqb (total (counts_of marks)) (length marks) ≡ every is_mark marks
counts-tell-marks marks = go (every is_mark marks) refl
  where
    go : (t : Bool) → every is_mark marks ≡ t → eqb (total (counts_of marks)) (length marks) ≡ t
    go true e = eq-eqb _ _ ((tells marks).all e)
    go false e =
        let less = (tells marks).some e in ne_eqb (total (counts_of marks)) (length marks) (λ f. omega (arith, less, f))

-- every one of a list is a mark, by its places
marks-high : (l : List ℕ) → every is_mark l ≡ true → (n : ℕ) → n < length l → get_or l n 0 ≤ 4
marks-high [] e n h = let z : ⊥ = omega arith in absurd z
marks-high (m ∷ l) e zero h = leb-true m 4 ((and-eq-true_iff (is_mark m) _).0 e).0
marks-high (m ∷ l) e (suc n) h = marks-high l ((and-eq-true_iff (is_mark m) _).0 e).1 n (omega arith)

high-marks : (l : List ℕ) → ((n : ℕ) → n < length l → get_or l n 0 ≤ 4) → every is_mark l ≡ true
high-marks [] h = refl
high-marks (m ∷ l) h = rw (le-leb m 4 (h 0 (omega arith))) (high-marks l (λ n i. h (suc n) (omega (arith, i))))

pub all-marks : (l : List ℕ) → (every is_mark l ≡ true) ↔ ((n : ℕ) → n < length l → get_or l n 0 ≤ 4)
all-marks l = (marks-high l, high-marks l)

pub counts-add-up : CountsAddUp
counts-add-up marks =
    (λ e. marks-high marks (sym (counts-tell-marks marks) ∙ eq-eqb _ _ e), λ small. (tells marks).all (high-marks marks small))

pub counts-few : (marks : List ℕ) → total (counts_of marks) ≤ length marks
counts-few marks = (tells marks).most
