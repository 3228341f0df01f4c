-- Counting marks: lists one after the other, and mark after mark.
use mathlib.Core.Path.{◌≡◌, refl, sym, ap, ◌∙◌}
use mathlib.Core.Bool.{Bool, true, false, cond}
use mathlib.Core.List.{List, [], ◌∷◌, ◌++◌}
use Prim.Native.Nat.{ℕ, suc, ◌+◌, ◌≤◌, ◌<◌}
use native.Mathlib.Numerals.{add-one}
use native.Mathlib.Omega.{arith}
use lib.Dec.{eqb}
use lib.ListN.{length, drop, get_or, drop_of_length-le}
use lib.Seq.{drop-cons}
use Rattle.std.specs.Int.{from_bool}
use Rattle.scheme.specs.Visit.{select}
use Rattle.results.specs.Marks.{count_of, counts_of, plus_counts}
use Rattle.results.specs.Promises.{CountsTogether}

module _ (mark : ℕ) where
  pub count-together : (a b : List ℕ) → count_of mark (a ++ b) ≡ count_of mark a + count_of mark b
  unfolding count_of
  count-together [] b = omega arith
  count-together (m ∷ a) b = go (eqb m mark) (count-together a b)
    where
      test : ℕ → Bool
      test n = eqb n mark

      go : (t : Bool) → length (select test (a ++ b)) ≡ length (select test a) + length (select test b)
          → length (cond t (m ∷ select test (a ++ b)) (select test (a ++ b)))
          ≡ length (cond t (m ∷ select test a) (select test a)) + length (select test b)
      go true e = omega (arith, e)
      go false e = e

  -- no more than there are
  pub count-few : (l : List ℕ) → count_of mark l ≤ length l
  unfolding count_of
  count-few [] = omega arith
  count-few (m ∷ l) = go (eqb m mark) (count-few l)
    where
      test : ℕ → Bool
      test n = eqb n mark

      go : (t : Bool) → length (select test l) ≤ length l → length (cond t (m ∷ select test l) (select test l)) ≤ suc (length l)
      go true h = omega (arith, h)
      go false h = omega (arith, h)

pub counts-together : CountsTogether
unfolding counts_of plus_counts
counts-together a b = rw (count-together 0 a b, count-together 1 a b, count-together 2 a b, count-together 3 a b, count-together 4 a b)

-- the loop that counts a piece: after i marks, found of them are the mark
pub record Counting (marks : List ℕ) (mark found i : ℕ) : Type 0 where
  pub few : i ≤ length marks
  pub small : found ≤ i
  pub counted : found + count_of mark (drop i marks) ≡ count_of mark marks

pub counting-start : (marks : List ℕ) (mark : ℕ) → Counting marks mark 0 0
counting-start marks mark = record { few = omega arith; small = omega arith; counted = omega arith }

-- whether a mark is found once
one-mark : (mark m : ℕ) → from_bool (eqb m mark) ≡ count_of mark (m ∷ [])
unfolding count_of
one-mark mark m = go (eqb m mark)
  where
    go : (t : Bool) → from_bool t ≡ length (cond t (m ∷ []) [])
    go true = refl
    go false = refl

module _ (marks : List ℕ) (mark found i : ℕ) (p : Counting marks mark found i) where
  pub counting-step : i < length marks → (one : ℕ) → one ≡ from_bool (eqb (get_or marks i 0) mark) → Counting marks mark (found + one) (i + 1)
  counting-step h one e =
      let here = get_or marks i 0 in
      let next : drop i marks ≡ here ∷ drop (i + 1) marks =
      drop-cons marks i 0 h ∙ ap (λ (k : ℕ). here ∷ drop k marks) (sym (add-one i)) in
      let split : count_of mark (drop i marks) ≡ count_of mark (here ∷ []) + count_of mark (drop (i + 1) marks) =
      ap (count_of mark) next ∙ count-together mark (here ∷ []) (drop (i + 1) marks) in
      let most : count_of mark (here ∷ []) ≤ 1 = count-few mark (here ∷ []) in
      let same : one ≡ count_of mark (here ∷ []) = e ∙ one-mark mark here in
      record { few = omega (arith, h); small = omega (arith, p.small, most, same); counted = omega (arith, p.counted, split, same) }

  pub counting-end : length marks ≤ i → found ≡ count_of mark marks
  unfolding count_of
  counting-end h =
      let none : drop i marks ≡ [] = drop_of_length-le marks {i = i} h in
      let zero : count_of mark (drop i marks) ≡ 0 = ap (count_of mark) none in
      omega (arith, p.counted)

pub counts-are : (marks : List ℕ) (clean alone trial rebuilt faulty : ℕ) → clean ≡ count_of 0 marks → alone ≡ count_of 1 marks
    → trial ≡ count_of 2 marks → rebuilt ≡ count_of 3 marks → faulty ≡ count_of 4 marks
    → record { clean = clean; alone = alone; trial = trial; rebuilt = rebuilt; faulty = faulty } ≡ counts_of marks
unfolding counts_of
counts-are marks clean alone trial rebuilt faulty e f g h i = rw (e, f, g, h, i)
