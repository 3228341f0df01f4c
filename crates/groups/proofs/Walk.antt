-- The lines of a group that are left, from one of them on at equal steps.
use mathlib.Core.Path.{◌≡◌, sym, ap, ap₂, ◌∙◌}
use mathlib.Core.Bool.{Bool, cond}
use mathlib.Core.List.{List, [], ◌∷◌}
use Prim.Native.Nat.{ℕ, suc, ◌+◌, ◌-◌, ◌*◌, ◌≤◌, ◌<◌}
use native.Mathlib.Omega.{arith}
use borrow.Author.Tests.{ne_eqb}
use lib.Dec.{eqb}
use lib.ListN.{get_or}
use Rattle.scheme.specs.Visit.{select}
use Rattle.rectangle.specs.Store.{stride}
use Rattle.groups.specs.Lent.{faulty_among}

-- at the start all of it is left
pub all_left : (count : ℕ) → count ≡ count - 0
all_left count = omega arith

-- ---- the lines left after the first i
abbrev pub left : ℕ → ℕ → ℕ → ℕ → List ℕ
left first step count i = stride (first + i * step) step (count - i)

module _ (first step count : ℕ) where
  pub left_all : stride first step count ≡ left first step count 0
  left_all = ap₂ (λ (n m : ℕ). stride n step m) (omega arith) (omega arith)

  pub left-next : (i n : ℕ) → n ≡ first + i * step → i < count → left first step count i ≡ n ∷ left first step count (i + 1)
  left-next i n here h =
      let one : count - i ≡ suc (count - (i + 1)) = omega arith in
      let on : n + step ≡ first + (i + 1) * step = omega arith in
      ap₂ (λ (m k : ℕ). stride m step k) (sym here) one ∙ ap (λ (m : ℕ). n ∷ stride m step (count - (i + 1))) on

  pub left_end : (i : ℕ) → count ≤ i → left first step count i ≡ []
  left_end i h = let none : count - i ≡ 0 = omega arith in ap (stride (first + i * step) step) none

-- ---- the faulty lines among those left
module _ (marks : List ℕ) (n : ℕ) (rest : List ℕ) where
  pub among-faulty : get_or marks n 0 ≡ 4 → faulty_among marks (n ∷ rest) ≡ n ∷ faulty_among marks rest
  unfolding faulty_among
  among-faulty e =
      ap (λ (m : ℕ). cond (eqb m 4) (n ∷ select (λ j. eqb (get_or marks j 0) 4) rest) (select (λ j. eqb (get_or marks j 0) 4) rest)) e

  pub among-other : (get_or marks n 0 ≡ 4 → ⊥) → faulty_among marks (n ∷ rest) ≡ faulty_among marks rest
  unfolding faulty_among
  among-other h =
      ap (λ (b : Bool). cond b (n ∷ select (λ j. eqb (get_or marks j 0) 4) rest) (select (λ j. eqb (get_or marks j 0) 4) rest))
      (ne_eqb (get_or marks n 0) 4 h)
