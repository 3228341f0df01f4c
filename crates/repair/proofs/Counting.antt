-- What stands beside the groups decides the answer.
use mathlib.Core.Path.{◌≡◌, refl, sym, ap, ap₂, ◌∙◌}
use mathlib.Core.Bool.{Bool, true, false, cond, ◌&&◌, ◌||◌}
use mathlib.Core.List.{List, [], ◌∷◌, map}
use Prim.Native.Nat.{ℕ, zero, suc, ◌+◌, ◌*◌, ◌<◌}
use native.Mathlib.Omega.{arith}
use borrow.Author.Tests.{eq-eqb, ne_eqb}
use lib.Dec.{eqb}
use lib.ListN.{length, get_or}
use Rattle.gf2.specs.Word.{Word, ◌⊕◌, is_zero}
use Rattle.linecode.specs.Code.{up_from}
use Rattle.scheme.specs.Visit.{Group, State, line_at, sum}
use Rattle.scheme.specs.Repair.{faulty_count, agrees, answer}
use Rattle.rectangle.specs.Store.{bytes_at}
use Rattle.rectangle.specs.Refusals.{every}
use Rattle.scheme.specs.Parity.{no_lines}
use Rattle.groups.specs.Lent.{Tracked, count_to, all_zero, agrees_at, group_of, members_of}
use Rattle.repair.specs.Lent.{used_group, all_groups}
use Rattle.groups.proofs.Counts.{rows-together}
use Rattle.groups.proofs.Added.{zero-line_of}

module _ (rows columns : ℕ) (parity : ℕ → Word) (lacks faulty : List ℕ) (s : State) (tracked : Tracked rows columns parity lacks faulty s) where
  module _ (size : length s ≡ rows * columns) where
    pub count-all : count_to faulty rows ≡ faulty_count s
    count-all = rows-together rows columns faulty s (λ r h. (tracked r (omega arith)).number) size

    -- ---- the answer
    agrees-every : (G : ℕ → Group) (l : List ℕ) → agrees (map G l) s ≡ every (λ k. is_zero (sum (line_at s) (G k).members ⊕ (G k).parity)) l
    agrees-every G [] = refl
    agrees-every G (k ∷ l) = ap (λ (b : Bool). is_zero (sum (line_at s) (G k).members ⊕ (G k).parity) && b) (agrees-every G l)

    every-below : (f g : ℕ → Bool) (i n : ℕ) → ((k : ℕ) → k < i + n → f k ≡ g k) → every f (up_from i n) ≡ every g (up_from i n)
    every-below f g i zero h = refl
    every-below f g i (suc n) h =
        ap₂ ◌&&◌ (h i (omega arith)) (every-below f g (suc i) n (λ k l. h k (omega arith)))

    -- with the marks of the parity lines
    module _ (pm : List ℕ) where
      -- a group agrees where it is unusable, or its difference is 0
      one-agrees : (k : ℕ) → k < rows + columns
          → is_zero (sum (line_at s) (used_group rows columns pm parity k).members ⊕ (used_group rows columns pm parity k).parity) ≡ agrees_at lacks pm k
      unfolding used_group agrees_at
      one-agrees k h = go (eqb (get_or pm k 0) 4)
        where
          go : (b : Bool) → let g : Group = cond b no_lines (group_of rows columns parity k) in
              is_zero (sum (line_at s) g.members ⊕ g.parity) ≡ (b || all_zero (bytes_at lacks k))
          go true = refl
          go false =
              sym (ap all_zero (tracked k h).lack ∙ zero-line_of (sum (line_at s) (members_of rows columns k) ⊕ parity k) (tracked k h).long)

      all-agree : agrees (all_groups rows columns pm parity) s ≡ every (agrees_at lacks pm) (up_from 0 (rows + columns))
      unfolding all_groups
      all-agree =
          agrees-every (used_group rows columns pm parity) (up_from 0 (rows + columns))
          ∙ every-below _ (agrees_at lacks pm) 0 (rows + columns) (λ k l. one-agrees k (omega arith))

      module _ (f : ℕ) (f-is : f ≡ count_to faulty rows) where
        pub answer-faulty : (f ≡ 0 → ⊥) → 11 ≡ answer (all_groups rows columns pm parity) s
        unfolding answer
        answer-faulty d =
            sym (ap (λ (b : Bool). cond b (cond (agrees (all_groups rows columns pm parity) s) 0 12) 11)
            (ne_eqb (faulty_count s) 0 (λ (z : faulty_count s ≡ 0). d (f-is ∙ count-all ∙ z))))

        pub answer-none : f ≡ 0 → (a : Bool) → every (agrees_at lacks pm) (up_from 0 (rows + columns)) ≡ a
            → cond a 0 12 ≡ answer (all_groups rows columns pm parity) s
        unfolding answer
        answer-none z a p =
            sym (ap₂ (λ (x y : Bool). cond x (cond y 0 12) 11) (eq-eqb (faulty_count s) 0 (sym (f-is ∙ count-all) ∙ z)) (all-agree ∙ p))
