-- Where a number first stands in a list.
use mathlib.Core.Path.{◌≡◌, refl, sym, ap, ◌∙◌}
use mathlib.Core.Bool.{Bool, true, false, cond}
use mathlib.Core.List.{List, [], ◌∷◌, ◌++◌}
use Prim.Native.Nat.{ℕ, zero, suc, ◌+◌, ◌≤◌, ◌<◌, suc-le-suc}
use native.Mathlib.Nat.{not-suc-le-zero, le_of_suc-le-suc, zero-lt-suc, suc_inj, zero-add, suc-add}
use native.Mathlib.Omega.{arith}
use borrow.Author.Tests.{eqb-true, eq-eqb, ne_eqb}
use lib.Dec.{eqb}
use lib.ListN.{length, get_or}
use Rattle.linecode.specs.Code.{index_of}

module _ (n : ℕ) where
  here : (m : ℕ) (ms : List ℕ) → n ≡ m → index_of n (m ∷ ms) ≡ zero
  here m ms e = ap (λ (b : Bool). cond b zero (suc (index_of n ms))) (eq-eqb n m e)

  later : (m : ℕ) (ms : List ℕ) → (n ≡ m → ⊥) → index_of n (m ∷ ms) ≡ suc (index_of n ms)
  later m ms d = ap (λ (b : Bool). cond b zero (suc (index_of n ms))) (ne_eqb n m d)

  pub index_of-le : (ns : List ℕ) → index_of n ns ≤ length ns
  index_of-le [] = omega arith
  index_of-le (m ∷ ms) = go (eqb n m) (index_of-le ms)
    where
      go : (b : Bool) → index_of n ms ≤ length ms → cond b zero (suc (index_of n ms)) ≤ suc (length ms)
      go true h = omega arith
      go false h = suc-le-suc h

  -- what stands there is the number
  pub index_of-found : (ns : List ℕ) → index_of n ns < length ns → get_or ns (index_of n ns) 0 ≡ n
  index_of-found [] h = absurd (not-suc-le-zero h)
  index_of-found (m ∷ ms) h = go (eqb n m) refl h (index_of-found ms)
    where
      go : (b : Bool) → eqb n m ≡ b → cond b zero (suc (index_of n ms)) < suc (length ms)
          → (index_of n ms < length ms → get_or ms (index_of n ms) 0 ≡ n) → get_or (m ∷ ms) (cond b zero (suc (index_of n ms))) 0 ≡ n
      go true e h found = sym (eqb-true n m e)
      go false e h found = found (le_of_suc-le-suc h)

  pub index_of-at : (ns : List ℕ) (i : ℕ) → i < length ns → get_or ns i 0 ≡ n → ((j : ℕ) → j < i → get_or ns j 0 ≡ n → ⊥)
      → index_of n ns ≡ i
  index_of-at [] i h e before = absurd (not-suc-le-zero h)
  index_of-at (m ∷ ms) zero h e before = here m ms (sym e)
  index_of-at (m ∷ ms) (suc i) h e before =
      later m ms (λ (q : n ≡ m). before zero (zero-lt-suc i) (sym q))
      ∙ ap suc (index_of-at ms i (le_of_suc-le-suc h) e (λ (j : ℕ) (l : j < i). before (suc j) (suc-le-suc l)))

  pub index_of-absent : (ns : List ℕ) → ((j : ℕ) → j < length ns → get_or ns j 0 ≡ n → ⊥) → index_of n ns ≡ length ns
  index_of-absent [] none = refl
  index_of-absent (m ∷ ms) none =
      later m ms (λ (q : n ≡ m). none zero (zero-lt-suc (length ms)) (sym q))
      ∙ ap suc (index_of-absent ms (λ (j : ℕ) (l : j < length ms). none (suc j) (suc-le-suc l)))

  -- in two lists, one after the other
  pub index_of-left : (ms ns : List ℕ) → index_of n ms < length ms → index_of n (ms ++ ns) ≡ index_of n ms
  index_of-left [] ns h = absurd (not-suc-le-zero h)
  index_of-left (m ∷ ms) ns h = go (eqb n m) h (index_of-left ms ns)
    where
      go : (b : Bool) → cond b zero (suc (index_of n ms)) < suc (length ms)
          → (index_of n ms < length ms → index_of n (ms ++ ns) ≡ index_of n ms)
          → cond b zero (suc (index_of n (ms ++ ns))) ≡ cond b zero (suc (index_of n ms))
      go true h same = refl
      go false h same = ap suc (same (le_of_suc-le-suc h))

  pub index_of-right : (ms ns : List ℕ) → index_of n ms ≡ length ms → index_of n (ms ++ ns) ≡ length ms + index_of n ns
  index_of-right [] ns e = sym (zero-add (index_of n ns))
  index_of-right (m ∷ ms) ns e = go (eqb n m) e (index_of-right ms ns)
    where
      go : (b : Bool) → cond b zero (suc (index_of n ms)) ≡ suc (length ms)
          → (index_of n ms ≡ length ms → index_of n (ms ++ ns) ≡ length ms + index_of n ns)
          → cond b zero (suc (index_of n (ms ++ ns))) ≡ suc (length ms) + index_of n ns
      go true e same = let z : ⊥ = omega arith in absurd z
      go false e same = ap suc (same (suc_inj e)) ∙ sym (suc-add (length ms) (index_of n ns))
