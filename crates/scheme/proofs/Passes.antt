-- The passes: the loop's equation without its bound, its end, and the number of passes.
use mathlib.Core.Path.{◌≡◌, refl, ap, ◌∙◌}
use mathlib.Core.Logic.{◌⊎◌, inl, inr, ◌↔◌}
use mathlib.Core.Bool.{Bool, true, false, cond}
use mathlib.Core.List.{List, [], ◌∷◌}
use Prim.Native.Nat.{ℕ, zero, suc, ◌≤◌, ◌<◌, zero-le}
use native.Mathlib.Nat.{le_refl}
use native.Mathlib.Omega.{arith}
use borrow.Author.Tests.{eqb-true, eqb-false, eq-eqb, ne_eqb}
use lib.Dec.{eqb}
use Rattle.gf2.specs.Word.{Word}
use Rattle.scheme.specs.Layer.{Reading}
use Rattle.scheme.specs.Visit.{Group, State, visit}
use Rattle.scheme.specs.Repair.{read_all, pass, faulty_count, Repaired, passes_up_to, passes_from, LoopOfPasses, repair}
use Rattle.scheme.specs.Demand3.{◌∈◌}
use Rattle.scheme.proofs.Grows.{Grows, grows-refl, grows-trans, grows-count}
use Rattle.scheme.proofs.Steps.{visit-grows, pass-grows}

-- what a round of the loop gives: whether none was faulty, whether the pass mended nothing, the store before and after the
-- pass, and what follows
abbrev round : Bool → Bool → State → State → Repaired → Repaired
round none idle before after later =
    cond none (record { cells = before; passes = 0 })
    (cond idle (record { cells = after; passes = 1 }) (record { cells = later.cells; passes = suc later.passes }))

module _ (read : Reading) (gs : List Group) where
  -- a pass that is not idle mends some line
  mends : (s : State) → eqb (faulty_count (pass read gs s)) (faulty_count s) ≡ false → faulty_count (pass read gs s) < faulty_count s
  mends s e =
      let same : faulty_count (pass read gs s) ≡ faulty_count s → ⊥ = eqb-false _ _ e in
      omega (arith, (grows-count (pass-grows read gs s)).0)

  -- the bound of the loop does not matter where it covers the faulty lines
  bound-free : (k j : ℕ) (s : State) → faulty_count s ≤ k → faulty_count s ≤ j
      → passes_up_to k read gs s ≡ passes_up_to j read gs s
  bound-free zero zero s h i = refl
  bound-free zero (suc j) s h i = rw (eq-eqb (faulty_count s) 0 (omega arith))
  bound-free (suc k) zero s h i = rw (eq-eqb (faulty_count s) 0 (omega arith))
  bound-free (suc k) (suc j) s h i =
      go (eqb (faulty_count s) 0) (eqb (faulty_count (pass read gs s)) (faulty_count s)) refl (bound-free k j (pass read gs s))
    where
      after : State
      after = pass read gs s

      go : (b c : Bool) → eqb (faulty_count after) (faulty_count s) ≡ c
          → (faulty_count after ≤ k → faulty_count after ≤ j → passes_up_to k read gs after ≡ passes_up_to j read gs after)
          → round b c s after (passes_up_to k read gs after) ≡ round b c s after (passes_up_to j read gs after)
      go true c e f = refl
      go false true e f = refl
      go false false e f =
          ap (round false false s after) (f (omega (arith, mends s e)) (omega (arith, mends s e)))

  -- a round of the loop, without its bound
  passes-equation : (s : State) → passes_from read gs s
      ≡ round (eqb (faulty_count s) 0) (eqb (faulty_count (pass read gs s)) (faulty_count s)) s (pass read gs s)
      (passes_from read gs (pass read gs s))
  unfolding passes_from
  passes-equation s = bound-free (faulty_count s) (suc (faulty_count s)) s (le_refl _) (omega arith) ∙ go _ refl
    where
      after : State
      after = pass read gs s

      go : (c : Bool) → eqb (faulty_count after) (faulty_count s) ≡ c
          → round (eqb (faulty_count s) 0) c s after (passes_up_to (faulty_count s) read gs after)
          ≡ round (eqb (faulty_count s) 0) c s after (passes_up_to (faulty_count after) read gs after)
      go true e = refl
      go false e =
          ap (round (eqb (faulty_count s) 0) false s after)
          (bound-free (faulty_count s) (faulty_count after) after (omega (arith, mends s e)) (le_refl _))

  pub no-pass : (s : State) → faulty_count s ≡ 0 → passes_from read gs s ≡ record { cells = s; passes = 0 }
  no-pass s h = passes-equation s ∙ rw (eq-eqb (faulty_count s) 0 h)

  pub last-pass : (s : State) → (faulty_count s ≡ 0 → ⊥) → faulty_count (pass read gs s) ≡ faulty_count s
      → passes_from read gs s ≡ record { cells = pass read gs s; passes = 1 }
  last-pass s h e = passes-equation s ∙ rw (ne_eqb (faulty_count s) 0 h, eq-eqb (faulty_count (pass read gs s)) (faulty_count s) e)

  pub one-more-pass : (s : State) → (faulty_count s ≡ 0 → ⊥) → (faulty_count (pass read gs s) ≡ faulty_count s → ⊥)
      → passes_from read gs s
      ≡ record { cells = (passes_from read gs (pass read gs s)).cells; passes = suc (passes_from read gs (pass read gs s)).passes }
  one-more-pass s h e =
      passes-equation s ∙ rw (ne_eqb (faulty_count s) 0 h, ne_eqb (faulty_count (pass read gs s)) (faulty_count s) e)

  -- a pass that mended nothing changed nothing
  pub idle-pass : (s : State) → faulty_count (pass read gs s) ≡ faulty_count s → pass read gs s ≡ s
  idle-pass s e = (grows-count (pass-grows read gs s)).1 e

  -- a way to prove what holds of every store and what the passes make of it: by the rounds of the loop
  pub by-rounds : (P : State → Repaired → Type 0)
      → ((s : State) → faulty_count s ≡ 0 → P s (record { cells = s; passes = 0 }))
      → ((s : State) → (faulty_count s ≡ 0 → ⊥) → pass read gs s ≡ s → P s (record { cells = pass read gs s; passes = 1 }))
      → ((s : State) → (later : Repaired) → faulty_count (pass read gs s) < faulty_count s → P (pass read gs s) later
      → P s (record { cells = later.cells; passes = suc later.passes }))
      → (s : State) → P s (passes_from read gs s)
  unfolding passes_from
  by-rounds P none idle more s = up_to (faulty_count s) s (le_refl _)
    where
      go : (k : ℕ) (s : State) (b c : Bool) → eqb (faulty_count s) 0 ≡ b
          → eqb (faulty_count (pass read gs s)) (faulty_count s) ≡ c → faulty_count s ≤ suc k
          → (faulty_count (pass read gs s) ≤ k → P (pass read gs s) (passes_up_to k read gs (pass read gs s)))
          → P s (round b c s (pass read gs s) (passes_up_to k read gs (pass read gs s)))
      go k s true c e f h ih = none s (eqb-true _ _ e)
      go k s false true e f h ih = idle s (eqb-false _ _ e) (idle-pass s (eqb-true _ _ f))
      go k s false false e f h ih = more s _ (mends s f) (ih (omega (arith, mends s f)))

      up_to : (k : ℕ) (s : State) → faulty_count s ≤ k → P s (passes_up_to k read gs s)
      up_to zero s h = none s (omega arith)
      up_to (suc k) s h = go k s _ _ refl refl h (up_to k (pass read gs s))

  pub passes-grow : (s : State) → Grows s (passes_from read gs s).cells
  passes-grow s =
      by-rounds (λ s r. Grows s r.cells) (λ s h. grows-refl s) (λ s h e. pass-grows read gs s)
      (λ s later h g. grows-trans (pass-grows read gs s) g) s

  -- at the end no line is faulty, or the last pass changed nothing
  pub passes-end : (s : State)
      → (faulty_count (passes_from read gs s).cells ≡ 0) ⊎ (pass read gs (passes_from read gs s).cells ≡ (passes_from read gs s).cells)
  passes-end s =
      by-rounds (λ s r. (faulty_count r.cells ≡ 0) ⊎ (pass read gs r.cells ≡ r.cells)) (λ s h. inl h)
      (λ s h e. inr (ap (pass read gs) e)) (λ s later h e. e) s

  pub passes-bound : (s : State) → (passes_from read gs s).passes ≤ faulty_count s
  passes-bound s =
      by-rounds (λ s r. r.passes ≤ faulty_count s) (λ s h. zero-le) (λ s h e. omega arith) (λ s later h e. omega arith) s

  pub passes_none : (s : State) → ((passes_from read gs s).passes ≡ 0) ↔ (faulty_count s ≡ 0)
  passes_none s =
      by-rounds (λ s r. (r.passes ≡ 0) ↔ (faulty_count s ≡ 0)) (λ s h. (λ e. h, λ e. refl))
      (λ s h e. omega arith) (λ s later h e. omega arith) s

pub loop-of-passes : LoopOfPasses
loop-of-passes = passes-equation

first-idle : (read : Reading) (f : Group) (gs : List Group) (s : State) → pass read (f ∷ gs) s ≡ s → visit read f s ≡ s
first-idle read f gs s e =
    (grows-count (visit-grows read f s)).1
    (omega
    (arith, ap faulty_count e, (grows-count (visit-grows read f s)).0, (grows-count (pass-grows read gs (visit read f s))).0))

-- of a pass that changed nothing, no visit did
pub idle-visits : (read : Reading) (gs : List Group) (s : State) → pass read gs s ≡ s → (g : Group) → g ∈ gs
    → visit read g s ≡ s
idle-visits read [] s e g h = absurd h
idle-visits read (f ∷ gs) s e g (inl p) = rw p (first-idle read f gs s e)
idle-visits read (f ∷ gs) s e g (inr q) = idle-visits read gs s (rw (first-idle read f gs s e) at e) g q

module _ (read : Reading) (gs : List Group) (found : List Word) where
  -- "Repair also returns its passes: 0 when nothing was faulty after the first reading"
  pub repair-passes-none : ((repair read gs found).passes ≡ 0) ↔ (faulty_count (read_all read 0 found) ≡ 0)
  unfolding repair
  repair-passes-none = passes_none read gs (read_all read 0 found)

  -- "never more than the lines faulty then"
  pub repair-passes-bound : (repair read gs found).passes ≤ faulty_count (read_all read 0 found)
  unfolding repair
  repair-passes-bound = passes-bound read gs (read_all read 0 found)

  -- lines are given up only when a whole pass mends none of them
  pub repair-end : (faulty_count (repair read gs found).cells ≡ 0)
      ⊎ (pass read gs (repair read gs found).cells ≡ (repair read gs found).cells)
  unfolding repair
  repair-end = passes-end read gs (read_all read 0 found)
