-- The forecast: with a reading that accepts nothing a visit only settles, and what it leaves faulty bounds what repair leaves.
use mathlib.Core.Path.{◌≡◌, refl, sym, ap, ◌∙◌, subst}
use mathlib.Core.Logic.{◌⊎◌, inl, inr}
use mathlib.Core.Bool.{Bool, true, false, cond, true≢false}
use mathlib.Core.List.{List, [], ◌∷◌}
use Prim.Native.Nat.{ℕ, suc, ◌≤◌, zero-le}
use native.Mathlib.Decide.{ℕ_discrete}
use native.Mathlib.Omega.{arith}
use borrow.Author.Tests.{eqb-true, eq-eqb, eqb-false}
use lib.ListN.{length, get_or, drop, set}
use lib.Seq.{get_or-set_other, set-get_or}
use Rattle.scheme.specs.Layer.{Cell, Reading}
use Rattle.scheme.specs.Visit.{Group, State, cell_at, is_faulty, select, faulty_of, rebuild, rebuild_only, settle, mismatch, try_places, try_lines, triable, trial, visit}
use Rattle.scheme.specs.Repair.{pass, faulty_count, passes_from}
use Rattle.scheme.specs.Demand3.{◌∈◌}
use Rattle.scheme.specs.Forecast.{never, SameLines, FaultyWithin, ForecastBounds, StoppingSet, ForecastEnds}
use Rattle.scheme.proofs.Lists.{selected}
use Rattle.scheme.proofs.Grows.{grows-count, none-counted, none_found}
use Rattle.scheme.proofs.Steps.{not-one, pass-grows}
use Rattle.scheme.proofs.Passes.{by-rounds, passes-end, idle-visits}
use Rattle.scheme.proofs.Stays.{never_altered}
use Rattle.scheme.proofs.Mends.{only-mended}

-- ---- no trial takes
tries-nothing : (n : ℕ) (c : Cell) (ps : List ℕ) → try_places never n c ps ≡ c
tries-nothing n c [] = refl
tries-nothing n c (p ∷ ps) = tries-nothing n c ps

lines-try-nothing : (ps : List ℕ) (s : State) (ns : List ℕ) → try_lines never ps s ns ≡ s
lines-try-nothing ps s [] = refl
lines-try-nothing ps s (n ∷ ns) =
    let later : (t : State) → try_lines never ps t ns ≡ t = λ t. lines-try-nothing ps t ns in
    later _ ∙ go (is_faulty (cell_at s n))
  where
    go : (b : Bool) → set s n (cond b (try_places never n (cell_at s n) ps) (cell_at s n)) ≡ s
    go true = ap (set s n) (tries-nothing n (cell_at s n) ps) ∙ set-get_or s n _
    go false = set-get_or s n _

pub only-settles : (g : Group) (s : State) → visit never g s ≡ settle g s
unfolding visit trial
only-settles g s = ap (settle g) (go (triable g s))
  where
    go : (b : Bool) → cond b (try_lines never (mismatch g s) s g.members) s ≡ s
    go true = lines-try-nothing (mismatch g s) s g.members
    go false = refl

-- ---- the only one that a wider test selects
module _ (p q : ℕ → Bool) (within : (n : ℕ) → p n ≡ true → q n ≡ true) where
  narrower : (a : ℕ) → q a ≡ false → p a ≡ false
  narrower a e = go (p a) refl
    where
      go : (b : Bool) → p a ≡ b → b ≡ false
      go true h = sym (within a h) ∙ e
      go false h = refl

  none-selected : (l : List ℕ) → select q l ≡ [] → select p l ≡ []
  none-selected [] e = refl
  none-selected (a ∷ l) e = go (q a) refl e (none-selected l)
    where
      go : (b : Bool) → q a ≡ b → cond b (a ∷ select q l) (select q l) ≡ [] → (select q l ≡ [] → select p l ≡ []) → select p (a ∷ l) ≡ []
      go true h i rest = let z : ⊥ = omega (arith, ap length i) in absurd z
      go false h i rest = rw (narrower a h) (rest i)

  only-selected : (l : List ℕ) (n : ℕ) → select q l ≡ n ∷ [] → p n ≡ true → select p l ≡ n ∷ []
  only-selected [] n e h = let z : ⊥ = omega (arith, ap length e) in absurd z
  only-selected (a ∷ l) n e h = go (q a) refl e (λ f. only-selected l n f h)
    where
      go : (b : Bool) → q a ≡ b → cond b (a ∷ select q l) (select q l) ≡ n ∷ [] → (select q l ≡ n ∷ [] → select p l ≡ n ∷ [])
          → select p (a ∷ l) ≡ n ∷ []
      go true i j rest =
          let same : a ≡ n = ap (λ (k : List ℕ). get_or k 0 0) j in
          let none : select q l ≡ [] = ap (drop 1) j in
          rw (ap p same ∙ h, none-selected l none, same)
      go false i j rest = rw (narrower a i) (rest j)

-- ---- faulty here implies faulty there: a visit keeps it, and a pass
module _ (read : Reading) where
  within-visit : (g h : Group) → g.members ≡ h.members → (s t : State) → FaultyWithin s t
      → FaultyWithin (visit read g s) (visit never h t)
  unfolding settle rebuild
  within-visit g h same s t within n e = rw (only-settles h t) (go (faulty_of t h.members) refl)
    where
      was : (cell_at s n).mark ≡ 4
      was = sym (ap (λ c. c.mark) ((never_altered.by_visit read g s).faulty n e)) ∙ e

      -- had it been alone there, it would have been alone here
      alone : faulty_of t h.members ≡ n ∷ [] → ⊥
      alone only =
          eqb-false _ 4
          (only-mended read g s n
          (only-selected (λ m. is_faulty (cell_at s m)) (λ m. is_faulty (cell_at t m)) (λ m i. eq-eqb _ 4 (within m (eqb-true _ 4 i)))
          g.members n (ap (faulty_of t) same ∙ only) (eq-eqb _ 4 was)))
          e

      go : (l : List ℕ) → faulty_of t h.members ≡ l → (cell_at (rebuild_only h t l) n).mark ≡ 4
      go [] i = within n was
      go (m ∷ []) i = one (ℕ_discrete n m)
        where
          one : Dec (n ≡ m) → (cell_at (rebuild_only h t (m ∷ [])) n).mark ≡ 4
          one (yes j) = absurd (alone (i ∙ ap (λ k. k ∷ []) (sym j)))
          one (no j) = ap (λ c. c.mark) (get_or-set_other t m n _ _ j) ∙ within n was
      go (m ∷ k ∷ l) i = within n was

  within-pass : (gs hs : List Group) → SameLines gs hs → (s t : State) → FaultyWithin s t
      → FaultyWithin (pass read gs s) (pass never hs t)
  within-pass [] [] same s t within = within
  within-pass [] (h ∷ hs) same s t within = let z : ⊥ = omega (arith, ap length same) in absurd z
  within-pass (g ∷ gs) [] same s t within = let z : ⊥ = omega (arith, ap length same) in absurd z
  within-pass (g ∷ gs) (h ∷ hs) same s t within =
      within-pass gs hs (ap (drop 1) same) _ _ (within-visit g h (ap (λ (l : List (List ℕ)). get_or l 0 []) same) s t within)

  -- what no pass mends any more, no pass there mends
  module _ (gs hs : List Group) (same : SameLines gs hs) (left : State) where
    within-idle : pass read gs left ≡ left → (t : State) → FaultyWithin left t → FaultyWithin left (passes_from never hs t).cells
    within-idle idle =
        by-rounds never hs (λ t r. FaultyWithin left t → FaultyWithin left r.cells) (λ t none within. within)
        (λ t some e within. step t within) (λ t later less rest within. rest (step t within))
      where
        step : (t : State) → FaultyWithin left t → FaultyWithin left (pass never hs t)
        step t within = subst (λ u. FaultyWithin u (pass never hs t)) idle (within-pass gs hs same left t within)

    within_end : (faulty_count left ≡ 0) ⊎ (pass read gs left ≡ left) → (t : State) → FaultyWithin left t
        → FaultyWithin left (passes_from never hs t).cells
    within_end (inl none) t within n e = absurd (eqb-false _ 4 (none-counted left none n) e)
    within_end (inr idle) t within n e = within-idle idle t within n e

-- and so there are no more of them
within_count : (s t : State) → FaultyWithin s t → faulty_count s ≤ faulty_count t
within_count [] t within = zero-le
within_count (c ∷ s) [] within =
    omega (arith, none_found (c ∷ s) (λ n. clean n (is_faulty (cell_at (c ∷ s) n)) refl))
  where
    clean : (n : ℕ) (b : Bool) → is_faulty (cell_at (c ∷ s) n) ≡ b → b ≡ false
    clean n true e = let z : ⊥ = omega (arith, within n (eqb-true _ 4 e)) in absurd z
    clean n false e = refl
within_count (c ∷ s) (d ∷ t) within =
    go (is_faulty c) (is_faulty d) refl refl (within_count s t (λ n. within (suc n)))
  where
    go : (a b : Bool) → is_faulty c ≡ a → is_faulty d ≡ b → faulty_count s ≤ faulty_count t → faulty_count (c ∷ s) ≤ faulty_count (d ∷ t)
    go true true e f h = rw (e, f) (omega arith)
    go true false e f h = absurd (eqb-false _ 4 f (within 0 (eqb-true _ 4 e)))
    go false true e f h = rw (e, f) (omega arith)
    go false false e f h = rw (e, f) h

pub forecast-bounds : ForecastBounds
forecast-bounds read gs hs same s t within = record { only = only; no_more = within_count (passes_from read gs s).cells (passes_from never hs t).cells only }
  where
    only : FaultyWithin (passes_from read gs s).cells (passes_from never hs t).cells
    only =
        within_end read gs hs same (passes_from read gs s).cells (passes-end read gs s) t
        (λ n e. within n (sym (ap (λ c. c.mark) ((never_altered.by_passes read gs s).faulty n e)) ∙ e))

-- ---- the end: a pass rebuilds nothing, and what is left is the largest stopping set
stopping-idle : (gs : List Group) (left : State) → StoppingSet gs left → pass never gs left ≡ left
stopping-idle [] left stopping = refl
stopping-idle (g ∷ gs) left stopping =
    ap (pass never gs) (only-settles g left ∙ not-one g left (stopping g (inl refl)))
    ∙ stopping-idle gs left (λ h i. stopping h (inr i))

pub forecast-ends : ForecastEnds
forecast-ends gs s =
    record {
      idle = idle;
      stopping = λ g i one. alone g i (faulty_of left g.members) refl one;
      largest = λ part stopping within. within-idle never gs gs refl part (stopping-idle gs part stopping) s within;
    }
  where
    left : State
    left = (passes_from never gs s).cells

    idle : pass never gs left ≡ left
    idle = go (passes-end never gs s)
      where
        go : (faulty_count left ≡ 0) ⊎ (pass never gs left ≡ left) → pass never gs left ≡ left
        go (inl none) = let g = grows-count (pass-grows never gs left) in g.1 (omega (arith, g.0))
        go (inr e) = e

    alone : (g : Group) → g ∈ gs → (l : List ℕ) → faulty_of left g.members ≡ l → length l ≡ 1 → ⊥
    alone g i [] e one = omega arith
    alone g i (n ∷ m ∷ l) e one = omega arith
    alone g i (n ∷ []) e one =
        true≢false
        (sym (selected (λ m. is_faulty (cell_at left m)) g.members n (rw e (inl refl))).1
        ∙ ap (λ u. is_faulty (cell_at u n)) (sym (idle-visits never gs left idle g i))
        ∙ only-mended never g left n e)
