-- Where no trial took, repair's marks (1 read as 0) and passes are the forecast's.
use mathlib.Core.Path.{◌≡◌, refl, sym, ap, ap₂, ◌∙◌}
use mathlib.Core.Logic.{◌⊎◌, inl, inr}
use mathlib.Core.Bool.{Bool, true, false, cond}
use mathlib.Core.List.{List, [], ◌∷◌, map}
use Prim.Native.Nat.{ℕ, zero, suc, ◌<◌}
use native.Mathlib.Decide.{ℕ_discrete}
use native.Mathlib.Omega.{arith}
use borrow.Author.Tests.{eqb-true}
use lib.Dec.{eqb}
use lib.ListN.{length, get_or, drop, set, get_or-map}
use lib.Seq.{get_or-set_other, ext_get_or}
use Rattle.gf2.specs.Word.{flip}
use Rattle.scheme.specs.Layer.{Cell, Reading}
use Rattle.scheme.specs.Visit.{Group, State, cell_at, is_faulty, select, faulty_of, rebuild, rebuild_only, settle, mismatch, try_places, try_lines, triable, trial, visit}
use Rattle.scheme.specs.Repair.{Repaired, pass, faulty_count, passes_from, marks_of}
use Rattle.scheme.specs.Forecast.{never, SameLines, NoneByTrial, as_forecast, SameMarks, Exact, ForecastExact}
use Rattle.scheme.proofs.Lists.{select-ext, map-set}
use Rattle.scheme.proofs.Grows.{Grows, grows_at, grows-refl, grows-trans, grows-length, kept-accepted}
use Rattle.scheme.proofs.Steps.{settle-grows, trial-grows, pass-grows}
use Rattle.scheme.proofs.Passes.{by-rounds, no-pass, last-pass, one-more-pass}
use Rattle.scheme.proofs.Within.{only-settles}

-- ---- a trial that took is seen by its mark
-- a line stays as it is, or has mark 2
abbrev Tried : Cell → Cell → Type 0
Tried c d = (d ≡ c) ⊎ (d.mark ≡ 2)

-- what is put in a line's place stands there, or the place is past the end
put-tried : (s : State) (n : ℕ) (c : Cell) → Tried (cell_at s n) c → Tried (cell_at s n) (cell_at (set s n c) n)
put-tried [] n c h = inl refl
put-tried (d ∷ s) zero c h = h
put-tried (d ∷ s) (suc n) c h = put-tried s n c h

module _ (read : Reading) where
  tried-places : (n : ℕ) (c : Cell) (ps : List ℕ) → Tried c (try_places read n c ps)
  tried-places n c [] = inl refl
  tried-places n c (p ∷ ps) = go (is_faulty (read n (flip p c.line))) (tried-places n c ps)
    where
      go : (b : Bool) → Tried c (try_places read n c ps)
          → Tried c (cond b (try_places read n c ps) (record { line = (read n (flip p c.line)).line; mark = 2 }))
      go true h = h
      go false h = inr refl

  tried-lines : (ps : List ℕ) (s : State) (ns : List ℕ) (m : ℕ) → Tried (cell_at s m) (cell_at (try_lines read ps s ns) m)
  tried-lines ps s [] m = inl refl
  tried-lines ps s (n ∷ ns) m = go (tried-lines ps after ns m) (here (ℕ_discrete m n))
    where
      tried : Cell
      tried = cond (is_faulty (cell_at s n)) (try_places read n (cell_at s n) ps) (cell_at s n)

      after : State
      after = set s n tried

      own : (b : Bool) → Tried (cell_at s n) (cond b (try_places read n (cell_at s n) ps) (cell_at s n))
      own true = tried-places n (cell_at s n) ps
      own false = inl refl

      here : Dec (m ≡ n) → Tried (cell_at s m) (cell_at after m)
      here (no d) = inl (get_or-set_other s n m tried _ d)
      here (yes e) = rw e (put-tried s n tried (own (is_faulty (cell_at s n))))

      go : Tried (cell_at after m) (cell_at (try_lines read ps after ns) m) → Tried (cell_at s m) (cell_at after m)
          → Tried (cell_at s m) (cell_at (try_lines read ps after ns) m)
      go (inl e) (inl f) = inl (e ∙ f)
      go (inl e) (inr f) = inr (ap (λ c. c.mark) e ∙ f)
      go (inr e) f = inr e

  tried-trial : (g : Group) (s : State) (m : ℕ) → Tried (cell_at s m) (cell_at (trial read g s) m)
  unfolding trial
  tried-trial g s m = go (triable g s)
    where
      go : (b : Bool) → Tried (cell_at s m) (cell_at (cond b (try_lines read (mismatch g s) s g.members) s) m)
      go true = tried-lines (mismatch g s) s g.members m
      go false = inl refl

-- a mark 2 stays
none_before : {s t : State} → Grows s t → NoneByTrial t → NoneByTrial s
none_before g none n e = none n (ap (λ c. c.mark) (kept-accepted (grows_at g n) (λ (f : _ ≡ 4). omega arith)) ∙ e)

-- a visit that mends no line by trial: a line with mark 2 had it before
abbrev NoNewTrial : State → State → Type 0
NoNewTrial before after = (n : ℕ) → (cell_at after n).mark ≡ 2 → (cell_at before n).mark ≡ 2

no-trial : (read : Reading) (g : Group) (s : State) → NoNewTrial s (visit read g s) → trial read g s ≡ s
unfolding visit
no-trial read g s none =
    ext_get_or _ (trial read g s) s (grows-length (trial-grows read g s)) (λ m h. go m (tried-trial read g s m))
  where
    -- an accepted line stays
    stays : {t u : State} → Grows t u → (m : ℕ) → (cell_at t m).mark ≡ 2 → cell_at u m ≡ cell_at t m
    stays g m e = kept-accepted (grows_at g m) (λ (f : _ ≡ 4). omega arith)

    go : (m : ℕ) → Tried (cell_at s m) (cell_at (trial read g s) m) → cell_at (trial read g s) m ≡ cell_at s m
    go m (inl e) = e
    go m (inr e) =
        stays (trial-grows read g s) m (none m (ap (λ c. c.mark) (stays (settle-grows g (trial read g s)) m e) ∙ e))

no-trial-visit : (read : Reading) (g : Group) (s : State) → NoNewTrial s (visit read g s) → visit read g s ≡ settle g s
unfolding visit
no-trial-visit read g s none = ap (settle g) (no-trial read g s none)

-- ---- the same marks, 1 read as 0: a visit keeps them, and a pass
faulty-as : (m : ℕ) → eqb (as_forecast m) 4 ≡ eqb m 4
faulty-as m = go (eqb m 1) refl
  where
    go : (b : Bool) → eqb m 1 ≡ b → eqb (cond b 0 m) 4 ≡ eqb m 4
    go true e = rw (eqb-true m 1 e)
    go false e = refl

module _ (s t : State) (same : SameMarks s t) where
  same-faulty : (n : ℕ) → is_faulty (cell_at s n) ≡ is_faulty (cell_at t n)
  same-faulty n =
      sym (faulty-as (cell_at s n).mark)
      ∙ ap (λ m. eqb (as_forecast m) 4) (sym (get_or-map (λ (c : Cell). c.mark) s n (record { line = []; mark = 0 })))
      ∙ ap (λ m. eqb m 4) (sym (get_or-map as_forecast (marks_of s) n 0))
      ∙ ap (λ (l : List ℕ). eqb (get_or l n 0) 4) same
      ∙ ap (λ m. eqb m 4) (get_or-map (λ (c : Cell). c.mark) t n (record { line = []; mark = 0 }))

  same-settle : (g h : Group) → g.members ≡ h.members → SameMarks (settle g s) (settle h t)
  unfolding settle rebuild
  same-settle g h e =
      rw (ap (faulty_of s) e ∙ select-ext _ _ h.members (λ n i. same-faulty n)) (go (faulty_of t h.members))
    where
      put : (n : ℕ) (c d : Cell) → c.mark ≡ 3 → d.mark ≡ 3 → SameMarks (set s n c) (set t n d)
      put n c d i j =
          ap (map as_forecast) (map-set (λ x. x.mark) s n c) ∙ map-set as_forecast (marks_of s) n c.mark
          ∙ ap₂ (λ l m. set l n m) same (ap as_forecast i ∙ sym j) ∙ sym (map-set (λ x. x.mark) t n d)

      go : (l : List ℕ) → SameMarks (rebuild_only g s l) (rebuild_only h t l)
      go [] = same
      go (n ∷ []) = put n _ _ refl refl
      go (n ∷ m ∷ l) = same

same_count : (s t : State) → SameMarks s t → faulty_count s ≡ faulty_count t
same_count [] [] same = refl
same_count [] (d ∷ t) same = let z : ⊥ = omega (arith, ap length same) in absurd z
same_count (c ∷ s) [] same = let z : ⊥ = omega (arith, ap length same) in absurd z
same_count (c ∷ s) (d ∷ t) same =
    go (is_faulty c) (is_faulty d) refl refl (same-faulty (c ∷ s) (d ∷ t) same 0) (same_count s t (ap (drop 1) same))
  where
    go : (a b : Bool) → is_faulty c ≡ a → is_faulty d ≡ b → is_faulty c ≡ is_faulty d → faulty_count s ≡ faulty_count t
        → faulty_count (c ∷ s) ≡ faulty_count (d ∷ t)
    go a b e f g h = rw (g, f) (both b h)
      where
        both : (b : Bool) → faulty_count s ≡ faulty_count t
            → length (cond b (c ∷ select is_faulty s) (select is_faulty s)) ≡ length (cond b (d ∷ select is_faulty t) (select is_faulty t))
        both true h = ap suc h
        both false h = h

-- ---- where the store that is reached tells that no trial took, a visit only settles: a pass keeps the marks, and so do all passes
module _ (read : Reading) (Untried : State → Type 0) (settles : (g : Group) (s : State) → Untried (visit read g s) → visit read g s ≡ settle g s)
    (before : (s t : State) → Grows s t → Untried t → Untried s) where
  same-visit : (g h : Group) → g.members ≡ h.members → (s t : State) → SameMarks s t → Untried (visit read g s)
      → SameMarks (visit read g s) (visit never h t)
  same-visit g h e s t same none = rw (settles g s none, only-settles h t) (same-settle s t same g h e)

  same-pass : (gs hs : List Group) → SameLines gs hs → (s t : State) → SameMarks s t → Untried (pass read gs s)
      → SameMarks (pass read gs s) (pass never hs t)
  same-pass [] [] lines s t same none = same
  same-pass [] (h ∷ hs) lines s t same none = let z : ⊥ = omega (arith, ap length lines) in absurd z
  same-pass (g ∷ gs) [] lines s t same none = let z : ⊥ = omega (arith, ap length lines) in absurd z
  same-pass (g ∷ gs) (h ∷ hs) lines s t same none =
      same-pass gs hs (ap (drop 1) lines) _ _
      (same-visit g h (ap (λ (l : List (List ℕ)). get_or l 0 []) lines) s t same (before _ _ (pass-grows read gs (visit read g s)) none))
      none

  module _ (gs hs : List Group) (lines : SameLines gs hs) where
    -- what repair has left, and that the forecast of the same marks is the same
    abbrev Same : State → Repaired → Type 0
    Same s r = Grows s r.cells × (Untried r.cells → (t : State) → SameMarks s t → Exact r (passes_from never hs t))

    same-passes : (s : State) → Same s (passes_from read gs s)
    same-passes = by-rounds read gs Same none idle more
      where
        none : (s : State) → faulty_count s ≡ 0 → Same s (record { cells = s; passes = 0 })
        none s e = (
          grows-refl s,
          λ untried t same.
              rw (no-pass never hs t (sym (same_count s t same) ∙ e)) (record { marks = same; passes = refl }),
        )

        idle : (s : State) → (faulty_count s ≡ 0 → ⊥) → pass read gs s ≡ s → Same s (record { cells = pass read gs s; passes = 1 })
        idle s some e = (
          pass-grows read gs s,
          λ untried t same.
              let after = same-pass gs hs lines s t same untried in
              let still : faulty_count (pass never hs t) ≡ faulty_count t =
              sym (same_count (pass read gs s) (pass never hs t) after) ∙ ap faulty_count e ∙ same_count s t same in
              rw (last-pass never hs t (λ z. some (same_count s t same ∙ z)) still)
              (record { marks = after; passes = refl }),
        )

        more : (s : State) (later : Repaired) → faulty_count (pass read gs s) < faulty_count s → Same (pass read gs s) later
            → Same s (record { cells = later.cells; passes = suc later.passes })
        more s later less rest = (
          grows-trans (pass-grows read gs s) rest.0,
          λ untried t same.
              let after = same-pass gs hs lines s t same (before _ _ rest.0 untried) in
              let exact = rest.1 untried (pass never hs t) after in
              let count = same_count s t same in
              let left = same_count (pass read gs s) (pass never hs t) after in
              rw (one-more-pass never hs t (λ (z : faulty_count t ≡ 0). omega arith)
              (λ (z : faulty_count (pass never hs t) ≡ faulty_count t). omega arith))
              (record { marks = exact.marks; passes = ap suc exact.passes }),
        )

pub forecast-exact : ForecastExact
forecast-exact =
    record {
      by_visit = λ read g s none. no-trial-visit read g s none ∙ sym (only-settles g s);
      by_passes = λ read gs hs lines s t same none.
          (same-passes read NoneByTrial (λ g u free. no-trial-visit read g u (λ n e. absurd (free n e))) (λ u v g. none_before g) gs hs lines s
          ).1 none t same;
      untried = λ gs hs lines s t same.
          (same-passes never (λ u. Unit {0}) (λ g u free. only-settles g u) (λ u v g free. tt) gs hs lines s).1 tt t same;
    }
