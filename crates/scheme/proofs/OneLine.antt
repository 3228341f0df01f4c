-- How much of repair decides one line: a visit is the affair of its group, and a line not faulty by then keeps what it has to the end.
use mathlib.Core.Path.{◌≡◌, refl, sym, ap, ◌∙◌}
use mathlib.Core.Logic.{inl, inr}
use mathlib.Core.Bool.{Bool, true, false, cond}
use mathlib.Core.List.{List, [], ◌∷◌, ◌++◌}
use Prim.Native.Nat.{ℕ, zero, suc}
use native.Mathlib.Nat.{suc_inj}
use native.Mathlib.Omega.{arith}
use borrow.Author.Tests.{eqb-false}
use lib.ListN.{length, set, length-set}
use lib.Seq.{get_or-set_other}
use Rattle.scheme.specs.Layer.{Cell, Reading}
use Rattle.scheme.specs.Visit.{Group, State, cell_at, line_at, is_faulty, faulty_of, without, sum, rebuild, rebuild_only, settle, mismatch, try_lines, triable, trial, visit}
use Rattle.scheme.specs.Repair.{pass, passes_from}
use Rattle.scheme.specs.Demand3.{◌∈◌}
use Rattle.scheme.specs.OneLine.{AlikeIn, VisitLocal, SharesNone, StopsEarly}
use Rattle.scheme.proofs.Lists.{selected, select-ext}
use Rattle.scheme.proofs.Sums.{sum-ext}
use Rattle.scheme.proofs.Grows.{grows-length, none-counted}
use Rattle.scheme.proofs.Steps.{pass-grows}
use Rattle.scheme.proofs.Passes.{by-rounds}
use Rattle.scheme.proofs.Stays.{never_altered}
use Rattle.scheme.proofs.Readings.{choose}

-- ---- a line that is none of the group's
module _ (m : ℕ) where
  tries-other : (read : Reading) (ps : List ℕ) (s : State) (ns : List ℕ) → (m ∈ ns → ⊥) → cell_at (try_lines read ps s ns) m ≡ cell_at s m
  tries-other read ps s [] d = refl
  tries-other read ps s (n ∷ ns) d =
      let later : (t : State) → cell_at (try_lines read ps t ns) m ≡ cell_at t m = λ t. tries-other read ps t ns (λ i. d (inr i)) in
      later _ ∙ get_or-set_other s n m _ _ (λ e. d (inl e))

  trial-other : (read : Reading) (g : Group) (s : State) → (m ∈ g.members → ⊥) → cell_at (trial read g s) m ≡ cell_at s m
  unfolding trial
  trial-other read g s d = go (triable g s)
    where
      go : (b : Bool) → cell_at (cond b (try_lines read (mismatch g s) s g.members) s) m ≡ cell_at s m
      go true = tries-other read (mismatch g s) s g.members d
      go false = refl

  settle_other : (g : Group) (s : State) → (m ∈ g.members → ⊥) → cell_at (settle g s) m ≡ cell_at s m
  unfolding settle rebuild
  settle_other g s d = go (faulty_of s g.members) (λ i. d (selected (λ n. is_faulty (cell_at s n)) g.members m i).0)
    where
      go : (ns : List ℕ) → (m ∈ ns → ⊥) → cell_at (rebuild_only g s ns) m ≡ cell_at s m
      go [] e = refl
      go (n ∷ []) e = get_or-set_other s n m _ _ (λ p. e (inl p))
      go (n ∷ k ∷ ns) e = refl

  visit-other : (read : Reading) (g : Group) (s : State) → (m ∈ g.members → ⊥) → cell_at (visit read g s) m ≡ cell_at s m
  unfolding visit
  visit-other read g s d = settle_other g (trial read g s) d ∙ trial-other read g s d

  pass-other : (read : Reading) (gs : List Group) (s : State) → ((h : Group) → h ∈ gs → m ∈ h.members → ⊥)
      → cell_at (pass read gs s) m ≡ cell_at s m
  pass-other read [] s d = refl
  pass-other read (g ∷ gs) s d = pass-other read gs _ (λ h i. d h (inr i)) ∙ visit-other read g s (d g (inl refl))

-- ---- two stores that are alike in a group; a number past the end of one is past the end of the other
set-alike : (s t : State) (n m : ℕ) (c : Cell) → length s ≡ length t → cell_at s m ≡ cell_at t m
    → cell_at (set s n c) m ≡ cell_at (set t n c) m
set-alike [] [] n m c l e = e
set-alike [] (b ∷ t) n m c l e = let z : ⊥ = omega arith in absurd z
set-alike (a ∷ s) [] n m c l e = let z : ⊥ = omega arith in absurd z
set-alike (a ∷ s) (b ∷ t) zero zero c l e = refl
set-alike (a ∷ s) (b ∷ t) zero (suc m) c l e = e
set-alike (a ∷ s) (b ∷ t) (suc n) zero c l e = e
set-alike (a ∷ s) (b ∷ t) (suc n) (suc m) c l e = set-alike s t n m c (suc_inj l) e

module _ (g : Group) {s t : State} (a : AlikeIn g s t) where
  alike_set : (n : ℕ) {c d : Cell} → c ≡ d → AlikeIn g (set s n c) (set t n d)
  alike_set n {c} {d} e =
      record {
        count = length-set s n c ∙ a.count ∙ sym (length-set t n d);
        cells = λ m i. rw e (set-alike s t n m d a.count (a.cells m i));
      }

  alike-sum : (ns : List ℕ) → ((n : ℕ) → n ∈ ns → n ∈ g.members) → sum (line_at s) ns ≡ sum (line_at t) ns
  alike-sum ns h = sum-ext (line_at s) (line_at t) ns (λ n i. ap (λ (c : Cell). c.line) (a.cells n (h n i)))

  alike-faulty : faulty_of s g.members ≡ faulty_of t g.members
  alike-faulty = select-ext _ _ g.members (λ n i. ap is_faulty (a.cells n i))

  alike-mismatch : mismatch g s ≡ mismatch g t
  unfolding mismatch
  alike-mismatch = rw (alike-sum g.members (λ n i. i))

  alike-triable : triable g s ≡ triable g t
  alike-triable = rw (alike-mismatch, alike-faulty)

  alike-settle : AlikeIn g (settle g s) (settle g t)
  unfolding settle rebuild
  alike-settle = rw alike-faulty (go (faulty_of t g.members))
    where
      go : (ns : List ℕ) → AlikeIn g (rebuild_only g s ns) (rebuild_only g t ns)
      go [] = a
      go (n ∷ []) = alike_set n (rw (alike-sum (without n g.members) (λ m i. (selected _ g.members m i).0)))
      go (n ∷ m ∷ ns) = a

module _ (read : Reading) (g : Group) where
  alike-tries : {s t : State} (ps ns : List ℕ) → ((n : ℕ) → n ∈ ns → n ∈ g.members) → AlikeIn g s t
      → AlikeIn g (try_lines read ps s ns) (try_lines read ps t ns)
  alike-tries ps [] h a = a
  alike-tries ps (n ∷ ns) h a =
      let later : (u v : State) → AlikeIn g u v → AlikeIn g (try_lines read ps u ns) (try_lines read ps v ns) =
      λ u v. alike-tries {s = u} {t = v} ps ns (λ m i. h m (inr i)) in
      later _ _ (alike_set g a n (rw (a.cells n (h n (inl refl)))))

  alike-visit : (s t : State) → AlikeIn g s t → AlikeIn g (visit read g s) (visit read g t)
  unfolding visit trial
  alike-visit s t a =
      alike-settle g
      (choose (AlikeIn g) (alike-triable g a)
      (rw (alike-mismatch g a) (alike-tries (mismatch g t) g.members (λ n i. i) a)) a)

-- the groups before leave this one's lines as they are
alike-pass : (read : Reading) (before : List Group) (g : Group) (s : State) → SharesNone g before
    → AlikeIn g (visit read g (pass read before s)) (visit read g s)
alike-pass read before g s shares =
    alike-visit read g (pass read before s) s
    (record {
      count = grows-length (pass-grows read before s);
      cells = λ m i. pass-other m read before s (λ h j. shares h j m i);
    })

pub visit-local : VisitLocal
visit-local = record { others = λ read g s n. visit-other n read g s; own = alike-visit; in_pass = alike-pass }

-- ---- a line that the first pass leaves accepted
pass-append : (read : Reading) (before after : List Group) (s : State)
    → pass read (before ++ after) s ≡ pass read after (pass read before s)
pass-append read [] after s = refl
pass-append read (g ∷ before) after s = pass-append read before after (visit read g s)

-- it has what all passes give it, also where none was faulty and there is no pass
first-pass : (read : Reading) (gs : List Group) (n : ℕ) (s : State) → ((cell_at (pass read gs s) n).mark ≡ 4 → ⊥)
    → cell_at (passes_from read gs s).cells n ≡ cell_at (pass read gs s) n
first-pass read gs n =
    by-rounds read gs
    (λ s r. ((cell_at (pass read gs s) n).mark ≡ 4 → ⊥) → cell_at r.cells n ≡ cell_at (pass read gs s) n)
    (λ s h d. sym ((never_altered.by_pass read gs s).accepted n (eqb-false _ 4 (none-counted s h n))))
    (λ s h e d. refl)
    (λ s later h k d.
    let stays = (never_altered.by_pass read gs (pass read gs s)).accepted n d in
    k (λ e. d (rw stays at e)) ∙ stays)

module _ (read : Reading) (before : List Group) (g : Group) (after : List Group) (s : State) (n : ℕ) (shares : SharesNone g before)
    (member : n ∈ g.members) (mended : (cell_at (visit read g s) n).mark ≡ 4 → ⊥) where
  after-those : cell_at (visit read g (pass read before s)) n ≡ cell_at (visit read g s) n
  after-those = (alike-pass read before g s shares).cells n member

  by-pass : cell_at (pass read (before ++ g ∷ after) s) n ≡ cell_at (visit read g s) n
  by-pass =
      ap (λ (t : State). cell_at t n) (pass-append read before (g ∷ after) s)
      ∙ (never_altered.by_pass read after (visit read g (pass read before s))).accepted n (λ e. mended (rw after-those at e))
      ∙ after-those

  by-visit : cell_at (passes_from read (before ++ g ∷ after) s).cells n ≡ cell_at (visit read g s) n
  by-visit = first-pass read (before ++ g ∷ after) n s (λ e. mended (rw by-pass at e)) ∙ by-pass

pub stops-early : StopsEarly
stops-early = record { alone = λ read gs s n. (never_altered.by_passes read gs s).accepted n; by_visit = by-visit }
