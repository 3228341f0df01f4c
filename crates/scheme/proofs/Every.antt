-- What holds of every line of a store, through the trials, a visit, a pass and all passes: it is enough that it holds of a line that an
-- accepted trial gives and of a line rebuilt from accepted ones.
use mathlib.Core.Path.{◌≡◌, refl, ap}
use mathlib.Core.Logic.{inl, inr}
use mathlib.Core.Bool.{Bool, true, false, not, cond}
use mathlib.Core.List.{List, [], ◌∷◌}
use Prim.Native.Nat.{ℕ, zero, suc}
use borrow.Author.Tests.{eqb-false, not-true}
use lib.Dec.{eqb}
use lib.ListN.{set}
use Rattle.gf2.specs.Word.{◌⊕◌, flip}
use Rattle.scheme.specs.Layer.{Cell, Reading}
use Rattle.scheme.specs.Visit.{Group, State, cell_at, line_at, is_faulty, faulty_of, without, sum, rebuild, rebuild_only, settle, mismatch, try_places, try_lines, triable, trial, visit}
use Rattle.scheme.specs.Repair.{pass, passes_from}
use Rattle.scheme.specs.Demand3.{◌∈◌}
use Rattle.scheme.proofs.Lists.{selected, selects}
use Rattle.scheme.proofs.Passes.{by-rounds}

-- what holds of a line after another is put: of the one put, or of the one that stood there
at_set : (P : Cell → Type 0) (s : State) (n m : ℕ) (d : Cell) → (m ≡ n → P d) → P (cell_at s m) → P (cell_at (set s n d) m)
at_set P [] n m d h k = k
at_set P (c ∷ s) zero zero d h k = h refl
at_set P (c ∷ s) zero (suc m) d h k = k
at_set P (c ∷ s) (suc n) zero d h k = k
at_set P (c ∷ s) (suc n) (suc m) d h k = at_set P s n m d (λ e. h (ap suc e)) k

-- it holds of every line
abbrev pub Every : (ℕ → Cell → Type 0) → State → Type 0
Every P s = (n : ℕ) → P n (cell_at s n)

-- it holds of what an accepted trial of a faulty line gives
abbrev pub Tried : Reading → (ℕ → Cell → Type 0) → Type 0
Tried read P =
    (n p : ℕ) (c : Cell) → is_faulty c ≡ true → P n c → is_faulty (read n (flip p c.line)) ≡ false
    → P n (record { line = (read n (flip p c.line)).line; mark = 2 })

-- it holds of a group's one faulty line, rebuilt
abbrev pub Rebuilt : Group → (ℕ → Cell → Type 0) → Type 0
Rebuilt g P =
    (s : State) → Every P s → (n : ℕ) → n ∈ g.members → is_faulty (cell_at s n) ≡ true
    → ((m : ℕ) → m ∈ without n g.members → is_faulty (cell_at s m) ≡ false)
    → P n (record { line = g.parity ⊕ sum (line_at s) (without n g.members); mark = 3 })

module _ (P : ℕ → Cell → Type 0) where
  every_set : (s : State) (n : ℕ) (d : Cell) → Every P s → P n d → Every P (set s n d)
  every_set s n d f r m = at_set (P m) s n m d (λ e. rw e r) (f m)

  every-settle : (g : Group) → Rebuilt g P → (s : State) → Every P s → Every P (settle g s)
  unfolding settle rebuild
  every-settle g rebuilt s f =
      go (faulty_of s g.members) (selected (λ n. is_faulty (cell_at s n)) g.members)
      (selects (λ n. is_faulty (cell_at s n)) g.members)
    where
      -- the other lines of the one faulty line's group
      other : (n : ℕ) → ((m : ℕ) → m ∈ g.members → is_faulty (cell_at s m) ≡ true → m ∈ (n ∷ []))
          → (m : ℕ) → (b : Bool) → is_faulty (cell_at s m) ≡ b → (m ∈ g.members) × (not (eqb m n) ≡ true)
          → is_faulty (cell_at s m) ≡ false
      other n only m false e i = e
      other n only m true e i = same (only m i.0 e)
        where
          same : m ∈ (n ∷ []) → is_faulty (cell_at s m) ≡ false
          same (inl z) = absurd (eqb-false m n (not-true _ i.1) z)
          same (inr z) = absurd z

      go : (ns : List ℕ) → ((n : ℕ) → n ∈ ns → (n ∈ g.members) × (is_faulty (cell_at s n) ≡ true))
          → ((m : ℕ) → m ∈ g.members → is_faulty (cell_at s m) ≡ true → m ∈ ns) → Every P (rebuild_only g s ns)
      go [] h only = f
      go (n ∷ []) h only =
          every_set s n _ f
          (rebuilt s f n (h n (inl refl)).0 (h n (inl refl)).1
          (λ m i. other n only m (is_faulty (cell_at s m)) refl (selected (λ k. not (eqb k n)) g.members m i)))
      go (n ∷ m ∷ ns) h only = f

  module _ (read : Reading) (tried : Tried read P) where
    every-search : (n : ℕ) (c : Cell) (ps : List ℕ) → is_faulty c ≡ true → P n c → P n (try_places read n c ps)
    every-search n c [] e h = h
    every-search n c (p ∷ ps) e h = go (is_faulty (read n (flip p c.line))) refl (every-search n c ps e h)
      where
        go : (b : Bool) → is_faulty (read n (flip p c.line)) ≡ b → P n (try_places read n c ps)
            → P n (cond b (try_places read n c ps) (record { line = (read n (flip p c.line)).line; mark = 2 }))
        go true i k = k
        go false i k = tried n p c e h i

    every-lines : (ps : List ℕ) (s : State) (ns : List ℕ) → Every P s → Every P (try_lines read ps s ns)
    every-lines ps s [] f = f
    every-lines ps s (n ∷ ns) f =
        let later : (t : State) → Every P t → Every P (try_lines read ps t ns) = λ t. every-lines ps t ns in
        later _ (every_set s n _ f (go (is_faulty (cell_at s n)) refl))
      where
        go : (b : Bool) → is_faulty (cell_at s n) ≡ b → P n (cond b (try_places read n (cell_at s n) ps) (cell_at s n))
        go true e = every-search n (cell_at s n) ps e (f n)
        go false e = f n

    every-trial : (g : Group) (s : State) → Every P s → Every P (trial read g s)
    unfolding trial
    every-trial g s f = go (triable g s)
      where
        go : (b : Bool) → Every P (cond b (try_lines read (mismatch g s) s g.members) s)
        go true = every-lines (mismatch g s) s g.members f
        go false = f

    every-pass : (gs : List Group) → ((g : Group) → g ∈ gs → Rebuilt g P) → (s : State) → Every P s → Every P (pass read gs s)
    unfolding visit
    every-pass [] rebuilt s f = f
    every-pass (g ∷ gs) rebuilt s f =
        every-pass gs (λ h i. rebuilt h (inr i)) (visit read g s)
        (every-settle g (rebuilt g (inl refl)) (trial read g s) (every-trial g s f))

    pub every-passes : (gs : List Group) → ((g : Group) → g ∈ gs → Rebuilt g P) → (s : State) → Every P s
        → Every P (passes_from read gs s).cells
    every-passes gs rebuilt s =
        by-rounds read gs (λ s r. Every P s → Every P r.cells) (λ s h f. f) (λ s h e f. every-pass gs rebuilt s f)
        (λ s later h k f. k (every-pass gs rebuilt s f)) s
