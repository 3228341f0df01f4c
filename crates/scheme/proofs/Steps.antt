-- A rebuilding, the trials, a visit and a pass grow the store, whatever the groups and the reading are; a group that has not exactly one
-- faulty line is left as it is.
use mathlib.Core.Path.{◌≡◌, refl}
use mathlib.Core.Logic.{inl}
use mathlib.Core.Bool.{Bool, true, false, cond}
use mathlib.Core.List.{List, [], ◌∷◌}
use Prim.Native.Nat.{ℕ}
use native.Mathlib.Omega.{arith}
use lib.ListN.{length}
use Rattle.gf2.specs.Word.{flip}
use Rattle.scheme.specs.Layer.{Cell, Reading}
use Rattle.scheme.specs.Visit.{Group, State, cell_at, is_faulty, faulty_of, rebuild, rebuild_only, settle, mismatch, try_places, try_lines, triable, trial, visit}
use Rattle.scheme.specs.Repair.{pass}
use Rattle.scheme.specs.Demand3.{◌∈◌}
use Rattle.scheme.proofs.Lists.{selected}
use Rattle.scheme.proofs.Grows.{Kept, same, mended, Grows, grows-refl, grows-trans, grows-set}

rebuild-grows : (g : Group) (s : State) (n : ℕ) → is_faulty (cell_at s n) ≡ true → Grows s (rebuild g s n)
unfolding rebuild
rebuild-grows g s n h = grows-set s n _ (mended h refl (omega arith))

pub settle-grows : (g : Group) (s : State) → Grows s (settle g s)
unfolding settle
settle-grows g s = go (faulty_of s g.members) (selected (λ n. is_faulty (cell_at s n)) g.members)
  where
    go : (ns : List ℕ) → ((n : ℕ) → n ∈ ns → (n ∈ g.members) × (is_faulty (cell_at s n) ≡ true))
        → Grows s (rebuild_only g s ns)
    go [] h = grows-refl s
    go (n ∷ []) h = rebuild-grows g s n (h n (inl refl)).1
    go (n ∷ m ∷ ns) h = grows-refl s

-- none or several are left as they are
pub not-one : (g : Group) (s : State) → (length (faulty_of s g.members) ≡ 1 → ⊥) → settle g s ≡ s
unfolding settle
not-one g s h = go (faulty_of s g.members) h
  where
    go : (l : List ℕ) → (length l ≡ 1 → ⊥) → rebuild_only g s l ≡ s
    go [] k = refl
    go (n ∷ []) k = absurd (k refl)
    go (n ∷ m ∷ l) k = refl

module _ (read : Reading) where
  try_places-kept : (n : ℕ) (c : Cell) (ps : List ℕ) → is_faulty c ≡ true → Kept c (try_places read n c ps)
  try_places-kept n c [] h = same refl
  try_places-kept n c (p ∷ ps) h = go (is_faulty (read n (flip p c.line))) (try_places-kept n c ps h)
    where
      go : (b : Bool) → Kept c (try_places read n c ps)
          → Kept c (cond b (try_places read n c ps) (record { line = (read n (flip p c.line)).line; mark = 2 }))
      go true k = k
      go false k = mended h refl (omega arith)

  pub try_lines-grows : (ps : List ℕ) (s : State) (ns : List ℕ) → Grows s (try_lines read ps s ns)
  try_lines-grows ps s [] = grows-refl s
  try_lines-grows ps s (n ∷ ns) =
      let later : (t : State) → Grows t (try_lines read ps t ns) = λ t. try_lines-grows ps t ns in
      grows-trans (grows-set s n _ (go (is_faulty (cell_at s n)) refl)) (later _)
    where
      go : (b : Bool) → is_faulty (cell_at s n) ≡ b
          → Kept (cell_at s n) (cond b (try_places read n (cell_at s n) ps) (cell_at s n))
      go true e = try_places-kept n (cell_at s n) ps e
      go false e = same refl

  pub trial-grows : (g : Group) (s : State) → Grows s (trial read g s)
  unfolding trial
  trial-grows g s = go (triable g s)
    where
      go : (b : Bool) → Grows s (cond b (try_lines read (mismatch g s) s g.members) s)
      go true = try_lines-grows (mismatch g s) s g.members
      go false = grows-refl s

  pub visit-grows : (g : Group) (s : State) → Grows s (visit read g s)
  unfolding visit
  visit-grows g s = grows-trans (trial-grows g s) (settle-grows g (trial read g s))

  pub pass-grows : (gs : List Group) (s : State) → Grows s (pass read gs s)
  pass-grows [] s = grows-refl s
  pass-grows (g ∷ gs) s = grows-trans (visit-grows g s) (pass-grows gs (visit read g s))
