-- What a visit mends: the only faulty line of its group, and a faulty line of which some trial is accepted.
use mathlib.Core.Path.{◌≡◌, refl, ap, ◌∙◌}
use mathlib.Core.Logic.{inl, inr}
use mathlib.Core.Bool.{Bool, true, false, cond, false≢true}
use mathlib.Core.List.{List, [], ◌∷◌}
use Prim.Native.Nat.{ℕ, zero, suc}
use borrow.Author.Tests.{eqb-true, eqb-false}
use lib.Dec.{eqb}
use lib.ListN.{set}
use lib.Seq.{get_or-set_other}
use Rattle.gf2.specs.Word.{flip}
use Rattle.scheme.specs.Layer.{Cell, Reading}
use Rattle.scheme.specs.Visit.{Group, State, cell_at, line_at, is_faulty, faulty_of, rebuild, settle, mismatch, try_places, try_lines, triable, trial, visit}
use Rattle.scheme.specs.Demand3.{◌∈◌, Rising}
use Rattle.scheme.proofs.Lists.{selected, selects, rising-select, only_one}
use Rattle.scheme.proofs.Grows.{Kept, same, mended, Grows, grows_at}
use Rattle.scheme.proofs.Steps.{settle-grows, try_lines-grows}

-- an accepted line stays accepted
grows-accepted : {s t : State} → Grows s t → (n : ℕ) → is_faulty (cell_at s n) ≡ false → is_faulty (cell_at t n) ≡ false
grows-accepted {s} {t} g n e = go (grows_at g n)
  where
    go : Kept (cell_at s n) (cell_at t n) → is_faulty (cell_at t n) ≡ false
    go (same p) = ap is_faulty p ∙ e
    go (mended p q h) = q

-- a faulty line is in the store, so what is put in its place stands there
put-accepted : (s : State) (n : ℕ) (d : Cell) → is_faulty (cell_at s n) ≡ true → is_faulty d ≡ false
    → is_faulty (cell_at (set s n d) n) ≡ false
put-accepted [] n d e h = absurd (false≢true e)
put-accepted (c ∷ s) zero d e h = h
put-accepted (c ∷ s) (suc n) d e h = put-accepted s n d e h

-- the search stops at an accepted trial
search-finds : (read : Reading) (n : ℕ) (c : Cell) (p : ℕ) (ps : List ℕ) → p ∈ ps
    → is_faulty (read n (flip p c.line)) ≡ false → is_faulty (try_places read n c ps) ≡ false
search-finds read n c p [] h e = absurd h
search-finds read n c p (q ∷ ps) (inl i) e = rw (← i, e)
search-finds read n c p (q ∷ ps) (inr i) e = go (is_faulty (read n (flip q c.line))) (search-finds read n c p ps i e)
  where
    go : (b : Bool) → is_faulty (try_places read n c ps) ≡ false
        → is_faulty (cond b (try_places read n c ps) (record { line = (read n (flip q c.line)).line; mark = 2 })) ≡ false
    go true h = h
    go false h = refl

-- each faulty line among those that try has its search
lines-find : (read : Reading) (n : ℕ) (ps : List ℕ) (s : State) (ns : List ℕ) → n ∈ ns → is_faulty (cell_at s n) ≡ true
    → is_faulty (try_places read n (cell_at s n) ps) ≡ false → is_faulty (cell_at (try_lines read ps s ns) n) ≡ false
lines-find read n ps s [] h faulty found = absurd h
lines-find read n ps s (m ∷ ns) h faulty found =
    go (eqb n m) refl h (λ (e : cell_at after n ≡ cell_at s n) i. lines-find read n ps after ns i (rw e faulty) (rw e found))
  where
    after : State
    after = set s m (cond (is_faulty (cell_at s m)) (try_places read m (cell_at s m) ps) (cell_at s m))

    -- line n itself
    own : n ≡ m → is_faulty (cell_at after n) ≡ false
    own e = rw (← e, faulty) (put-accepted s n _ faulty found)

    go : (b : Bool) → eqb n m ≡ b → n ∈ (m ∷ ns)
        → (cell_at after n ≡ cell_at s n → n ∈ ns → is_faulty (cell_at (try_lines read ps after ns) n) ≡ false)
        → is_faulty (cell_at (try_lines read ps after ns) n) ≡ false
    go true e i rest = grows-accepted (try_lines-grows read ps after ns) n (own (eqb-true _ _ e))
    go false e (inl i) rest = absurd (eqb-false _ _ e i)
    go false e (inr i) rest = rest (get_or-set_other s m n _ _ (eqb-false _ _ e)) i

pub only-mended : (read : Reading) (g : Group) (s : State) (n : ℕ) → faulty_of s g.members ≡ n ∷ []
    → is_faulty (cell_at (visit read g s) n) ≡ false
unfolding visit trial settle rebuild
only-mended read g s n alone = rw alone (rw alone (put-accepted s n _ faulty refl))
  where
    faulty : is_faulty (cell_at s n) ≡ true
    faulty = (selected (λ m. is_faulty (cell_at s m)) g.members n (rw alone (inl refl))).1

module _ (read : Reading) (g : Group) (s : State) (n : ℕ) (holds : n ∈ g.members) (faulty : is_faulty (cell_at s n) ≡ true) where
  pub alone-mended : Rising g.members → ((m : ℕ) → m ∈ g.members → is_faulty (cell_at s m) ≡ true → m ≡ n)
      → is_faulty (cell_at (visit read g s) n) ≡ false
  alone-mended r only =
      only-mended read g s n
      (only_one n (faulty_of s g.members) (rising-select _ g.members r) (selects _ g.members n holds faulty)
      (λ m i. only m (selected _ g.members m i).0 (selected _ g.members m i).1))

  pub tried-mended : (p : ℕ) → triable g s ≡ true → p ∈ mismatch g s → is_faulty (read n (flip p (line_at s n))) ≡ false
      → is_faulty (cell_at (visit read g s) n) ≡ false
  unfolding visit trial
  tried-mended p t i e =
      grows-accepted (settle-grows g (trial read g s)) n
      (rw t
      (lines-find read n (mismatch g s) s g.members holds faulty
      (search-finds read n (cell_at s n) p (mismatch g s) i e)))
