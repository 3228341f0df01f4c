-- Growing: each line stays as it is, with its mark, or was faulty and is mended. Every step of repair grows the store.
use mathlib.Core.Path.{◌≡◌, refl, ap, ◌∙◌}
use mathlib.Core.Bool.{Bool, true, false, cond}
use mathlib.Core.List.{[], ◌∷◌}
use Prim.Native.Nat.{ℕ, zero, suc, ◌≤◌}
use native.Mathlib.Nat.{le_refl, le_step, suc_inj}
use native.Mathlib.Omega.{arith}
use borrow.Author.Tests.{eqb-true, eqb-false}
use lib.ListN.{length, set}
use Rattle.scheme.specs.Layer.{Cell}
use Rattle.scheme.specs.Visit.{State, cell_at, is_faulty, select}
use Rattle.scheme.specs.Repair.{faulty_count}

-- a cell stays, or was faulty and is no longer, with the mark of a mended one
pub data Kept (c d : Cell) : Type 0 where
  same : d ≡ c → Kept c d
  mended : is_faulty c ≡ true → is_faulty d ≡ false → 2 ≤ d.mark → Kept c d

pub data Grows : State → State → Type 0 where
  nil : Grows [] []
  cons : {c d : Cell} {s t : State} → Kept c d → Grows s t → Grows (c ∷ s) (d ∷ t)

pub kept_trans : {c d e : Cell} → Kept c d → Kept d e → Kept c e
kept_trans {c = c} (same p) k = rw (← p) k
kept_trans (mended p q h) (same r) = mended p (ap is_faulty r ∙ q) (rw r h)
kept_trans (mended p q h) (mended r t i) = mended p t i

pub grows-refl : (s : State) → Grows s s
grows-refl [] = nil
grows-refl (c ∷ s) = cons (same refl) (grows-refl s)

pub grows-trans : {s t u : State} → Grows s t → Grows t u → Grows s u
grows-trans nil nil = nil
grows-trans (cons k g) (cons l h) = cons (kept_trans k l) (grows-trans g h)

pub grows-set : (s : State) (n : ℕ) (d : Cell) → Kept (cell_at s n) d → Grows s (set s n d)
grows-set [] n d k = nil
grows-set (c ∷ s) zero d k = cons k (grows-refl s)
grows-set (c ∷ s) (suc n) d k = cons (same refl) (grows-set s n d k)

pub grows_at : {s t : State} → Grows s t → (n : ℕ) → Kept (cell_at s n) (cell_at t n)
grows_at nil n = same refl
grows_at (cons k g) zero = k
grows_at (cons k g) (suc n) = grows_at g n

pub grows-length : {s t : State} → Grows s t → length t ≡ length s
grows-length nil = refl
grows-length (cons k g) = ap suc (grows-length g)

-- the faulty lines become fewer, or the store is the same
pub grows-count : {s t : State} → Grows s t → (faulty_count t ≤ faulty_count s) × (faulty_count t ≡ faulty_count s → t ≡ s)
grows-count nil = (le_refl zero, λ e. refl)
grows-count (cons {c} {d} {s} {t} (same p) g) = go (is_faulty c) refl (grows-count g)
  where
    go : (b : Bool) → is_faulty c ≡ b → (faulty_count t ≤ faulty_count s) × (faulty_count t ≡ faulty_count s → t ≡ s)
        → (faulty_count (d ∷ t) ≤ faulty_count (c ∷ s)) × (faulty_count (d ∷ t) ≡ faulty_count (c ∷ s) → d ∷ t ≡ c ∷ s)
    go true q r = rw (p, q) (omega (arith, r.0), λ e. ap (λ (u : State). c ∷ u) (r.1 (suc_inj e)))
    go false q r = rw (p, q) (r.0, λ e. ap (λ (u : State). c ∷ u) (r.1 e))
grows-count (cons {c} {d} {s} {t} (mended p q h) g) =
    rw (p, q) (le_step (grows-count g).0, λ e. let z : ⊥ = omega (arith, (grows-count g).0) in absurd z)

-- counting no faulty line is finding none
pub none-counted : (s : State) → faulty_count s ≡ 0 → (n : ℕ) → is_faulty (cell_at s n) ≡ false
none-counted [] e n = refl
none-counted (c ∷ s) e n = go (is_faulty c) refl e n (none-counted s)
  where
    go : (b : Bool) → is_faulty c ≡ b → length (cond b (c ∷ select is_faulty s) (select is_faulty s)) ≡ 0 → (n : ℕ)
        → (faulty_count s ≡ 0 → (n : ℕ) → is_faulty (cell_at s n) ≡ false) → is_faulty (cell_at (c ∷ s) n) ≡ false
    go true h e n rest = let z : ⊥ = omega arith in absurd z
    go false h e zero rest = h
    go false h e (suc n) rest = rest e n

pub none_found : (s : State) → ((n : ℕ) → is_faulty (cell_at s n) ≡ false) → faulty_count s ≡ 0
none_found [] h = refl
none_found (c ∷ s) h = rw (h 0) (none_found s (λ n. h (suc n)))

-- an accepted cell stays
pub kept-accepted : {c d : Cell} → Kept c d → (c.mark ≡ 4 → ⊥) → d ≡ c
kept-accepted (same p) h = p
kept-accepted {c = c} (mended p q i) h = absurd (h (eqb-true c.mark 4 p))

-- a cell that stays faulty stays
pub kept-faulty : {c d : Cell} → Kept c d → d.mark ≡ 4 → d ≡ c
kept-faulty (same p) h = p
kept-faulty {d = d} (mended p q i) h = absurd (eqb-false d.mark 4 q h)

-- a cell that was faulty is mended or stays
pub kept-mended : {c d : Cell} → Kept c d → c.mark ≡ 4 → 2 ≤ d.mark
kept-mended (same p) h = rw (p, h) (omega arith)
kept-mended (mended p q i) h = i
