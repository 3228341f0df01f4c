-- Numbers at equal steps: which they are, that they rise, and one more at the end.
use mathlib.Core.Path.{◌≡◌, refl, sym, ap, subst, ◌∙◌}
use mathlib.Core.Logic.{inl, inr}
use mathlib.Core.List.{List, [], ◌∷◌, ◌++◌}
use Prim.Native.Nat.{ℕ, zero, suc, ◌+◌, ◌*◌, ◌<◌}
use native.Mathlib.Nat.{le_of_suc-le-suc, not-suc-le-zero}
use native.Mathlib.Omega.{arith}
use lib.ListN.{length, get_or}
use Rattle.gf2.specs.Word.{Word, ◌⊕◌}
use Rattle.gf2.proofs.Xor.{xor-nil, xor_assoc}
use Rattle.scheme.specs.Visit.{sum}
use Rattle.scheme.specs.Demand3.{◌∈◌, Rising}
use Rattle.rectangle.specs.Store.{stride}

pub length-stride : (first step count : ℕ) → length (stride first step count) ≡ count
length-stride first step zero = refl
length-stride first step (suc count) = ap suc (length-stride (first + step) step count)

pub in-stride : (first step count i : ℕ) → i < count → (first + i * step) ∈ stride first step count
in-stride first step zero i h = absurd (not-suc-le-zero h)
in-stride first step (suc count) zero h = inl (omega arith)
in-stride first step (suc count) (suc i) h =
    let e : first + step + i * step ≡ first + suc i * step = omega arith in
    inr (subst (λ (m : ℕ). m ∈ stride (first + step) step count) e (in-stride (first + step) step count i (le_of_suc-le-suc h)))

-- a member and its index
pub stride-index : (first step count m : ℕ) → m ∈ stride first step count → (i : ℕ) × (i < count) × (m ≡ first + i * step)
stride-index first step zero m i = absurd i
stride-index first step (suc count) m (inl e) = (zero, omega arith, omega arith)
stride-index first step (suc count) m (inr i) =
    let r = stride-index (first + step) step count m i in
    let below : r.0 < count = r.1 in
    let e : m ≡ first + step + r.0 * step = r.2 in
    (suc r.0, omega arith, omega arith)

pub stride-at : (first step count i : ℕ) → i < count → get_or (stride first step count) i 0 ≡ first + i * step
stride-at first step zero i h = absurd (not-suc-le-zero h)
stride-at first step (suc count) zero h = omega arith
stride-at first step (suc count) (suc i) h = let e = stride-at (first + step) step count i (le_of_suc-le-suc h) in omega arith

pub rising-stride : (first step count : ℕ) → 0 < step → Rising (stride first step count)
rising-stride first step zero h = tt
rising-stride first step (suc count) h = (above, rising-stride (first + step) step count h)
  where
    above : (m : ℕ) → m ∈ stride (first + step) step count → first < m
    above m i = let r = stride-index (first + step) step count m i in let e : m ≡ first + step + r.0 * step = r.2 in omega arith

-- one more at the end
pub stride-snoc : (first step count : ℕ)
    → stride first step (suc count) ≡ stride first step count ++ ((first + count * step) ∷ [])
stride-snoc first step zero = ap (λ (n : ℕ). n ∷ []) (omega arith)
stride-snoc first step (suc count) =
    let e : first + step + count * step ≡ first + suc count * step = omega arith in
    ap (λ (l : List ℕ). first ∷ l)
    (stride-snoc (first + step) step count
    ∙ ap (λ (n : ℕ). stride (first + step) step count ++ (n ∷ [])) e)

sum-append : (line : ℕ → Word) (ns ms : List ℕ) → sum line (ns ++ ms) ≡ sum line ns ⊕ sum line ms
sum-append line [] ms = refl
sum-append line (n ∷ ns) ms =
    ap (λ (w : Word). line n ⊕ w) (sum-append line ns ms) ∙ sym (xor_assoc (line n) (sum line ns) (sum line ms))

-- the exclusive or of one more line
pub sum-snoc : (line : ℕ → Word) (first step count : ℕ)
    → sum line (stride first step (suc count)) ≡ sum line (stride first step count) ⊕ line (first + count * step)
sum-snoc line first step count =
    ap (sum line) (stride-snoc first step count)
    ∙ sum-append line (stride first step count) ((first + count * step) ∷ [])
    ∙ ap (λ (w : Word). sum line (stride first step count) ⊕ w) (xor-nil (line (first + count * step)))
