-- The number and the place that the definitions give for each case of an answer are those of the syndrome that it answers.
use mathlib.Core.Path.{◌≡◌, refl, sym, ap, ◌∙◌}
use Prim.Native.Nat.{ℕ, zero, suc, ◌^◌, ◌≤◌, ◌<◌}
use native.Mathlib.Omega.{arith}
use lib.ListN.{get_or}
use Rattle.linecode.specs.Places.{protected_places}
use Rattle.linecode.specs.Code.{positions, columns, index_of, answer_to, syndrome_of, place_of}
use Rattle.linecode.specs.declared.hamming.Answer.{Answer}
use Rattle.linecode.specs.declared.hamming.Answer.TheVariants.{None, Hamming, Protected}
use Rattle.linecode.proofs.Syndrome.{by-case, apart, column-held, column-protected, column-hamming}

-- a syndrome from 1 to 553 is some place's number
some-place : (s : ℕ) → 1 ≤ s → s ≤ 553 → index_of s columns ≡ 553 → ⊥
some-place s l h e = omega (arith, column-held s l h)

pub numbered : (s : ℕ) → s ≤ 553 → syndrome_of (answer_to s) ≡ s
unfolding syndrome_of
numbered s h =
    by-case s (λ (a : Answer). syndrome_of a ≡ s) (λ (i : ℕ) (l : i < 543) (e : get_or positions i 0 ≡ s). e)
    (λ (k : ℕ) (l : k < 10) (e : 2 ^ k ≡ s). e) (none s h)
  where
    none : (s : ℕ) → s ≤ 553 → index_of s columns ≡ 553 → 0 ≡ s
    none zero h e = refl
    none (suc s) h e = absurd (some-place (suc s) (omega arith) h e)

-- a protected place is answered to its own position alone
pub protected-position : (s i : ℕ) → answer_to s ≡ Protected i → (i < 543) × (get_or positions i 0 ≡ s)
protected-position s i =
    by-case s (λ (a : Answer). a ≡ Protected i → (i < 543) × (get_or positions i 0 ≡ s))
    (λ (j : ℕ) (l : j < 543) (e : get_or positions j 0 ≡ s) (q : Protected j ≡ Protected i).
    let same : j ≡ i = cc in (omega arith, ap (λ (n : ℕ). get_or positions n 0) (sym same) ∙ e))
    (λ (k : ℕ) (l : k < 10) (e : 2 ^ k ≡ s) (q : Hamming k ≡ Protected i). let z : ◌≡◌ {A = ℕ} 0 1 = cc in absurd (apart z))
    (λ (e : index_of s columns ≡ 553) (q : None ≡ Protected i). let z : ◌≡◌ {A = ℕ} 0 1 = cc in absurd (apart z))

-- a Hamming place is answered to its own power of two alone
pub hamming-power : (s k : ℕ) → answer_to s ≡ Hamming k → (k < 10) × (s ≡ 2 ^ k)
hamming-power s k =
    by-case s (λ (a : Answer). a ≡ Hamming k → (k < 10) × (s ≡ 2 ^ k))
    (λ (i : ℕ) (l : i < 543) (e : get_or positions i 0 ≡ s) (q : Protected i ≡ Hamming k). let z : ◌≡◌ {A = ℕ} 0 1 = cc in absurd (apart z))
    (λ (j : ℕ) (l : j < 10) (e : 2 ^ j ≡ s) (q : Hamming j ≡ Hamming k).
    let same : j ≡ k = cc in (omega arith, sym e ∙ ap (λ (n : ℕ). 2 ^ n) same))
    (λ (e : index_of s columns ≡ 553) (q : None ≡ Hamming k). let z : ◌≡◌ {A = ℕ} 0 1 = cc in absurd (apart z))

pub place-named : (s : ℕ) → 1 ≤ s → s ≤ 553 → get_or columns (place_of (answer_to s)) 0 ≡ s
unfolding place_of protected_places
place-named s l h =
    by-case s (λ (a : Answer). get_or columns (place_of a) 0 ≡ s)
    (λ (i : ℕ) (k : i < 543) (e : get_or positions i 0 ≡ s). column-protected i k ∙ e)
    (λ (k : ℕ) (j : k < 10) (e : 2 ^ k ≡ s). column-hamming k j ∙ e)
    (λ (e : index_of s columns ≡ 553). absurd (some-place s l h e))
