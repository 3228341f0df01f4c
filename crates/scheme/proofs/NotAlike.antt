-- Demand 3: no two stores written look alike when each is damaged so in its own way; and where two stores written with equal
-- parity lines differ, each group shows it twice, in eight bits or more.
use mathlib.Core.Path.{◌≡◌, refl, sym, ap, ◌∙◌}
use mathlib.Core.Logic.{◌⊎◌, inl, inr}
use mathlib.Core.Bool.{Bool, true, false, not}
use mathlib.Core.List.{List, [], ◌∷◌}
use Prim.Native.Nat.{ℕ, ◌≤◌, ◌<◌}
use native.Mathlib.Omega.{arith}
use borrow.Author.Tests.{eqb-false, leb-true, leb-false, ltb-true, ltb-false, not-true}
use lib.Dec.{eqb, leb, ltb}
use lib.ListN.{length, get_or-eq_default}
use Rattle.gf2.specs.Word.{Word, ◌⊕◌, distance}
use Rattle.gf2.proofs.Weight.{distance_self}
use Rattle.scheme.specs.Layer.{Layer, Promises}
use Rattle.scheme.specs.Visit.{Group, without}
use Rattle.scheme.specs.Demand3.{◌∈◌, RisingGroups, word_at, Written, Mendable}
use Rattle.scheme.proofs.Lists.{selected}
use Rattle.scheme.proofs.Sums.{sum-ext}
use Rattle.scheme.proofs.Written.{others-give}
use Rattle.scheme.proofs.ExactReturn.{exact-return}

module _ (layer : Layer) (promises : Promises layer) (gs : List Group) (rising : RisingGroups gs) (one two : List Word)
    (w : Written layer gs one) (v : Written layer gs two) where
  -- both come back from the same lines received
  pub not_alike : (received : List Word) (order order' : List ℕ) → Mendable one received layer gs order
      → Mendable two received layer gs order' → one ≡ two
  not_alike received order order' m m' =
      sym (exact-return layer promises gs rising one received w order m).exactly
      ∙ (exact-return layer promises gs rising two received v order' m').exactly

  module _ (same : length one ≡ length two) where
    -- two lines are equal or differ in at least eight bits
    equal-or-eight : (n : ℕ) → (word_at one n ≡ word_at two n) ⊎ (8 ≤ distance (word_at one n) (word_at two n))
    equal-or-eight n = go (ltb n (length one)) (leb (distance (word_at one n) (word_at two n)) 7) refl refl
      where
        go : (a b : Bool) → ltb n (length one) ≡ a → leb (distance (word_at one n) (word_at two n)) 7 ≡ b
            → (word_at one n ≡ word_at two n) ⊎ (8 ≤ distance (word_at one n) (word_at two n))
        go true true e d =
            let h : n < length one = ltb-true _ _ e in
            inl (promises.apart _ _ _ (w.correct n h) (v.correct n (omega arith)) (leb-true _ _ d))
        go true false e d = inr (leb-false _ _ d)
        go false b e d =
            let h : length one ≤ n = ltb-false _ _ e in
            let h' : length two ≤ n = omega arith in
            inl (get_or-eq_default one [] h ∙ sym (get_or-eq_default two [] h'))

    pub eight-bits : (n : ℕ) → (word_at one n ≡ word_at two n → ⊥) → 8 ≤ distance (word_at one n) (word_at two n)
    eight-bits n d = go (equal-or-eight n)
      where
        go : (word_at one n ≡ word_at two n) ⊎ (8 ≤ distance (word_at one n) (word_at two n))
            → 8 ≤ distance (word_at one n) (word_at two n)
        go (inl e) = absurd (d e)
        go (inr h) = h

    -- some of the lines differs, or all are equal
    differing : (ns : List ℕ) → ((m : ℕ) × (m ∈ ns) × (word_at one m ≡ word_at two m → ⊥))
        ⊎ ((m : ℕ) → m ∈ ns → word_at one m ≡ word_at two m)
    differing [] = inr (λ m i. absurd i)
    differing (n ∷ ns) = go (equal-or-eight n) (differing ns)
      where
        go : (word_at one n ≡ word_at two n) ⊎ (8 ≤ distance (word_at one n) (word_at two n))
            → ((m : ℕ) × (m ∈ ns) × (word_at one m ≡ word_at two m → ⊥)) ⊎ ((m : ℕ) → m ∈ ns → word_at one m ≡ word_at two m)
            → ((m : ℕ) × (m ∈ (n ∷ ns)) × (word_at one m ≡ word_at two m → ⊥))
            ⊎ ((m : ℕ) → m ∈ (n ∷ ns) → word_at one m ≡ word_at two m)
        go (inr h) rest = inl (n, inl refl, apart)
          where
            apart : word_at one n ≡ word_at two n → ⊥
            apart e =
                let z : distance (word_at one n) (word_at two n) ≡ 0 =
                ap (λ (x : Word). distance x (word_at two n)) e ∙ distance_self (word_at two n) in
                omega arith
        go (inl e) (inl f) = inl (f.0, inr f.1, f.2)
        go (inl e) (inr f) = inr all
          where
            all : (m : ℕ) → m ∈ (n ∷ ns) → word_at one m ≡ word_at two m
            all m (inl q) = rw q e
            all m (inr q) = f m q

    -- where a line differs, each group that holds it holds another that differs
    pub another-differs : (g : Group) → g ∈ gs → (n : ℕ) → n ∈ g.members → (word_at one n ≡ word_at two n → ⊥)
        → (m : ℕ) × (m ∈ g.members) × (m ≡ n → ⊥) × (word_at one m ≡ word_at two m → ⊥)
    another-differs g i n h d = go (differing (without n g.members))
      where
        -- a line past the end differs nowhere
        inside : (b : Bool) → ltb n (length one) ≡ b → n < length one
        inside true e = ltb-true _ _ e
        inside false e =
            let p : length one ≤ n = ltb-false _ _ e in
            let p' : length two ≤ n = omega arith in
            absurd (d (get_or-eq_default one [] p ∙ sym (get_or-eq_default two [] p')))

        l : n < length one
        l = inside _ refl

        go : ((m : ℕ) × (m ∈ without n g.members) × (word_at one m ≡ word_at two m → ⊥))
            ⊎ ((m : ℕ) → m ∈ without n g.members → word_at one m ≡ word_at two m)
            → (m : ℕ) × (m ∈ g.members) × (m ≡ n → ⊥) × (word_at one m ≡ word_at two m → ⊥)
        go (inl f) =
            let q : (f.0 ∈ g.members) × (not (eqb f.0 n) ≡ true) =
            selected (λ m. not (eqb m n)) g.members f.0 f.1 in
            (f.0, q.0, eqb-false _ _ (not-true _ q.1), f.2)
        go (inr all) =
            absurd
            (d
            (sym (others-give layer promises gs rising one w g i n h l)
            ∙ ap (λ (x : Word). g.parity ⊕ x) (sum-ext (word_at one) (word_at two) (without n g.members) all)
            ∙ others-give layer promises gs rising two v g i n h (omega (arith, l))))
