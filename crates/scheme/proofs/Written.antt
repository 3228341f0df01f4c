-- Stores written: a line follows from its group's parity line and other lines, and a parity line is a correct line.
use mathlib.Core.Path.{◌≡◌, refl, sym, ap, subst, ◌∙◌}
use mathlib.Core.Logic.{inl, inr}
use mathlib.Core.Bool.{Bool, true, false}
use mathlib.Core.List.{List, [], ◌∷◌}
use Prim.Native.Nat.{ℕ, ◌≤◌, ◌<◌}
use native.Mathlib.Omega.{arith}
use borrow.Author.Tests.{ltb-true, ltb-false}
use lib.Bits.{xor_zero_r}
use lib.Dec.{ltb}
use lib.ListN.{length, get_or-eq_default}
use Rattle.gf2.specs.Word.{Word, ◌⊕◌}
use Rattle.gf2.proofs.Xor.{xor-nil, xor-cancel}
use Rattle.scheme.specs.Layer.{Layer, CorrectLine, parity_address, Promises}
use Rattle.scheme.specs.Visit.{Group, without, sum}
use Rattle.scheme.specs.Demand3.{◌∈◌, RisingGroups, word_at, Written}
use Rattle.scheme.proofs.Sums.{sum-length, sum-split}

module _ (layer : Layer) (promises : Promises layer) where
  module _ (gs : List Group) (rising : RisingGroups gs) (written : List Word) (w : Written layer gs written) where
    -- written lines have all places, lines past the end none
    written-length : (n : ℕ) → length (word_at written n) ≤ layer.width
    written-length n = go (ltb n (length written)) refl
      where
        go : (b : Bool) → ltb n (length written) ≡ b → length (word_at written n) ≤ layer.width
        go true e = omega (arith, promises.sized _ _ (w.correct n (ltb-true _ _ e)))
        go false e = rw (get_or-eq_default written [] (ltb-false _ _ e)) (omega arith)

    -- the parity line and the group's other lines give the line
    pub others-give : (g : Group) → g ∈ gs → (n : ℕ) → n ∈ g.members → n < length written
        → g.parity ⊕ sum (word_at written) (without n g.members) ≡ word_at written n
    others-give g i n h l =
        ap (λ (x : Word). x ⊕ sum (word_at written) (without n g.members))
        (w.parities g i ∙ sum-split (word_at written) n g.members (rising g i) h)
        ∙ xor-cancel (word_at written n) (sum (word_at written) (without n g.members)) shorter
      where
        shorter : length (sum (word_at written) (without n g.members)) ≤ length (word_at written n)
        shorter =
            omega (
              arith,
              sum-length layer.width (word_at written) (without n g.members) (λ m j. written-length m),
              promises.sized _ _ (w.correct n l),
            )

  -- the exclusive or of correct lines is a correct line
  pub parity-correct : (line : ℕ → Word) (n : ℕ) (ns : List ℕ) → ((m : ℕ) → m ∈ (n ∷ ns) → CorrectLine layer m (line m))
      → layer.Correct (parity_address layer (n ∷ ns)) (sum line (n ∷ ns))
  parity-correct line n [] h =
      subst (λ (a : ℕ). layer.Correct a (line n ⊕ [])) (sym (xor_zero_r (layer.address n)))
      (subst (λ (x : Word). CorrectLine layer n x) (sym (xor-nil (line n))) (h n (inl refl)))
  parity-correct line n (m ∷ ns) h =
      promises.summed (layer.address n) (parity_address layer (m ∷ ns)) (line n) (sum line (m ∷ ns)) (h n (inl refl))
      (parity-correct line m ns (λ k i. h k (inr i)))
