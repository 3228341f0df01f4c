-- Reading keeps the number of places of a line; stores whose lines all have the same number of places.
use mathlib.Core.Path.{◌≡◌, ap, ◌∙◌}
use mathlib.Core.Logic.{◌⊎◌, inl, inr}
use mathlib.Core.List.{[], ◌∷◌}
use Prim.Native.Nat.{ℕ, zero, suc, ◌≤◌, ◌<◌}
use native.Mathlib.Nat.{le_of_suc-le-suc, not-suc-le-zero}
use lib.ListN.{length}
use Rattle.gf2.specs.Word.{Word}
use Rattle.scheme.specs.Layer.{Layer, Promises}
use Rattle.scheme.specs.Visit.{State, line_at}

-- the layer's reading keeps the places of a line
pub read-width : (layer : Layer) → Promises layer → (a : ℕ) (found : Word) → length found ≡ layer.width
    → length (layer.read a found).line ≡ layer.width
read-width layer promises a found h = go (promises.sound a found h)
  where
    go : ((layer.read a found).mark ≡ 4) ⊎ (((layer.read a found).mark ≤ 1) × layer.Correct a (layer.read a found).line)
        → length (layer.read a found).line ≡ layer.width
    go (inl e) = ap length (promises.kept a found h e) ∙ h
    go (inr c) = promises.sized a _ c.1

-- every line has k places
abbrev pub Wide : ℕ → State → Type 0
Wide k [] = Unit {0}
Wide k (c ∷ s) = (length c.line ≡ k) × Wide k s

pub wide_at : (k : ℕ) (s : State) (n : ℕ) → Wide k s → n < length s → length (line_at s n) ≡ k
wide_at k [] n h l = absurd (not-suc-le-zero l)
wide_at k (c ∷ s) zero h l = h.0
wide_at k (c ∷ s) (suc n) h l = wide_at k s n h.1 (le_of_suc-le-suc l)
