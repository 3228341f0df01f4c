-- Groups as read, whatever was written: which are used as found, what an accepted parity line is, and the three ways in which a parity
-- line is left.
use mathlib.Core.Path.{◌≡◌, ap, ◌∙◌}
use mathlib.Core.Logic.{◌⊎◌, inl, inr}
use mathlib.Core.Bool.{true, false}
use Prim.Native.Nat.{ℕ, ◌≤◌}
use native.Mathlib.Omega.{arith}
use borrow.Author.Tests.{eq-eqb, ne_eqb, eqb-true, eqb-false}
use lib.ListN.{length}
use Rattle.gf2.specs.Word.{Word}
use Rattle.gf2.proofs.Weight.{distance_self}
use Rattle.scheme.specs.Layer.{Layer, parity_address, Promises}
use Rattle.scheme.specs.Visit.{Group, State, line_at, is_faulty, sum}
use Rattle.scheme.specs.Repair.{faulty_count}
use Rattle.scheme.specs.Parity.{read_parity, unusable, as_read, parity_after, ParityLines}
use Rattle.scheme.proofs.Faithful.{accepted-mark}

module _ (layer : Layer) where
  pub usable : (g : Group) → unusable layer g ≡ false
      → as_read layer g ≡ record { members = g.members; parity = (read_parity layer g).line }
  unfolding as_read
  usable g e = rw e

  -- ---- how a parity line is left
  module _ (s : State) (g : Group) where
    pub left-accepted : unusable layer g ≡ false → parity_after layer s g ≡ (read_parity layer g).line
    unfolding parity_after
    left-accepted e = rw e

    pub left-afresh : unusable layer g ≡ true → faulty_count s ≡ 0 → parity_after layer s g ≡ sum (line_at s) g.members
    unfolding parity_after
    left-afresh e z = rw (e, eq-eqb (faulty_count s) 0 z)

  module _ (promises : Promises layer) where
    -- what is accepted is read as a correct line
    pub reads-correct : (a : ℕ) (found : Word) → length found ≡ layer.width → is_faulty (layer.read a found) ≡ false
        → layer.Correct a (layer.read a found).line
    reads-correct a found h e = go (promises.sound a found h)
      where
        go : ((layer.read a found).mark ≡ 4) ⊎ (((layer.read a found).mark ≤ 1) × layer.Correct a (layer.read a found).line)
            → layer.Correct a (layer.read a found).line
        go (inl q) = absurd (eqb-false _ 4 e q)
        go (inr c) = c.1

  module _ (promises : Promises layer) (g : Group) (sized : length g.parity ≡ layer.width) where
    pub left-found : (s : State) → unusable layer g ≡ true → (faulty_count s ≡ 0 → ⊥) → parity_after layer s g ≡ g.parity
    unfolding parity_after unusable
    left-found s e d = rw (e, ne_eqb (faulty_count s) 0 d) (promises.kept _ g.parity sized (eqb-true _ 4 e))

    -- an accepted one is a correct line
    pub accepted-correct : unusable layer g ≡ false → layer.Correct (parity_address layer g.members) (read_parity layer g).line
    unfolding unusable
    accepted-correct e = reads-correct promises _ g.parity sized e

  -- a group with a correct parity line is used as found
  pub used-as-found : Promises layer → (g : Group) → layer.Correct (parity_address layer g.members) g.parity → as_read layer g ≡ g
  unfolding unusable
  used-as-found promises g c =
      let r = promises.corrects _ g.parity g.parity c (promises.sized _ g.parity c) (omega (arith, distance_self g.parity)) in
      usable g (accepted-mark _ _ r) ∙ ap (λ (w : Word). record { members = g.members; parity = w }) r.gives

-- the named claims
pub parity-lines : ParityLines
parity-lines layer promises g sized =
    record {
      used = usable layer g;
      accepted = λ e s. left-accepted layer s g e;
      as_found = λ e s. left-found layer promises g sized s e;
      afresh = λ e s. left-afresh layer s g e;
    }
