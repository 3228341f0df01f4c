-- Parity lines read alone: the visit of an unusable group does nothing; and within the bounds of demand 3 a group is used as it was
-- written or not at all, and its parity line is left as written, or as found where lines are left faulty.
use mathlib.Core.Path.{◌≡◌, refl, ap}
use mathlib.Core.Logic.{◌⊎◌, inl, inr}
use mathlib.Core.Bool.{Bool, true, false, true≢false}
use mathlib.Core.List.{List, [], ◌∷◌, ◌++◌, map}
use Prim.Native.Nat.{ℕ, ◌≤◌, ◌<◌}
use borrow.Author.Tests.{eqb-true, eqb-false, leb-true, leb-false}
use lib.Dec.{eqb, leb}
use lib.ListN.{length}
use Rattle.gf2.specs.Word.{Word, distance}
use Rattle.scheme.specs.Layer.{Reading, Layer, CorrectLine, parity_address, ReadsAs, Promises}
use Rattle.scheme.specs.Visit.{Group, State, line_at, sum, settle, trial, visit}
use Rattle.scheme.specs.Repair.{pass, faulty_count}
use Rattle.scheme.specs.Parity.{read_parity, unusable, no_lines, as_read, parity_after, UnusableIdle}
use Rattle.scheme.specs.Demand3.{◌∈◌, Rising, RisingGroups, word_at, Written}
use Rattle.scheme.proofs.Lists.{map-from}
use Rattle.scheme.proofs.Sums.{sum-ext}
use Rattle.scheme.proofs.Faithful.{accepted-mark}

pub without-lines : (layer : Layer) (g : Group) → unusable layer g ≡ true → as_read layer g ≡ no_lines
unfolding as_read
without-lines layer g e = rw e

-- there is nothing to visit in a group without lines
pub nothing-to-visit : (read : Reading) (s : State) → visit read no_lines s ≡ s
unfolding visit trial settle
nothing-to-visit read s = refl

idle : (layer : Layer) (g : Group) → unusable layer g ≡ true → (read : Reading) (s : State) → visit read (as_read layer g) s ≡ s
idle layer g e read s = rw (without-lines layer g e) (nothing-to-visit read s)

pub unusable-idle : UnusableIdle
unusable-idle = record { by_visit = idle; by_pass = passed }
  where
    passed : (layer : Layer) (g : Group) → unusable layer g ≡ true → (read : Reading) (before after : List Group) (s : State)
        → pass read (before ++ as_read layer g ∷ after) s ≡ pass read (before ++ after) s
    passed layer g e read [] after s = ap (pass read after) (idle layer g e read s)
    passed layer g e read (h ∷ before) after s = passed layer g e read before after (visit read h s)

-- groups as read rise where those found do
pub rising-read : (layer : Layer) (gs : List Group) → RisingGroups gs → RisingGroups (map (as_read layer) gs)
unfolding as_read
rising-read layer gs rising h i =
    let g = map-from (as_read layer) gs h i in
    rw g.2 (go g.0 (unusable layer g.0) refl (rising g.0 g.1))
  where
    go : (g : Group) (b : Bool) → unusable layer g ≡ b → Rising g.members → Rising (as_read layer g).members
    go g true e r = rw e tt
    go g false e r = rw e r

-- a group as found where lines were written: their sum is a correct line, and the parity line has all places and at most six damaged
-- bits
pub record Found (layer : Layer) (written : List Word) (g : Group) : Type 0 where
  pub correct : layer.Correct (parity_address layer g.members) (sum (word_at written) g.members)
  pub places : length g.parity ≡ layer.width
  pub six : distance (sum (word_at written) g.members) g.parity ≤ 6

module _ (layer : Layer) (promises : Promises layer) (written : List Word) where
  module _ (g : Group) (found : Found layer written g) where
    -- an accepted parity line reads as the written one
    reads-written : unusable layer g ≡ false → (read_parity layer g).line ≡ sum (word_at written) g.members
    unfolding unusable
    reads-written e = go (promises.detects _ _ g.parity found.correct found.places found.six)
      where
        go : ReadsAs (sum (word_at written) g.members) (read_parity layer g) ⊎ ((read_parity layer g).mark ≡ 4)
            → (read_parity layer g).line ≡ sum (word_at written) g.members
        go (inl r) = r.gives
        go (inr q) = absurd (eqb-false _ 4 e q)

    -- and so the group is used as it was written
    used : unusable layer g ≡ false
        → as_read layer g ≡ record { members = g.members; parity = sum (word_at written) g.members }
    unfolding as_read
    used e = rw (e, reads-written e)

    -- with one damaged bit or none the parity line is accepted
    one-usable : distance (sum (word_at written) g.members) g.parity ≤ 1 → unusable layer g ≡ false
    unfolding unusable
    one-usable d = accepted-mark _ _ (promises.corrects _ _ g.parity found.correct found.places d)

    pub one-used : distance (sum (word_at written) g.members) g.parity ≤ 1
        → as_read layer g ≡ record { members = g.members; parity = sum (word_at written) g.members }
    one-used d = used (one-usable d)

    -- an unusable one is read as found, and has two or more damaged bits
    reads-found : unusable layer g ≡ true → (read_parity layer g).line ≡ g.parity
    unfolding unusable
    reads-found e = promises.kept _ g.parity found.places (eqb-true _ 4 e)

    unusable-two : unusable layer g ≡ true → 2 ≤ distance (sum (word_at written) g.members) g.parity
    unusable-two e = go (leb (distance (sum (word_at written) g.members) g.parity) 1) refl
      where
        go : (b : Bool) → leb (distance (sum (word_at written) g.members) g.parity) 1 ≡ b
            → 2 ≤ distance (sum (word_at written) g.members) g.parity
        go true f = absurd (true≢false (rw e at (one-usable (leb-true _ 1 f))))
        go false f = leb-false _ 1 f

    -- as read, its parity line is the sum of its lines
    read-sum : (as_read layer g).parity ≡ sum (word_at written) (as_read layer g).members
    read-sum = go (unusable layer g) refl
      where
        go : (b : Bool) → unusable layer g ≡ b → (as_read layer g).parity ≡ sum (word_at written) (as_read layer g).members
        go true e = rw (without-lines layer g e)
        go false e = rw (used e)

    -- where lines that are all accepted are the written ones, the parity line is left as written; otherwise it may be left as found
    pub parity-left : (s : State) → (faulty_count s ≡ 0 → (n : ℕ) → n ∈ g.members → line_at s n ≡ word_at written n)
        → (parity_after layer s g ≡ sum (word_at written) g.members)
        ⊎ ((faulty_count s ≡ 0 → ⊥) × (parity_after layer s g ≡ g.parity)
        × (2 ≤ distance (sum (word_at written) g.members) g.parity))
    unfolding parity_after
    parity-left s lines = go (unusable layer g) (eqb (faulty_count s) 0) refl refl
      where
        go : (b c : Bool) → unusable layer g ≡ b → eqb (faulty_count s) 0 ≡ c
            → (parity_after layer s g ≡ sum (word_at written) g.members)
            ⊎ ((faulty_count s ≡ 0 → ⊥) × (parity_after layer s g ≡ g.parity)
            × (2 ≤ distance (sum (word_at written) g.members) g.parity))
        go false c e f = inl (rw e (reads-written e))
        go true true e f = inl (rw (e, f) (sum-ext (line_at s) (word_at written) g.members (lines (eqb-true _ 0 f))))
        go true false e f = inr (eqb-false _ 0 f, rw (e, f) (reads-found e), unusable-two e)

  -- with the groups as read, lines written are a store written
  pub written_read : (gs : List Group) → ((g : Group) → g ∈ gs → Found layer written g)
      → ((n : ℕ) → n < length written → CorrectLine layer n (word_at written n)) → Written layer (map (as_read layer) gs) written
  written_read gs found correct =
      record {
        correct = correct;
        parities = λ h i. let g = map-from (as_read layer) gs h i in rw g.2 (read-sum g.0 (found g.0 g.1));
      }
