-- The promises can be kept and the words of demand 3 be met: a small layer, and damage of which one line is mended by trial.
use mathlib.Core.Path.{◌≡◌, refl, sym, ap, ap₂, ◌∙◌}
use mathlib.Core.Logic.{◌⊎◌, inl, inr}
use mathlib.Core.Bool.{Bool, true, false}
use mathlib.Core.List.{List, [], ◌∷◌}
use Prim.Native.Nat.{ℕ, zero, suc, ◌≤◌, ◌<◌}
use native.Mathlib.Omega.{arith}
use borrow.Author.Tests.{leb-true, le-leb}
use lib.Dec.{leb, lit<, lit≤}
use lib.ListN.{length, length-replicate}
use Rattle.gf2.specs.Word.{Word, ◌⊕◌, zeros, weight, distance}
use Rattle.gf2.proofs.Xor.{xor_comm, xor_self, xor-zeros}
use Rattle.scheme.specs.Layer.{Cell, Layer, read_line, ReadsAs, Promises}
use Rattle.scheme.specs.Visit.{Group, sum, rebuild, settle, mismatch, trial, visit}
use Rattle.scheme.specs.Repair.{passes_from, repair, marks_of}
use Rattle.scheme.specs.Case.{read_zero}
use Rattle.scheme.specs.Demand3.{◌∈◌, Rising, RisingGroups, word_at, Written, damage, Alone, Paired, Turns, Mendable, Returned}
use Rattle.scheme.proofs.ExactReturn.{exact-return}

-- the line code whose only correct line is zero
abbrev pub zero_layer : ℕ → Layer
zero_layer k = record { width = k; address = λ n. n; read = read_zero k; Correct = λ a w. w ≡ zeros k }

module _ (k a : ℕ) (found : Word) where
  light : weight found ≤ 1 → read_zero k a found ≡ record { line = zeros k; mark = weight found }
  unfolding read_zero
  light h = rw (le-leb (weight found) 1 h)

  heavy : leb (weight found) 1 ≡ false → read_zero k a found ≡ record { line = found; mark = 4 }
  unfolding read_zero
  heavy e = rw e

  module _ (w : Word) (c : w ≡ zeros k) (l : length found ≡ k) where
    zero-distance : distance w found ≡ weight found
    zero-distance =
        ap (λ (x : Word). distance x found) c
        ∙ ap weight (xor_comm (zeros k) found ∙ xor-zeros k found (omega arith))

    zero-corrects : distance w found ≤ 1 → ReadsAs w (read_zero k a found)
    zero-corrects h =
        let few : weight found ≤ 1 = omega (arith, zero-distance) in
        rw (light few) (record { gives = sym c; accepted = few })

    zero-detects : ReadsAs w (read_zero k a found) ⊎ ((read_zero k a found).mark ≡ 4)
    zero-detects = go (leb (weight found) 1) refl
      where
        go : (b : Bool) → leb (weight found) 1 ≡ b → ReadsAs w (read_zero k a found) ⊎ ((read_zero k a found).mark ≡ 4)
        go true e = inl (zero-corrects (omega (arith, zero-distance, leb-true (weight found) 1 e)))
        go false e = inr (ap (λ (x : Cell). x.mark) (heavy e))

  zero-kept : (read_zero k a found).mark ≡ 4 → (read_zero k a found).line ≡ found
  zero-kept h = go (leb (weight found) 1) refl
    where
      go : (b : Bool) → leb (weight found) 1 ≡ b → (read_zero k a found).line ≡ found
      go true e =
          let few : weight found ≤ 1 = leb-true (weight found) 1 e in
          let z : ⊥ = omega (arith, sym (ap (λ (x : Cell). x.mark) (light few)) ∙ h) in absurd z
      go false e = ap (λ (x : Cell). x.line) (heavy e)

  zero-sound : ((read_zero k a found).mark ≡ 4) ⊎ (((read_zero k a found).mark ≤ 1) × ((read_zero k a found).line ≡ zeros k))
  zero-sound = go (leb (weight found) 1) refl
    where
      go : (b : Bool) → leb (weight found) 1 ≡ b
          → ((read_zero k a found).mark ≡ 4) ⊎ (((read_zero k a found).mark ≤ 1) × ((read_zero k a found).line ≡ zeros k))
      go true e = let few : weight found ≤ 1 = leb-true (weight found) 1 e in inr (rw (light few) (few, refl))
      go false e = inl (ap (λ (x : Cell). x.mark) (heavy e))

  zero-marks : ((read_zero k a found).mark ≤ 1) ⊎ ((read_zero k a found).mark ≡ 4)
  zero-marks = go zero-sound
    where
      go : ((read_zero k a found).mark ≡ 4) ⊎ (((read_zero k a found).mark ≤ 1) × ((read_zero k a found).line ≡ zeros k))
          → ((read_zero k a found).mark ≤ 1) ⊎ ((read_zero k a found).mark ≡ 4)
      go (inl e) = inr e
      go (inr c) = inl c.0

pub zero_promises : (k : ℕ) → Promises (zero_layer k)
zero_promises k =
    record {
      sized = λ a w c. ap length c ∙ length-replicate k false;
      apart = λ a w v c d h. c ∙ sym d;
      summed = λ a b w v c d. ap₂ ◌⊕◌ c d ∙ xor_self (zeros k) ∙ ap zeros (length-replicate k false);
      corrects = λ a w found c l h. zero-corrects k a found w c l h;
      detects = λ a w found c l h. zero-detects k a found w c l;
      kept = λ a found l h. zero-kept k a found h;
      sound = λ a found l. zero-sound k a found;
      marks = λ a found. zero-marks k a found;
    }

-- two rows and two columns of zero lines of four places
abbrev pub group : ℕ → ℕ → Group
group n m = record { members = n ∷ m ∷ []; parity = zeros 4 }

abbrev pub groups : List Group
groups = group 0 1 ∷ group 2 3 ∷ group 0 2 ∷ group 1 3 ∷ []

abbrev pub stored : List Word
stored = zeros 4 ∷ zeros 4 ∷ zeros 4 ∷ zeros 4 ∷ []

-- line 0 is damaged at places 0 and 1, line 1 at places 2 and 3
abbrev pub received : List Word
received =
    (true ∷ true ∷ false ∷ false ∷ []) ∷ (false ∷ false ∷ true ∷ true ∷ []) ∷ zeros 4 ∷ zeros 4 ∷ []

pair-rising : (n m : ℕ) → n < m → Rising (n ∷ m ∷ [])
pair-rising n m h = (above, ((λ k i. absurd i), tt))
  where
    above : (k : ℕ) → k ∈ (m ∷ []) → n < k
    above k (inl e) = rw e h
    above k (inr i) = absurd i

groups-rising : RisingGroups groups
groups-rising g (inl e) = rw e (pair-rising 0 1 (lit< tt))
groups-rising g (inr (inl e)) = rw e (pair-rising 2 3 (lit< tt))
groups-rising g (inr (inr (inl e))) = rw e (pair-rising 0 2 (lit< tt))
groups-rising g (inr (inr (inr (inl e)))) = rw e (pair-rising 1 3 (lit< tt))
groups-rising g (inr (inr (inr (inr i)))) = absurd i

store-written : Written (zero_layer 4) groups stored
store-written = record { correct = zero-lines; parities = zero-parities }
  where
    zero-lines : (n : ℕ) → n < 4 → word_at stored n ≡ zeros 4
    zero-lines zero h = refl
    zero-lines (suc zero) h = refl
    zero-lines (suc (suc zero)) h = refl
    zero-lines (suc (suc (suc zero))) h = refl
    zero-lines (suc (suc (suc (suc n)))) h = let z : ⊥ = omega arith in absurd z

    zero-parities : (g : Group) → g ∈ groups → g.parity ≡ sum (word_at stored) g.members
    zero-parities g (inl e) = rw e
    zero-parities g (inr (inl e)) = rw e
    zero-parities g (inr (inr (inl e))) = rw e
    zero-parities g (inr (inr (inr (inl e)))) = rw e
    zero-parities g (inr (inr (inr (inr i)))) = absurd i

store-mendable : Mendable stored received (zero_layer 4) groups (0 ∷ 1 ∷ [])
store-mendable =
    record {
      bounds = record { lines = refl; places = four-places; five = at_most_two };
      each = both;
      no_other = damaged;
      turns = turns;
    }
  where
    four-places : (n : ℕ) → n < 4 → length (word_at received n) ≡ 4
    four-places zero h = refl
    four-places (suc zero) h = refl
    four-places (suc (suc zero)) h = refl
    four-places (suc (suc (suc zero))) h = refl
    four-places (suc (suc (suc (suc n)))) h = let z : ⊥ = omega arith in absurd z

    at_most_two : (n : ℕ) → n < 4 → damage stored received n ≤ 5
    at_most_two zero h = lit≤ tt
    at_most_two (suc zero) h = lit≤ tt
    at_most_two (suc (suc zero)) h = lit≤ tt
    at_most_two (suc (suc (suc zero))) h = lit≤ tt
    at_most_two (suc (suc (suc (suc n)))) h = let z : ⊥ = omega arith in absurd z

    both : (n : ℕ) → n < 4 → 2 ≤ damage stored received n → n ∈ (0 ∷ 1 ∷ [])
    both zero h d = inl refl
    both (suc zero) h d = inr (inl refl)
    both (suc (suc zero)) h d = let z : ⊥ = omega arith in absurd z
    both (suc (suc (suc zero))) h d = let z : ⊥ = omega arith in absurd z
    both (suc (suc (suc (suc n)))) h d = let z : ⊥ = omega arith in absurd z

    damaged : (n : ℕ) → n ∈ (0 ∷ 1 ∷ []) → (n < 4) × (2 ≤ damage stored received n)
    damaged n (inl e) = rw e (lit< tt, lit≤ tt)
    damaged n (inr (inl e)) = rw e (lit< tt, lit≤ tt)
    damaged n (inr (inr i)) = absurd i

    -- line 0 first, by trial beside line 1 in row 0
    first : Paired stored received groups 0 (1 ∷ [])
    first =
        record {
          two = refl;
          group = group 0 1;
          listed = inl refl;
          holds = inl refl;
          other = 1;
          left = inl refl;
          holds_other = inr (inl refl);
          no_third = third;
          four = lit≤ tt;
          place = 0;
          hurt = refl;
          unhurt = refl;
        }
      where
        third : (m : ℕ) → m ∈ (0 ∷ 1 ∷ []) → m ∈ (1 ∷ []) → m ≡ 1
        third m i (inl e) = e
        third m i (inr j) = absurd j

    second : Alone stored received groups 1 []
    second = record { group = group 0 1; listed = inl refl; holds = inr (inl refl); no_other = λ m i j. j }

    zero-not-one : ◌∈◌ {A = ℕ} 0 (1 ∷ []) → ⊥
    zero-not-one (inl e) = omega arith
    zero-not-one (inr i) = i

    turns : Turns stored received groups (0 ∷ 1 ∷ [])
    turns = (zero-not-one, inr first, ((λ i. i), inl second, tt))

-- so both come back, as a run shows too: both by trial
pub example-returned : Returned groups stored (repair (read_line (zero_layer 4)) groups received)
example-returned =
    exact-return (zero_layer 4) (zero_promises 4) groups groups-rising stored received store-written (0 ∷ 1 ∷ []) store-mendable

pub example-marks : marks_of (repair (read_line (zero_layer 4)) groups received).cells ≡ 2 ∷ 2 ∷ 0 ∷ 0 ∷ []
unfolding read_zero repair passes_from visit trial settle rebuild mismatch
example-marks = refl
