-- The loop that counts piece after piece.
use mathlib.Core.Path.{◌≡◌, refl, sym, ap, ◌∙◌}
use mathlib.Core.List.{List, []}
use Prim.Native.Nat.{ℕ, zero, suc, ◌+◌, ◌-◌, ◌*◌, ◌/◌, ◌≤◌, ◌<◌}
use native.Mathlib.Omega.{arith}
use lib.ListN.{length, take, drop, get_or, length-drop}
use lib.Seq.{take-add, take_all, length-take-le}
use Rattle.std.specs.Simd.{first_chunks}
use Rattle.std.proofs.lemmas.List.{drop-drop}
use Rattle.results.specs.Marks.{count_of, counts_of, total, plus_counts}
use Rattle.results.specs.declared.marks.Counts.{Counts}
use Rattle.results.proofs.Counting.{counts-together, counts-are}
use Rattle.results.proofs.Adding.{counts-few}

-- what was counted among the first i marks
pub record SoFar (marks : List ℕ) (counts : Counts) (i : ℕ) : Type 0 where
  pub few : i ≤ length marks
  pub counted : counts ≡ counts_of (take i marks)

pub so-far-start : (marks : List ℕ) (c : Counts) → c.clean ≡ 0 → c.alone ≡ 0 → c.trial ≡ 0 → c.rebuilt ≡ 0 → c.faulty ≡ 0 → SoFar marks c 0
unfolding count_of
so-far-start marks c e f g h i =
    record { few = omega arith; counted = counts-are [] c.clean c.alone c.trial c.rebuilt c.faulty e f g h i }

-- where a piece stands
piece-at : (k i : ℕ) (marks : List ℕ) → i < k → get_or (first_chunks 192 k marks) i [] ≡ take 192 (drop (i * 192) marks)
piece-at zero i marks h = let z : ⊥ = omega arith in absurd z
piece-at (suc k) zero marks h = refl
piece-at (suc k) (suc i) marks h =
    let there : 192 + i * 192 ≡ suc i * 192 = omega arith in
    piece-at k i (drop 192 marks) (omega (arith, h))
    ∙ ap (take 192) (drop-drop (i * 192) 192 marks ∙ ap (λ (n : ℕ). drop n marks) there)

module _ (marks : List ℕ) (counts : Counts) (i : ℕ) (p : SoFar marks counts i) (size : ℕ) (room : i + size ≤ length marks) (piece : Counts)
    (e : piece ≡ counts_of (take size (drop i marks))) where
  -- a piece more
  pub together : plus_counts counts piece ≡ counts_of (take (i + size) marks)
  together =
      rw (p.counted, e) (sym (counts-together (take i marks) (take size (drop i marks)))) ∙ ap counts_of (sym (take-add i size marks))

  pub piece-fits : total counts + total piece ≤ length marks
  unfolding plus_counts
  piece-fits =
      let same = ap total together in
      let few = counts-few (take (i + size) marks) in
      let most = length-take-le (i + size) marks room in
      omega (arith, same, few, most, room)

module _ (marks : List ℕ) (counts : Counts) (i : ℕ) (p : SoFar marks counts (i * 192)) (pieces : List (List ℕ))
    (cut : pieces ≡ first_chunks 192 (length marks / 192) marks) (piece : Counts) where
  -- a whole piece more; no sum is too large, since both together are among the marks
  module _ (h : i < length marks / 192) (e : piece ≡ counts_of (get_or pieces i [])) where
    there : piece ≡ counts_of (take 192 (drop (i * 192) marks))
    there = e ∙ ap counts_of (ap (λ (l : List (List ℕ)). get_or l i []) cut ∙ piece-at (length marks / 192) i marks h)

    pub so-far-fits : total counts + total piece ≤ length marks
    so-far-fits = piece-fits marks counts (i * 192) p 192 (omega (arith, h)) piece there

    pub so-far-step : (next : Counts) → next ≡ plus_counts counts piece → SoFar marks next ((i + 1) * 192)
    so-far-step next f =
        let after : i * 192 + 192 ≡ (i + 1) * 192 = omega arith in
        record {
          few = omega (arith, h);
          counted =
              f ∙ together marks counts (i * 192) p 192 (omega (arith, h)) piece there ∙ ap (λ (n : ℕ). counts_of (take n marks)) after;
        }

-- and what is left after the whole pieces
module _ (marks : List ℕ) (counts : Counts) (i : ℕ) (p : SoFar marks counts (i * 192)) (h : i ≡ length marks / 192) (piece : Counts)
    (e : piece ≡ counts_of (drop (length marks / 192 * 192) marks)) where
  rest : ℕ
  rest = length marks - i * 192

  all : piece ≡ counts_of (take rest (drop (i * 192) marks))
  unfolding rest
  all =
      let long = length-drop (i * 192) marks in
      rw h e ∙ ap counts_of (sym (take_all rest (drop (i * 192) marks) (omega (arith, long))))

  pub so-far-rest-fits : total counts + total piece ≤ length marks
  unfolding rest
  so-far-rest-fits = piece-fits marks counts (i * 192) p rest (omega (arith, p.few)) piece all

  pub so-far-end : plus_counts counts piece ≡ counts_of marks
  unfolding rest
  so-far-end =
      together marks counts (i * 192) p rest (omega (arith, p.few)) piece all
      ∙ ap counts_of (take_all (i * 192 + rest) marks (omega (arith, p.few)))
