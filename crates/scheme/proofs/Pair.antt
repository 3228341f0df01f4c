-- Two faulty lines in a group: the mismatch is what damages them, and the line with two damaged bits is mended by trial.
use mathlib.Core.Path.{◌≡◌, refl, sym, ap, ap₂, ◌∙◌}
use mathlib.Core.Logic.{◌⊎◌, inl, inr}
use mathlib.Core.Bool.{Bool, true, false, not, false≢true}
use mathlib.Core.List.{List, [], ◌∷◌}
use Prim.Native.Nat.{ℕ, ◌+◌, ◌≤◌, ◌<◌}
use native.Mathlib.Nat.{zero-add}
use native.Mathlib.Omega.{arith}
use borrow.Author.Tests.{eqb-false, ne_eqb, le-leb, not-true}
use lib.Dec.{eqb}
use lib.ListN.{length, get_or}
use Rattle.gf2.specs.Word.{Word, ◌⊻◌, ◌⊕◌, weight, distance, flip}
use Rattle.gf2.proofs.Xor.{xor_comm}
use Rattle.gf2.proofs.Weight.{distance_self, length-flip}
use Rattle.scheme.specs.Layer.{Layer, read_line, Promises}
use Rattle.scheme.specs.Visit.{Group, State, cell_at, line_at, is_faulty, faulty_of, without, sum, mismatch, triable, visit}
use Rattle.scheme.specs.Demand3.{◌∈◌, Rising, RisingGroups, word_at, Written, Paired, WithinBounds}
use Rattle.scheme.proofs.Lists.{selected, selects, rising-select, at-least-two}
use Rattle.scheme.proofs.Words.{weight-xor, place-xor, place-light, distance-mend, length-set_places, in-set_places}
use Rattle.scheme.proofs.Sums.{sum-xor, sum-light, sum-split}
use Rattle.scheme.proofs.Faithful.{Right, whole, hurt, Faithful, right-line, accepted-mark}
use Rattle.scheme.proofs.Mends.{tried-mended}

-- a sum that two of its words alone make up
module _
    (f : ℕ → Word) (ns : List ℕ) (r : Rising ns) (n m : ℕ) (i : n ∈ ns) (j : m ∈ ns) (d : n ≡ m → ⊥)
    (light : (k : ℕ) → k ∈ ns → (k ≡ n → ⊥) → (k ≡ m → ⊥) → weight (f k) ≡ 0) where
  rest : List ℕ
  rest = without m (without n ns)

  two-split : sum f ns ≡ f n ⊕ (f m ⊕ sum f rest)
  unfolding rest
  two-split =
      sum-split f n ns r i
      ∙ ap (λ (w : Word). f n ⊕ w)
      (sum-split f m (without n ns) (rising-select _ ns r)
      (selects (λ k. not (eqb k n)) ns m j (ap not (ne_eqb m n (λ e. d (sym e))))))

  rest-light : weight (sum f rest) ≡ 0
  unfolding rest
  rest-light =
      sum-light f rest
      (λ k h.
      let a : (k ∈ without n ns) × (not (eqb k m) ≡ true) = selected (λ l. not (eqb l m)) (without n ns) k h in
      let b : (k ∈ ns) × (not (eqb k n) ≡ true) = selected (λ l. not (eqb l n)) ns k a.0 in
      light k b.0 (eqb-false _ _ (not-true _ b.1)) (eqb-false _ _ (not-true _ a.1)))

  two-weight : weight (sum f ns) ≤ weight (f n) + weight (f m)
  two-weight =
      rw two-split
      (omega (arith, weight-xor (f n) (f m ⊕ sum f rest), weight-xor (f m) (sum f rest), rest-light))

  two-place : (p : ℕ) → get_or (f n) p false ≡ true → get_or (f m) p false ≡ false → get_or (sum f ns) p false ≡ true
  two-place p a b =
      ap (λ (w : Word). get_or w p false) two-split ∙ place-xor (f n) (f m ⊕ sum f rest) p
      ∙ ap₂ ◌⊻◌ a (place-xor (f m) (sum f rest) p ∙ ap₂ ◌⊻◌ b (place-light (sum f rest) p rest-light))

in-nonempty : (n : ℕ) (ns : List ℕ) → n ∈ ns → 1 ≤ length ns
in-nonempty n [] i = absurd i
in-nonempty n (m ∷ ns) i = omega arith

module _
    (layer : Layer) (promises : Promises layer) (gs : List Group) (rising : RisingGroups gs) (written received : List Word)
    (w : Written layer gs written) (bounds : WithinBounds written received layer)
    (s : State) (faithful : Faithful written received s) (n : ℕ) (later : List ℕ) (pair : Paired written received gs n later)
    (differ : n ≡ pair.other → ⊥) (faulty : is_faulty (cell_at s n) ≡ true)
    (faulty_other : is_faulty (cell_at s pair.other) ≡ true)
    (only : (k : ℕ) → k ∈ pair.group.members → is_faulty (cell_at s k) ≡ true → (k ≡ n) ⊎ (k ≡ pair.other)) where
  open pair use {group as g, listed, holds, other as m, holds_other, two, four, place as p, hurt as hurt_at, unhurt}

  difference : ℕ → Word
  difference k = line_at s k ⊕ word_at written k

  found : (k : ℕ) → is_faulty (cell_at s k) ≡ true → line_at s k ≡ word_at received k
  found k e = go (faithful k)
    where
      go : Right written received k (cell_at s k) → line_at s k ≡ word_at received k
      go (whole a b) = absurd (false≢true (sym a ∙ e))
      go (hurt a b c d) = b

  inside : n < length written
  inside = go (faithful n)
    where
      go : Right written received n (cell_at s n) → n < length written
      go (whole a b) = absurd (false≢true (sym a ∙ faulty))
      go (hurt a b c d) = c

  -- a faulty line's difference is its damage
  damage-word : (k : ℕ) → is_faulty (cell_at s k) ≡ true → difference k ≡ word_at written k ⊕ word_at received k
  unfolding difference
  damage-word k e = ap (λ (x : Word). x ⊕ word_at written k) (found k e) ∙ xor_comm (word_at received k) (word_at written k)

  light : (k : ℕ) → k ∈ g.members → (k ≡ n → ⊥) → (k ≡ m → ⊥) → weight (difference k) ≡ 0
  unfolding difference
  light k i a b = go (is_faulty (cell_at s k)) refl
    where
      neither : (k ≡ n) ⊎ (k ≡ m) → weight (difference k) ≡ 0
      neither (inl e) = absurd (a e)
      neither (inr e) = absurd (b e)

      go : (t : Bool) → is_faulty (cell_at s k) ≡ t → weight (difference k) ≡ 0
      go true e = neither (only k i e)
      go false e =
          ap (λ (x : Word). distance x (word_at written k)) (right-line written received k _ (faithful k) e)
          ∙ distance_self (word_at written k)

  mismatch-word : sum (line_at s) g.members ⊕ g.parity ≡ sum difference g.members
  unfolding difference
  mismatch-word =
      ap (λ (x : Word). sum (line_at s) g.members ⊕ x) (w.parities g listed)
      ∙ sum-xor (line_at s) (word_at written) g.members

  few : length (mismatch g s) ≤ 6
  unfolding mismatch
  few =
      rw (length-set_places 0 (sum (line_at s) g.members ⊕ g.parity), mismatch-word)
      (omega (
        arith,
        two,
        four,
        two-weight difference g.members (rising g listed) n m holds holds_other differ light,
        ap weight (damage-word n faulty),
        ap weight (damage-word m faulty_other),
      ))

  at_place : p ∈ mismatch g s
  unfolding mismatch
  at_place =
      rw zero-add at
      (in-set_places 0 (sum (line_at s) g.members ⊕ g.parity) p
      (rw mismatch-word
      (two-place difference g.members (rising g listed) n m holds holds_other differ light p
      (rw (damage-word n faulty) hurt_at) (rw (damage-word m faulty_other) unhurt))))

  tries : triable g s ≡ true
  tries =
      let many : 2 ≤ length (faulty_of s g.members) =
      at-least-two n m (faulty_of s g.members) (selects _ g.members n holds faulty)
      (selects _ g.members m holds_other faulty_other) differ in
      let some : 1 ≤ length (mismatch g s) = in-nonempty p (mismatch g s) at_place in
      rw (le-leb 2 _ many, le-leb 1 _ some, le-leb _ 6 few)

  accepted : is_faulty (read_line layer n (flip p (line_at s n))) ≡ false
  accepted =
      let long : length (word_at written n) ≡ length (word_at received n) =
      promises.sized _ _ (w.correct n inside) ∙ sym (bounds.places n inside) in
      rw (found n faulty)
      (accepted-mark (word_at written n) _
      (promises.corrects (layer.address n) (word_at written n) (flip p (word_at received n)) (w.correct n inside)
      (length-flip p (word_at received n) ∙ bounds.places n inside)
      (omega (arith, two, distance-mend (word_at written n) (word_at received n) p long hurt_at))))

  pub pair-mended : is_faulty (cell_at (visit (read_line layer) pair.group s) n) ≡ false
  pair-mended = tried-mended (read_line layer) g s n holds faulty p tries at_place accepted
