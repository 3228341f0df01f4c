-- Exclusive or over the lines of a group.
use mathlib.Core.Path.{◌≡◌, refl, sym, ap, ap₂, ◌∙◌}
use mathlib.Core.Logic.{inl, inr}
use mathlib.Core.List.{List, [], ◌∷◌}
use Prim.Native.Nat.{ℕ, ◌≤◌}
use native.Mathlib.Nat.{lt_irrefl, max-le}
use native.Mathlib.Omega.{arith}
use borrow.Author.Tests.{eq-eqb, ne_eqb}
use lib.ListN.{length}
use Rattle.gf2.specs.Word.{Word, ◌⊕◌, weight}
use Rattle.gf2.proofs.Xor.{xor_assoc, xor_comm, xor-swap, length-xor}
use Rattle.scheme.specs.Visit.{without, sum}
use Rattle.scheme.specs.Demand3.{◌∈◌, Rising}
use Rattle.scheme.proofs.Words.{weight-xor}

pub sum-ext : (f g : ℕ → Word) (ns : List ℕ) → ((n : ℕ) → n ∈ ns → f n ≡ g n) → sum f ns ≡ sum g ns
sum-ext f g [] h = refl
sum-ext f g (n ∷ ns) h = ap₂ ◌⊕◌ (h n (inl refl)) (sum-ext f g ns (λ m i. h m (inr i)))

pub sum-xor : (f g : ℕ → Word) (ns : List ℕ) → sum f ns ⊕ sum g ns ≡ sum (λ n. f n ⊕ g n) ns
sum-xor f g [] = refl
sum-xor f g (n ∷ ns) = xor-swap (f n) (sum f ns) (g n) (sum g ns) ∙ ap (λ (w : Word). f n ⊕ g n ⊕ w) (sum-xor f g ns)

pub sum-length : (k : ℕ) (f : ℕ → Word) (ns : List ℕ) → ((n : ℕ) → n ∈ ns → length (f n) ≤ k) → length (sum f ns) ≤ k
sum-length k f [] h = omega arith
sum-length k f (n ∷ ns) h =
    rw (length-xor (f n) (sum f ns)) (max-le (h n (inl refl)) (sum-length k f ns (λ m i. h m (inr i))))

pub sum-light : (f : ℕ → Word) (ns : List ℕ) → ((n : ℕ) → n ∈ ns → weight (f n) ≡ 0) → weight (sum f ns) ≡ 0
sum-light f [] h = refl
sum-light f (n ∷ ns) h =
    omega (arith, weight-xor (f n) (sum f ns), h n (inl refl), sum-light f ns (λ m i. h m (inr i)))

without-absent : (n : ℕ) (ns : List ℕ) → (n ∈ ns → ⊥) → without n ns ≡ ns
without-absent n [] h = refl
without-absent n (m ∷ ms) h =
    rw (ne_eqb m n (λ e. h (inl (sym e)))) (ap (λ (l : List ℕ). m ∷ l) (without-absent n ms (λ i. h (inr i))))

-- a total over a group: what line n gives and what the others do
module _ {A : Type 0} (add : A → A → A) (assoc : (a b c : A) → add (add a b) c ≡ add a (add b c)) (comm : (a b : A) → add a b ≡ add b a)
    (f : ℕ → A) (total : List ℕ → A) (more : (n : ℕ) (ns : List ℕ) → total (n ∷ ns) ≡ add (f n) (total ns)) where
  pub total-split : (n : ℕ) (ns : List ℕ) → Rising ns → n ∈ ns → total ns ≡ add (f n) (total (without n ns))
  total-split n [] r h = absurd h
  total-split n (m ∷ ms) r (inl p) =
      let absent : n ∈ ms → ⊥ = λ i. lt_irrefl n (rw (← p) at (r.0 n i)) in
      more m ms ∙ rw (eq-eqb m n (sym p), without-absent n ms absent, p)
  total-split n (m ∷ ms) r (inr i) =
      rw (ne_eqb m n (λ e. lt_irrefl n (rw e at (r.0 n i))))
      (more m ms ∙ ap (add (f m)) (total-split n ms r.1 i) ∙ sym (assoc (f m) (f n) (total (without n ms)))
      ∙ ap (λ (a : A). add a (total (without n ms))) (comm (f m) (f n)) ∙ assoc (f n) (f m) (total (without n ms))
      ∙ ap (add (f n)) (sym (more m (without n ms))))

-- a line of the group and the others
pub sum-split : (f : ℕ → Word) (n : ℕ) (ns : List ℕ) → Rising ns → n ∈ ns → sum f ns ≡ f n ⊕ sum f (without n ns)
sum-split f = total-split ◌⊕◌ xor_assoc xor_comm f (sum f) (λ n ns. refl)
