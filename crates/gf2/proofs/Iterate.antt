-- A map applied k times.
use mathlib.Core.Path.{◌≡◌, refl, sym, ap, ◌∙◌}
use Prim.Native.Nat.{ℕ, zero, suc, ◌+◌}
use native.Mathlib.Nat.{zero-add, suc-add, add_comm}
use Rattle.gf2.proofs.Space.{Space, Additive}

module _ {A : Type 0} (M : A → A) where
  unfoldable pub iterate : ℕ → A → A
  iterate zero x = x
  iterate (suc k) x = iterate k (M x)

  pub iterate-zero : (x : A) → iterate zero x ≡ x
  unfolding iterate
  iterate-zero x = refl

  pub iterate-suc : (k : ℕ) (x : A) → iterate (suc k) x ≡ iterate k (M x)
  unfolding iterate
  iterate-suc k x = refl

  pub iterate-add : (m n : ℕ) (x : A) → iterate (m + n) x ≡ iterate n (iterate m x)
  unfolding iterate
  iterate-add zero n x = ap (λ (k : ℕ). iterate k x) (zero-add n)
  iterate-add (suc m) n x = ap (λ (k : ℕ). iterate k x) (suc-add m n) ∙ iterate-add m n (M x)

  pub iterate_comm : (m n : ℕ) (x : A) → iterate m (iterate n x) ≡ iterate n (iterate m x)
  iterate_comm m n x =
      sym (iterate-add n m x) ∙ ap (λ (k : ℕ). iterate k x) (add_comm n m) ∙ iterate-add m n x

pub iterate-additive : (S : Space) (M : S.carrier → S.carrier) → Additive S M → (k : ℕ) → Additive S (iterate M k)
unfolding iterate
iterate-additive S M additive zero x y = refl
iterate-additive S M additive (suc k) x y =
    ap (iterate M k) (additive x y) ∙ iterate-additive S M additive k (M x) (M y)
