-- The list of the powers of a map at an element, and what tests on that list say of the powers.
use mathlib.Core.Path.{◌≡◌, sym, subst, ◌∙◌}
use mathlib.Core.List.{List, [], ◌∷◌}
use mathlib.Core.Logic.{◌⊎◌, inl, inr}
use Prim.Native.Nat.{ℕ, zero, suc, ◌<◌, suc-le-suc}
use native.Mathlib.Nat.{le_of_suc-le-suc, not-suc-le-zero, zero-lt-suc}
use lib.Dec.{T}
use Rattle.gf2.proofs.Iterate.{iterate, iterate-zero, iterate-suc}
use Rattle.gf2.proofs.Orbit.{Power}
use Rattle.gf2.proofs.Vector.{Vector}
use Rattle.gf2.proofs.Listing.{Member, absent, absent-not, covers, covers-all}

-- x, M x, and so on: k elements
abbrev pub trail : {A : Type 0} → (A → A) → ℕ → A → List A
trail M zero x = []
trail M (suc k) x = x ∷ trail M k (M x)

member-trail : {A : Type 0} (M : A → A) (k : ℕ) (x y : A) → Member y (trail M k x) → Power M x k y
member-trail M zero x y m = absurd m
member-trail M (suc k) x y (inl e) = (zero, zero-lt-suc k, e ∙ sym (iterate-zero M x))
member-trail M (suc k) x y (inr m) =
    let (i, h, e) = member-trail M k (M x) y m in
    (suc i, suc-le-suc h, e ∙ sym (iterate-suc M i x))

trail-member : {A : Type 0} (M : A → A) (k i : ℕ) (x : A) → i < k → Member (iterate M i x) (trail M k x)
trail-member M zero i x h = absurd (not-suc-le-zero h)
trail-member M (suc k) zero x h = inl (iterate-zero M x)
trail-member M (suc k) (suc i) x h =
    inr (subst (λ y. Member y (trail M k (M x))) (sym (iterate-suc M i x)) (trail-member M k i (M x) (le_of_suc-le-suc h)))

module _ (n : ℕ) (M : Vector n → Vector n) (u : Vector n) where
  -- the powers after the first differ from u
  pub absent-order : (k : ℕ) → T (absent n u (trail M k (M u))) → (d : ℕ) → 0 < d → d < suc k → iterate M d u ≡ u → ⊥
  absent-order k t zero p h e = not-suc-le-zero p
  absent-order k t (suc i) p h e =
      absent-not n u (trail M k (M u)) t
      (subst (λ (x : Vector n). Member x (trail M k (M u))) (sym (iterate-suc M i u) ∙ e)
      (trail-member M k i (M u) (le_of_suc-le-suc h)))

  -- the powers and o are all vectors
  pub covers_orbit : (k : ℕ) (o : Vector n) → T (covers n (o ∷ trail M k u)) → (x : Vector n) → (x ≡ o) ⊎ Power M u k x
  covers_orbit k o t x = go (covers-all n (o ∷ trail M k u) t x)
    where
      go : Member x (o ∷ trail M k u) → (x ≡ o) ⊎ Power M u k x
      go (inl e) = inl e
      go (inr m) = inr (member-trail M k u x m)
