-- If every element but the origin is a power of M at one element u, and p is the order of M at u, the powers of M below p
-- are separate.
use mathlib.Core.Path.{◌≡◌, sym, ap, ◌∙◌}
use mathlib.Core.Logic.{◌⊎◌, inl, inr}
use Prim.Native.Nat.{ℕ, ◌+◌, ◌-◌, ◌<◌}
use native.Mathlib.Omega.{arith}
use Rattle.gf2.proofs.Space.{Space}
use Rattle.gf2.proofs.Iterate.{iterate, iterate-add, iterate_comm}
use Rattle.gf2.proofs.Vandermonde.{Separate}

-- x is a power of M at u, below p
abbrev pub Power : {A : Type 0} → (A → A) → A → ℕ → A → Type 0
Power M u p x = (k : ℕ) × (k < p) × (x ≡ iterate M k u)

module _ (S : Space) (M : S.carrier → S.carrier) (u : S.carrier) (p : ℕ)
    (period : iterate M p u ≡ u)
    (order : (d : ℕ) → 0 < d → d < p → iterate M d u ≡ u → ⊥)
    (orbit : (x : S.carrier) → (x ≡ S.origin) ⊎ Power M u p x) where
  open S use {carrier as C, origin as o}

  -- the powers d and e agree at x only if the power e - d fixes x
  fixed : (d e : ℕ) (x : C) → d < e → e < p → iterate M p x ≡ x → iterate M d x ≡ iterate M e x → iterate M (e - d) x ≡ x
  fixed d e x h i r q =
      let m : p + (e - d) ≡ e + (p - d) = omega arith in
      let n : d + (p - d) ≡ p = omega arith in
      ap (iterate M (e - d)) (sym r) ∙ sym (iterate-add M p (e - d) x) ∙ ap (λ (k : ℕ). iterate M k x) m
      ∙ iterate-add M e (p - d) x ∙ ap (iterate M (p - d)) (sym q) ∙ sym (iterate-add M d (p - d) x)
      ∙ ap (λ (k : ℕ). iterate M k x) n ∙ r

  -- what fixes a power of M at u fixes u
  fixes : (d k : ℕ) → k < p → iterate M d (iterate M k u) ≡ iterate M k u → iterate M d u ≡ u
  fixes d k h q =
      let n : k + (p - k) ≡ p = omega arith in
      let back : iterate M (p - k) (iterate M k u) ≡ u
      = sym (iterate-add M k (p - k) u) ∙ ap (λ (m : ℕ). iterate M m u) n ∙ period in
      ap (iterate M d) (sym back) ∙ iterate_comm M d (p - k) (iterate M k u) ∙ ap (iterate M (p - k)) q ∙ back

  pub separate : Separate S M p
  separate d e x h i q = go (orbit x)
    where
      go : (x ≡ o) ⊎ Power M u p x → x ≡ o
      go (inl z) = z
      go (inr (k, l, r)) =
          let c : iterate M p x ≡ x
          = ap (iterate M p) r ∙ iterate_comm M p k u ∙ ap (iterate M k) period ∙ sym r in
          let f : iterate M (e - d) x ≡ x = fixed d e x h i c q in
          absurd (order (e - d) (omega arith) (omega arith)
          (fixes (e - d) k l (ap (iterate M (e - d)) (sym r) ∙ f ∙ r)))
