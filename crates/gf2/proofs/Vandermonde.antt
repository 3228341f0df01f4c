-- Vandermonde's argument with vectors as weights: if as many moments vanish as places are set, all weights vanish.
-- M takes the part of a root: no two of its powers below p agree except at the origin.
use mathlib.Core.Path.{◌≡◌, refl, sym, ap, ap₂, fun_ext, ◌∙◌}
use mathlib.Core.Bool.{true, false}
use mathlib.Core.List.{[], ◌∷◌}
use Prim.Native.Nat.{ℕ, suc, ◌+◌, ◌*◌, ◌≤◌, ◌<◌, suc-le-suc}
use native.Mathlib.Nat.{mul-add, zero-mul, suc-mul, add_comm}
use native.Mathlib.Omega.{arith}
use lib.ListN.{length}
use Rattle.gf2.specs.Word.{Word, weight, zeros}
use Rattle.gf2.proofs.Space.{Space, Additive, unit_left, equal, map-origin}
use Rattle.gf2.proofs.Iterate.{iterate, iterate-zero, iterate-add, iterate_comm, iterate-additive}
use Rattle.gf2.proofs.Evaluation.{value, value-sum, value-map, Recurs}

-- the powers d and e of M agree at the origin alone, for all d < e < p
abbrev pub Separate : (S : Space) → (S.carrier → S.carrier) → ℕ → Type 0
Separate S M p =
    (d e : ℕ) (x : S.carrier) → d < e → e < p → iterate M d x ≡ iterate M e x → x ≡ S.origin

-- v is the origin at the exponent of each set place
abbrev pub Vanish : (S : Space) → (ℕ → S.carrier) → Word → Type 0
Vanish S v [] = Unit
Vanish S v (false ∷ w) = Vanish S v w
Vanish S v (true ∷ w) = (v (length w) ≡ S.origin) × Vanish S v w

-- the j-th moment of the weights v over the set places
abbrev pub moment : (S : Space) → (S.carrier → S.carrier) → (ℕ → S.carrier) → ℕ → Word → S.carrier
moment S M v j w = value S (λ e. iterate M (j * e) (v e)) w

module _ (S : Space) (M : S.carrier → S.carrier) (additive : Additive S M) where
  open S use {carrier as C, origin as o, sum as ◌⊞◌, comm, assoc, unit, self}

  infixl 60 ◌⊞◌
  -- a recurrence at the first exponents holds at all
  pub moment_recurs : (u : C) (j : ℕ) (g : Word) → iterate M (j * length g) u ≡ moment S M (λ e. u) j g
      → Recurs S g (λ e. iterate M (j * e) u)
  moment_recurs u j g h k =
      later (length g) ∙ ap (iterate M (j * k)) h
      ∙ sym (value-map S (iterate M (j * k)) (iterate-additive S M additive (j * k)) (λ e. iterate M (j * e) u) g)
      ∙ ap (λ (f : ℕ → C). value S f g) (fun_ext (λ e. sym (later e)))
    where
      later : (e : ℕ) → iterate M (j * (e + k)) u ≡ iterate M (j * k) (iterate M (j * e) u)
      later e = ap (λ (m : ℕ). iterate M m u) (mul-add j e k) ∙ iterate-add M (j * e) (j * k) u

  iterate-origin : (k : ℕ) → iterate M k o ≡ o
  iterate-origin k = map-origin S (iterate M k) (iterate-additive S M additive k)

  vanish-moment : (v : ℕ → C) (j : ℕ) (w : Word) → Vanish S v w → moment S M v j w ≡ o
  vanish-moment v j [] h = refl
  vanish-moment v j (false ∷ w) h = unit_left S (moment S M v j w) ∙ vanish-moment v j w h
  vanish-moment v j (true ∷ w) h =
      ap₂ ◌⊞◌ (ap (iterate M (j * length w)) h.0 ∙ iterate-origin (j * length w)) (vanish-moment v j w h.1)
      ∙ unit o

  -- the weights that turn the moments j and j + 1 into a moment j without exponent n
  abbrev twist : (ℕ → C) → ℕ → ℕ → C
  twist v n e = iterate M e (v e) ⊞ iterate M n (v e)

  moment-twist : (v : ℕ → C) (n j : ℕ) (w : Word)
      → moment S M (twist v n) j w ≡ moment S M v (suc j) w ⊞ iterate M n (moment S M v j w)
  moment-twist v n j w =
      ap (λ (f : ℕ → C). value S f w) (fun_ext term)
      ∙ value-sum S (λ e. iterate M (suc j * e) (v e)) (λ e. iterate M n (iterate M (j * e) (v e))) w
      ∙ ap (λ (x : C). moment S M v (suc j) w ⊞ x)
      (value-map S (iterate M n) (iterate-additive S M additive n) (λ e. iterate M (j * e) (v e)) w)
    where
      term : (e : ℕ) → iterate M (j * e) (twist v n e) ≡ iterate M (suc j * e) (v e) ⊞ iterate M n (iterate M (j * e) (v e))
      term e =
          iterate-additive S M additive (j * e) (iterate M e (v e)) (iterate M n (v e))
          ∙ ap₂ ◌⊞◌
          (sym (iterate-add M e (j * e) (v e)) ∙ ap (λ (k : ℕ). iterate M k (v e)) (add_comm e (j * e) ∙ sym (suc-mul j e)))
          (iterate_comm M (j * e) n (v e))

  twist-vanish : (p : ℕ) → Separate S M p → (v : ℕ → C) (n : ℕ) → n < p → (w : Word) → length w ≤ n
      → Vanish S (twist v n) w → Vanish S v w
  twist-vanish p separate v n i [] h t = tt
  twist-vanish p separate v n i (false ∷ w) h t = twist-vanish p separate v n i w (omega arith) t
  twist-vanish p separate v n i (true ∷ w) h t = (
    separate (length w) n (v (length w)) h i (equal S (iterate M (length w) (v (length w))) (iterate M n (v (length w))) t.0),
    twist-vanish p separate v n i w (omega arith) t.1,
  )

  pub vandermonde : (p : ℕ) → Separate S M p → (w : Word) (v : ℕ → C) → length w ≤ p
      → ((j : ℕ) → j < weight w → moment S M v j w ≡ o) → Vanish S v w
  vandermonde p separate [] v h s = tt
  vandermonde p separate (false ∷ w) v h s =
      vandermonde p separate w v (omega arith) (λ j i. sym (unit_left S (moment S M v j w)) ∙ s j i)
  vandermonde p separate (true ∷ w) v h s =
      let rest : Vanish S v w =
      twist-vanish p separate v n h w (omega arith) (vandermonde p separate w (twist v n) (omega arith) twisted) in
      (first rest, rest)
    where
      n : ℕ
      n = length w

      twisted : (j : ℕ) → j < weight w → moment S M (twist v n) j w ≡ o
      twisted j i =
          sym (unit_left S (moment S M (twist v n) j w))
          ∙ ap (λ (x : C). x ⊞ moment S M (twist v n) j w)
          (sym (ap (iterate M (j * n)) (self (iterate M n (v n))) ∙ iterate-origin (j * n)))
          ∙ moment-twist v n j (true ∷ w)
          ∙ ap₂ (λ (x y : C). x ⊞ iterate M n y) (s (suc j) (suc-le-suc i)) (s j (omega arith))
          ∙ unit_left S (iterate M n o) ∙ iterate-origin n

      first : Vanish S v w → v n ≡ o
      first t =
          sym (iterate-zero M (v n)) ∙ ap (λ (k : ℕ). iterate M k (v n)) (sym (zero-mul n))
          ∙ sym (unit (iterate M (0 * n) (v n)))
          ∙ ap (λ (x : C). iterate M (0 * n) (v n) ⊞ x) (sym (vanish-moment v 0 w t)) ∙ s 0 (omega arith)

-- a weight that is not the origin vanishes only where no place is set
pub vanish-zeros : (S : Space) (u : S.carrier) → (u ≡ S.origin → ⊥) → (w : Word) → Vanish S (λ e. u) w → w ≡ zeros (length w)
vanish-zeros S u n [] t = refl
vanish-zeros S u n (false ∷ w) t = ap (λ (x : Word). false ∷ x) (vanish-zeros S u n w t)
vanish-zeros S u n (true ∷ w) t = absurd (n t.0)
