-- Groups in which each element is its own inverse, a bit times an element, and maps that keep sums.
use mathlib.Core.Path.{◌≡◌, refl, sym, ap, ◌∙◌}
use mathlib.Core.Bool.{Bool, true, false}
use Rattle.gf2.specs.Word.{◌⊻◌}

pub record Space : Type 1 where
  pub carrier : Type 0
  pub origin : carrier
  pub sum : carrier → carrier → carrier
  pub comm : (x y : carrier) → sum x y ≡ sum y x
  pub assoc : (x y z : carrier) → sum (sum x y) z ≡ sum x (sum y z)
  pub unit : (x : carrier) → sum x origin ≡ x
  pub self : (x : carrier) → sum x x ≡ origin

module _ (S : Space) where
  open S use {carrier as C, origin as o, sum as ◌⊞◌, comm, assoc, unit, self}

  infixl 60 ◌⊞◌
  pub unit_left : (x : C) → o ⊞ x ≡ x
  unit_left x = comm o x ∙ unit x

  -- (x + y) + (z + w) is (x + z) + (y + w)
  pub swap : (x y z w : C) → x ⊞ y ⊞ (z ⊞ w) ≡ x ⊞ z ⊞ (y ⊞ w)
  swap x y z w =
      assoc x y (z ⊞ w) ∙ ap (λ (u : C). x ⊞ u) (sym (assoc y z w) ∙ ap (λ (u : C). u ⊞ w) (comm y z) ∙ assoc z y w)
      ∙ sym (assoc x z (y ⊞ w))

  -- two elements whose sum is the origin are equal
  pub equal : (x y : C) → x ⊞ y ≡ o → x ≡ y
  equal x y e =
      sym (unit x) ∙ ap (λ (u : C). x ⊞ u) (sym (self y)) ∙ sym (assoc x y y) ∙ ap (λ (u : C). u ⊞ y) e ∙ unit_left y

  -- a bit times an element
  abbrev pub times : Bool → C → C
  times false x = o
  times true x = x

  pub times-xor : (a b : Bool) (x : C) → times (a ⊻ b) x ≡ times a x ⊞ times b x
  times-xor a false x = sym (unit (times a x))
  times-xor false true x = sym (unit_left x)
  times-xor true true x = sym (self x)

  pub times-origin : (a : Bool) → times a o ≡ o
  times-origin false = refl
  times-origin true = refl

  pub times-sum : (a : Bool) (x y : C) → times a (x ⊞ y) ≡ times a x ⊞ times a y
  times-sum false x y = sym (unit o)
  times-sum true x y = refl

  -- a map that keeps sums
  abbrev pub Additive : (C → C) → Type 0
  Additive A = (x y : C) → A (x ⊞ y) ≡ A x ⊞ A y

  module _ (A : C → C) (additive : Additive A) where
    pub map-origin : A o ≡ o
    map-origin = ap A (sym (unit o)) ∙ additive o o ∙ self (A o)

    pub map-times : (a : Bool) (x : C) → A (times a x) ≡ times a (A x)
    map-times false x = map-origin
    map-times true x = refl
