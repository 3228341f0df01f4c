-- What a test selects, images of lists, and rising lists.
use mathlib.Core.Path.{◌≡◌, refl, sym, ap, ◌∙◌}
use mathlib.Core.Logic.{inl, inr}
use mathlib.Core.Bool.{Bool, true, false, cond}
use mathlib.Core.List.{List, [], ◌∷◌, map}
use Prim.Native.Nat.{ℕ, zero, suc, ◌≤◌, ◌<◌}
use native.Mathlib.Omega.{arith}
use lib.ListN.{length, set}
use Rattle.scheme.specs.Visit.{select}
use Rattle.scheme.specs.Demand3.{◌∈◌, Rising}

-- a list with a member is not empty
pub some-there : (n : ℕ) (l : List ℕ) → n ∈ l → 0 < length l
some-there n [] i = absurd i
some-there n (m ∷ l) i = omega arith

module _ {A : Type 0} (test : A → Bool) where
  -- what is selected was there and passes the test
  pub selected : (l : List A) (a : A) → a ∈ select test l → (a ∈ l) × (test a ≡ true)
  selected [] a h = absurd h
  selected (b ∷ l) a h = go (test b) refl h (selected l a)
    where
      go : (t : Bool) → test b ≡ t → a ∈ cond t (b ∷ select test l) (select test l)
          → (a ∈ select test l → (a ∈ l) × (test a ≡ true)) → (a ∈ (b ∷ l)) × (test a ≡ true)
      go true e (inl p) rest = (inl p, ap test p ∙ e)
      go true e (inr q) rest = (inr (rest q).0, (rest q).1)
      go false e q rest = (inr (rest q).0, (rest q).1)

  -- what was there and passes the test is selected
  pub selects : (l : List A) (a : A) → a ∈ l → test a ≡ true → a ∈ select test l
  selects [] a h e = absurd h
  selects (b ∷ l) a (inl p) e = rw (sym (ap test p) ∙ e) (inl p)
  selects (b ∷ l) a (inr q) e = go (test b) (selects l a q e)
    where
      go : (t : Bool) → a ∈ select test l → a ∈ cond t (b ∷ select test l) (select test l)
      go true r = inr r
      go false r = r

-- two tests that agree on all of a list
pub select-ext : (f g : ℕ → Bool) (ns : List ℕ) → ((n : ℕ) → n ∈ ns → f n ≡ g n) → select f ns ≡ select g ns
select-ext f g [] h = refl
select-ext f g (n ∷ ns) h = rw (h n (inl refl), select-ext f g ns (λ m i. h m (inr i)))

-- no more are selected than there are
pub select-few : {A : Type 0} (test : A → Bool) (l : List A) → length (select test l) ≤ length l
select-few test [] = omega arith
select-few test (a ∷ l) = go (test a) (select-few test l)
  where
    go : (b : Bool) → length (select test l) ≤ length l → length (cond b (a ∷ select test l) (select test l)) ≤ suc (length l)
    go true h = omega arith
    go false h = omega arith

-- counting those of an image that pass a test
pub count_map : {A B : Type 0} (f : A → B) (test : B → Bool) (l : List A)
    → length (select test (map f l)) ≡ length (select (λ a. test (f a)) l)
count_map f test [] = refl
count_map {A} {B} f test (a ∷ l) = go (test (f a)) (count_map f test l)
  where
    go : (b : Bool) → length (select test (map f l)) ≡ length (select (λ a. test (f a)) l)
        → length (cond b (f a ∷ select test (map f l)) (select test (map f l)))
        ≡ length (cond b (a ∷ select (λ a. test (f a)) l) (select (λ a. test (f a)) l))
    go true e = ap suc e
    go false e = e

-- the image of a list with one entry put in another's place
pub map-set : {A B : Type 0} (f : A → B) (l : List A) (n : ℕ) (a : A) → map f (set l n a) ≡ set (map f l) n (f a)
map-set f [] n a = refl
map-set f (b ∷ l) zero a = refl
map-set {A} {B} f (b ∷ l) (suc n) a = ap (λ (k : List B). f b ∷ k) (map-set f l n a)

module _ {A B : Type 0} (f : A → B) where
  pub in_map : (l : List A) (a : A) → a ∈ l → f a ∈ map f l
  in_map [] a i = absurd i
  in_map (b ∷ l) a (inl e) = inl (ap f e)
  in_map (b ∷ l) a (inr i) = inr (in_map l a i)

  pub map-from : (l : List A) (b : B) → b ∈ map f l → (a : A) × (a ∈ l) × (b ≡ f a)
  map-from [] b i = absurd i
  map-from (a ∷ l) b (inl e) = (a, inl refl, e)
  map-from (a ∷ l) b (inr i) = let r = map-from l b i in (r.0, inr r.1, r.2)

pub rising-select : (test : ℕ → Bool) (ns : List ℕ) → Rising ns → Rising (select test ns)
rising-select test [] r = tt
rising-select test (n ∷ ns) r = go (test n) (rising-select test ns r.1)
  where
    go : (t : Bool) → Rising (select test ns) → Rising (cond t (n ∷ select test ns) (select test ns))
    go true q = (λ m i. r.0 m (selected test ns m i).0, q)
    go false q = q

-- a rising list whose every number is n
pub only_one : (n : ℕ) (ns : List ℕ) → Rising ns → n ∈ ns → ((m : ℕ) → m ∈ ns → m ≡ n) → ns ≡ n ∷ []
only_one n [] r h all = absurd h
only_one n (k ∷ []) r h all = rw (all k (inl refl))
only_one n (k ∷ j ∷ ns) r h all =
    let z : ⊥ = omega (arith, r.0 j (inl refl), all k (inl refl), all j (inr (inl refl))) in absurd z

-- two different members
pub at-least-two : (n m : ℕ) (ns : List ℕ) → n ∈ ns → m ∈ ns → (n ≡ m → ⊥) → 2 ≤ length ns
at-least-two n m [] h i d = absurd h
at-least-two n m (k ∷ []) (inl p) (inl q) d = absurd (d (p ∙ sym q))
at-least-two n m (k ∷ []) (inl p) (inr q) d = absurd q
at-least-two n m (k ∷ []) (inr p) i d = absurd p
at-least-two n m (k ∷ j ∷ ns) h i d = omega arith
