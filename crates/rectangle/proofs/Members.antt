-- Membership in numbers counted upward and in two lists one after the other, and images of numbers counted upward.
use mathlib.Core.Path.{◌≡◌, refl, sym, ap, ap₂, ◌∙◌, subst}
use mathlib.Core.Logic.{◌⊎◌, inl, inr}
use mathlib.Core.List.{List, [], ◌∷◌, ◌++◌, map}
use Prim.Native.Nat.{ℕ, zero, suc, ◌+◌, ◌≤◌, ◌<◌}
use native.Mathlib.Nat.{suc-add, add-suc, le_of_suc-le-suc, not-suc-le-zero}
use native.Mathlib.Omega.{arith}
use lib.ListN.{get_or}
use Rattle.linecode.specs.Code.{up_from}
pub use Rattle.register.proofs.TableRule.{length-up_from}
use Rattle.scheme.specs.Demand3.{◌∈◌}

-- ---- k numbers from n upward
pub in-up_from : (n k i : ℕ) → i < k → (n + i) ∈ up_from n k
in-up_from n zero i h = absurd (not-suc-le-zero h)
in-up_from n (suc k) zero h = inl (omega arith)
in-up_from n (suc k) (suc i) h = inr (subst (λ (m : ℕ). m ∈ up_from (suc n) k) (suc-add n i ∙ sym (add-suc n i)) (in-up_from (suc n) k i (le_of_suc-le-suc h)))

pub up_from-bounds : (n k m : ℕ) → m ∈ up_from n k → (n ≤ m) × (m < n + k)
up_from-bounds n zero m i = absurd i
up_from-bounds n (suc k) m (inl e) = (omega arith, omega arith)
up_from-bounds n (suc k) m (inr i) = let h = up_from-bounds (suc n) k m i in (omega arith, omega arith)

pub map-up_from : {A : Type 0} (f : ℕ → A) (n k i : ℕ) (d : A) → i < k → get_or (map f (up_from n k)) i d ≡ f (n + i)
map-up_from f n zero i d h = absurd (not-suc-le-zero h)
map-up_from f n (suc k) zero d h = ap f (omega arith)
map-up_from f n (suc k) (suc i) d h = map-up_from f (suc n) k i d (le_of_suc-le-suc h) ∙ ap f (suc-add n i ∙ sym (add-suc n i))

-- ---- the images of numbers counted upward
map_same : {A : Type 0} (f g : ℕ → A) (ns : List ℕ) → ((n : ℕ) → n ∈ ns → f n ≡ g n) → map f ns ≡ map g ns
map_same f g [] h = refl
map_same f g (n ∷ ns) h = ap₂ (λ a l. a ∷ l) (h n (inl refl)) (map_same f g ns (λ m i. h m (inr i)))

pub map_below : {A : Type 0} (f g : ℕ → A) (k : ℕ) → ((n : ℕ) → n < k → f n ≡ g n) → map f (up_from 0 k) ≡ map g (up_from 0 k)
map_below f g k h = map_same f g (up_from 0 k) (λ n i. h n (omega (arith, (up_from-bounds 0 k n i).1)))

pub up_from-split : (i m n : ℕ) → up_from i (m + n) ≡ up_from i m ++ up_from (i + m) n
up_from-split i zero n = ap₂ up_from (first i) (none n)
  where
    first : (i : ℕ) → i ≡ i + 0
    first i = omega arith

    none : (n : ℕ) → 0 + n ≡ n
    none n = omega arith
up_from-split i (suc m) n =
    ap (up_from i) (more m n)
    ∙ ap (λ (l : List ℕ). i ∷ l) (up_from-split (suc i) m n ∙ ap (λ (j : ℕ). up_from (suc i) m ++ up_from j n) (shift i m))
  where
    more : (m n : ℕ) → suc m + n ≡ suc (m + n)
    more m n = omega arith

    shift : (i m : ℕ) → suc i + m ≡ i + suc m
    shift i m = omega arith

pub map-shift : {A : Type 0} (f : ℕ → A) (i n : ℕ) → map f (up_from i n) ≡ map (λ (k : ℕ). f (i + k)) (up_from 0 n)
map-shift {A} f i n = from i 0 n (λ (k : ℕ). ap f (none i k))
  where
    none : (i k : ℕ) → i + k ≡ i + (0 + k)
    none i k = omega arith

    from : (a b n : ℕ) → ((k : ℕ) → f (a + k) ≡ f (i + (b + k))) → map f (up_from a n) ≡ map (λ (k : ℕ). f (i + k)) (up_from b n)
    from a b zero h = refl
    from a b (suc n) h =
        ap₂ (λ (x : A) (l : List A). x ∷ l) (ap f (nought a) ∙ h 0 ∙ ap (λ (k : ℕ). f (i + k)) (sym (nought b)))
        (from (suc a) (suc b) n (λ k. ap f (next a k) ∙ h (suc k) ∙ ap (λ (j : ℕ). f (i + j)) (sym (next b k))))
      where
        nought : (a : ℕ) → a ≡ a + 0
        nought a = omega arith

        next : (a k : ℕ) → suc a + k ≡ a + suc k
        next a k = omega arith

-- ---- membership in two lists
pub in_left : {A : Type 0} (k l : List A) (a : A) → a ∈ k → a ∈ (k ++ l)
in_left [] l a i = absurd i
in_left (b ∷ k) l a (inl e) = inl e
in_left (b ∷ k) l a (inr i) = inr (in_left k l a i)

pub in_right : {A : Type 0} (k l : List A) (a : A) → a ∈ l → a ∈ (k ++ l)
in_right [] l a i = i
in_right (b ∷ k) l a i = inr (in_right k l a i)

pub append-from : {A : Type 0} (k l : List A) (a : A) → a ∈ (k ++ l) → (a ∈ k) ⊎ (a ∈ l)
append-from [] l a i = inr i
append-from (b ∷ k) l a (inl e) = inl (inl e)
append-from (b ∷ k) l a (inr i) = go (append-from k l a i)
  where
    go : (a ∈ k) ⊎ (a ∈ l) → (a ∈ (b ∷ k)) ⊎ (a ∈ l)
    go (inl j) = inl (inr j)
    go (inr j) = inr j
