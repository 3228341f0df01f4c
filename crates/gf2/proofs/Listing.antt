-- Lists of vectors, and tests on them that are computed: equality, absence, and that a list has every vector.
use mathlib.Core.Path.{◌≡◌, refl, sym, ap₂}
use mathlib.Core.Bool.{Bool, true, false, not, ◌&&◌}
use mathlib.Core.List.{List, [], ◌∷◌}
use mathlib.Core.Logic.{◌⊎◌, inl, inr}
use Prim.Native.Nat.{ℕ, zero, suc}
use lib.Dec.{T}
use Rattle.gf2.specs.Word.{◌⊻◌}
use Rattle.gf2.proofs.Xor.{bit-equal, bit-self}
use Rattle.gf2.proofs.Vector.{Vector, join}

pub and_left : (a b : Bool) → T (a && b) → T a
and_left true b t = tt
and_left false b t = t

pub and_right : (a b : Bool) → T (a && b) → T b
and_right true b t = t
and_right false b t = absurd t

abbrev pub Member : {A : Type 0} → A → List A → Type 0
Member x [] = ⊥
Member x (y ∷ l) = (x ≡ y) ⊎ Member x l

-- the vectors are equal
abbrev pub same : (n : ℕ) → Vector n → Vector n → Bool
same zero x y = true
same (suc n) x y = not (x.0 ⊻ y.0) && same n x.1 y.1

pub same-equal : (n : ℕ) (x y : Vector n) → T (same n x y) → x ≡ y
same-equal zero x y t = refl
same-equal (suc n) x y t =
    ap₂ (join n) (bit-equal x.0 y.0 (unset (x.0 ⊻ y.0) (and_left (not (x.0 ⊻ y.0)) (same n x.1 y.1) t)))
    (same-equal n x.1 y.1 (and_right (not (x.0 ⊻ y.0)) (same n x.1 y.1) t))
  where
    unset : (b : Bool) → T (not b) → b ≡ false
    unset false t = refl
    unset true t = absurd t

same_self : (n : ℕ) (x : Vector n) → same n x x ≡ true
same_self zero x = refl
same_self (suc n) x = ap₂ (λ (a b : Bool). not a && b) (bit-self x.0) (same_self n x.1)

-- x is not in the list
abbrev pub absent : (n : ℕ) → Vector n → List (Vector n) → Bool
absent n x [] = true
absent n x (y ∷ l) = not (same n x y) && absent n x l

pub absent-not : (n : ℕ) (x : Vector n) (l : List (Vector n)) → T (absent n x l) → Member x l → ⊥
absent-not n x [] t m = m
absent-not n x (y ∷ l) t (inl e) =
    rw (← e, same_self n x) at (and_left (not (same n x y)) (absent n x l) t)
absent-not n x (y ∷ l) t (inr m) = absent-not n x l (and_right (not (same n x y)) (absent n x l) t) m

abbrev keep : {A : Type 0} → Bool → A → List A → List A
keep false x l = x ∷ l
keep true x l = l

-- the rests of the vectors that begin with b
abbrev rests : (n : ℕ) → Bool → List (Vector (suc n)) → List (Vector n)
rests n b [] = []
rests n b (x ∷ l) = keep (x.0 ⊻ b) x.1 (rests n b l)

member-rests : (n : ℕ) (b : Bool) (x : Vector n) (l : List (Vector (suc n))) → Member x (rests n b l) → Member (join n b x) l
member-rests n b x [] m = m
member-rests n b x (y ∷ l) m = go (y.0 ⊻ b) refl m (member-rests n b x l)
  where
    go : (c : Bool) → y.0 ⊻ b ≡ c → Member x (keep c y.1 (rests n b l)) → (Member x (rests n b l) → Member (join n b x) l)
        → Member (join n b x) (y ∷ l)
    go false e (inl p) h = inl (ap₂ (join n) (sym (bit-equal y.0 b e)) p)
    go false e (inr m) h = inr (h m)
    go true e m h = inr (h m)

-- every vector is in the list
abbrev pub covers : (n : ℕ) → List (Vector n) → Bool
covers zero [] = false
covers zero (x ∷ l) = true
covers (suc n) l = covers n (rests n false l) && covers n (rests n true l)

pub covers-all : (n : ℕ) (l : List (Vector n)) → T (covers n l) → (x : Vector n) → Member x l
covers-all zero [] t x = t
covers-all zero (y ∷ l) t x = inl refl
covers-all (suc n) l t x =
    go x.0 (covers-all n (rests n false l) (and_left (covers n (rests n false l)) (covers n (rests n true l)) t) x.1)
    (covers-all n (rests n true l) (and_right (covers n (rests n false l)) (covers n (rests n true l)) t) x.1)
  where
    go : (b : Bool) → Member x.1 (rests n false l) → Member x.1 (rests n true l) → Member (join n b x.1) l
    go false m k = member-rests n false x.1 l m
    go true m k = member-rests n true x.1 l k
