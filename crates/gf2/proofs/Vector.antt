-- Vectors of n bits, which compute fast, and the multiplication by a root of a polynomial of degree n.
use mathlib.Core.Path.{◌≡◌, refl, ap, ap₂, ◌∙◌}
use mathlib.Core.Bool.{Bool, false}
use Prim.Native.Nat.{ℕ, zero, suc}
use Rattle.gf2.specs.Word.{◌⊻◌}
use Rattle.gf2.proofs.Xor.{bit-comm, bit-assoc, bit-self}
use Rattle.gf2.proofs.Space.{Space, Additive, times, times-xor, swap}

abbrev pub Vector : ℕ → Type 0
Vector zero = Unit
Vector (suc n) = Bool × Vector n

abbrev pub join : (n : ℕ) → Bool → Vector n → Vector (suc n)
join n a x = (a, x)

abbrev pub zero_vector : (n : ℕ) → Vector n
zero_vector zero = tt
zero_vector (suc n) = (false, zero_vector n)

abbrev pub add : (n : ℕ) → Vector n → Vector n → Vector n
add zero x y = tt
add (suc n) x y = (x.0 ⊻ y.0, add n x.1 y.1)

pub add_comm : (n : ℕ) (x y : Vector n) → add n x y ≡ add n y x
add_comm zero x y = refl
add_comm (suc n) x y = ap₂ (join n) (bit-comm x.0 y.0) (add_comm n x.1 y.1)

pub add_assoc : (n : ℕ) (x y z : Vector n) → add n (add n x y) z ≡ add n x (add n y z)
add_assoc zero x y z = refl
add_assoc (suc n) x y z = ap₂ (join n) (bit-assoc x.0 y.0 z.0) (add_assoc n x.1 y.1 z.1)

pub add-zero : (n : ℕ) (x : Vector n) → add n x (zero_vector n) ≡ x
add-zero zero x = refl
add-zero (suc n) x = ap (join n x.0) (add-zero n x.1)

pub add-self : (n : ℕ) (x : Vector n) → add n x x ≡ zero_vector n
add-self zero x = refl
add-self (suc n) x = ap₂ (join n) (bit-self x.0) (add-self n x.1)

abbrev pub vectors : ℕ → Space
vectors n = record {
  carrier = Vector n;
  origin = zero_vector n;
  sum = add n;
  comm = add_comm n;
  assoc = add_assoc n;
  unit = add-zero n;
  self = add-self n;
}

-- the vector followed by 0
abbrev shift : (n : ℕ) → Vector n → Vector (suc n)
shift zero x = (false, tt)
shift (suc n) x = (x.0, shift n x.1)

shift-add : (n : ℕ) (x y : Vector n) → shift n (add n x y) ≡ add (suc n) (shift n x) (shift n y)
shift-add zero x y = refl
shift-add (suc n) x y = ap (join (suc n) (x.0 ⊻ y.0)) (shift-add n x.1 y.1)

-- a vector times the root, where the root's power suc n is the vector g; highest coefficient first
abbrev pub multiply : (n : ℕ) → Vector (suc n) → Vector (suc n) → Vector (suc n)
multiply n g x = add (suc n) (shift n x.1) (times (vectors (suc n)) x.0 g)

pub multiply-additive : (n : ℕ) (g : Vector (suc n)) → Additive (vectors (suc n)) (multiply n g)
multiply-additive n g x y =
    ap₂ (add (suc n)) (shift-add n x.1 y.1) (times-xor S x.0 y.0 g)
    ∙ swap S (shift n x.1) (shift n y.1) (times S x.0 g) (times S y.0 g)
  where
    S : Space
    S = vectors (suc n)
