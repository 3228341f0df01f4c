-- A root of x^10+x^3+1: its order is 1023, its powers are all vectors but the origin, and its powers 0 to 6 are roots of the
-- generator. Each is one computed test.
use mathlib.Core.Path.{◌≡◌, sym, ap, subst}
use mathlib.Core.Bool.{Bool, true, false, ◌&&◌, true≢false}
use mathlib.Core.List.{◌∷◌}
use mathlib.Core.Logic.{◌⊎◌, inl, inr}
use Prim.Native.Nat.{ℕ, zero, suc, ◌*◌, ◌<◌}
use native.Mathlib.Nat.{not-suc-le-zero, le-suc_iff, suc_inj}
use lib.Dec.{T}
use lib.ListN.{length}
use Rattle.gf2.specs.Generator.{generator}
use Rattle.gf2.proofs.Space.{Space, Additive}
use Rattle.gf2.proofs.Evaluation.{Recurs}
use Rattle.gf2.proofs.Iterate.{iterate}
use Rattle.gf2.proofs.Orbit.{separate}
use Rattle.gf2.proofs.Vandermonde.{Separate, moment, moment_recurs}
use Rattle.gf2.proofs.Vector.{Vector, vectors, multiply, multiply-additive}
use Rattle.gf2.proofs.Listing.{and_left, and_right, same, same-equal, absent, covers}
use Rattle.gf2.proofs.Trail.{trail, absent-order, covers_orbit}

abbrev pub Element : Type 0
Element = Vector 10

abbrev pub field : Space
field = vectors 10

abbrev pub unity : Element
unity = (false, (false, (false, (false, (false, (false, (false, (false, (false, (true, tt))))))))))

-- the root's tenth power, x^3+1
abbrev tenth : Element
tenth = (false, (false, (false, (false, (false, (false, (true, (false, (false, (true, tt))))))))))

-- a vector times the root
unfoldable pub root : Element → Element
root = multiply 9 tenth

pub root-additive : Additive field root
unfolding root
root-additive = multiply-additive 9 tenth

covers-test : T (covers 10 (field.origin ∷ trail root 1023 unity))
unfolding root
covers-test = tt

absent-test : T (absent 10 unity (trail root 1022 (root unity)))
unfolding root
absent-test = tt

period-test : T (same 10 (iterate root 1023 unity) unity)
unfolding root iterate
period-test = tt

pub root-separate : Separate field root 1023
root-separate =
    separate field root unity 1023 (same-equal 10 (iterate root 1023 unity) unity period-test)
    (absent-order 10 root unity 1022 absent-test) (covers_orbit 10 root unity 1023 field.origin covers-test)

-- the power j of the root is a root of the generator
abbrev root_at : ℕ → Bool
root_at j = same 10 (iterate root (j * length generator) unity) (moment field root (λ e. unity) j generator)

abbrev roots_below : ℕ → Bool
roots_below zero = true
roots_below (suc j) = root_at j && roots_below j

roots-test : T (roots_below 7)
unfolding root iterate generator
roots-test = tt

roots_below-at : (n : ℕ) → T (roots_below n) → (j : ℕ) → j < n → T (root_at j)
roots_below-at zero t j h = absurd (not-suc-le-zero h)
roots_below-at (suc n) t j h = go (le-suc_iff.0 h) (roots_below-at n (and_right (root_at n) (roots_below n) t) j)
  where
    go : (j < n) ⊎ (suc j ≡ suc n) → (j < n → T (root_at j)) → T (root_at j)
    go (inl i) f = f i
    go (inr e) f = subst (λ (m : ℕ). T (root_at m)) (sym (suc_inj e)) (and_left (root_at n) (roots_below n) t)

pub generator_recurs : (j : ℕ) → j < 7 → Recurs field generator (λ e. iterate root (j * e) unity)
generator_recurs j h =
    moment_recurs field root root-additive unity j generator
    (same-equal 10 (iterate root (j * length generator) unity) (moment field root (λ e. unity) j generator)
    (roots_below-at 7 roots-test j h))

pub unity-nonzero : unity ≡ field.origin → ⊥
unity-nonzero e = true≢false (ap (same 10 unity) e)
