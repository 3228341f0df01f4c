-- The distance of the code: a divisible word of at most 1023 places with at most seven set has none set.
use mathlib.Core.Path.{◌≡◌, ap, ◌∙◌}
use Prim.Native.Nat.{ℕ, ◌*◌, ◌<◌}
use native.Mathlib.Omega.{arith}
use lib.Dec.{lit<}
use lib.ListN.{length}
use Rattle.gf2.specs.Word.{◌⊕◌, zeros, weight}
use Rattle.gf2.specs.Generator.{generator}
use Rattle.gf2.specs.Distance.{DistanceEight, DivisibleEqual}
use Rattle.gf2.proofs.Xor.{length-xor-same, xor-equal}
use Rattle.gf2.proofs.Linear.{divisible-xor}
use Rattle.gf2.proofs.Evaluation.{value-divisible}
use Rattle.gf2.proofs.Iterate.{iterate}
use Rattle.gf2.proofs.Vandermonde.{vandermonde, vanish-zeros}
use Rattle.gf2.proofs.Root.{field, unity, unity-nonzero, root, root-additive, root-separate, generator_recurs}

generator-positive : 0 < length generator
unfolding generator
generator-positive = lit< tt

pub distance-eight : DistanceEight
distance-eight w h t k =
    vanish-zeros field unity unity-nonzero w
    (vandermonde field root root-additive 1023 root-separate w (λ e. unity) h
    (λ (j : ℕ) (i : j < weight w).
    value-divisible field generator (λ e. iterate root (j * e) unity) (generator_recurs j (omega arith)) generator-positive w t))

-- two divisible words of one length that differ at no more than seven places are equal
pub divisible-equal : DivisibleEqual
divisible-equal x y e h s t d =
    let n : length (x ⊕ y) ≡ length x = length-xor-same x y e in
    xor-equal x y e (distance-eight (x ⊕ y) (omega arith) (divisible-xor generator x y e s t) d ∙ ap zeros n)
