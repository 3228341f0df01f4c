-- Counting a group's faulty lines.
use mathlib.Core.Path.{◌≡◌, ap, ◌∙◌}
use mathlib.Core.List.{List}
use Prim.Native.Nat.{ℕ, ◌+◌, ◌*◌, ◌≤◌, ◌<◌}
use native.Mathlib.Omega.{arith}
use lib.ListN.{length, get_or}
use Rattle.rectangle.specs.Store.{stride}
use Rattle.groups.specs.Lent.{faulty_among}
use Rattle.groups.proofs.Walk.{left, left_all, left-next, left_end, among-faulty, among-other}

-- of the first i lines so many are faulty
pub record Counting (marks : List ℕ) (first step count found i : ℕ) : Type 0 where
  pub some : found ≤ i
  pub total : length (faulty_among marks (stride first step count)) ≡ found + length (faulty_among marks (left first step count i))

pub counting-start : (marks : List ℕ) (first step count : ℕ) → Counting marks first step count 0 0
counting-start marks first step count =
    record { some = omega arith; total = ap (λ (l : List ℕ). length (faulty_among marks l)) (left_all first step count) ∙ omega arith }

module _ (marks : List ℕ) (first step count found i : ℕ) (c : Counting marks first step count found i) where
  module _ (more : i < count) (n : ℕ) (n-is : n ≡ first + i * step) (f : ℕ) where
    pub counting-faulty : get_or marks n 0 ≡ 4 → f ≡ found + 1 → Counting marks first step count f (i + 1)
    counting-faulty e q =
        record {
          some = omega (arith, c.some);
          total =
              omega (
                arith,
                c.total,
                ap length (ap (faulty_among marks) (left-next first step count i n n-is more) ∙ among-faulty marks n (left first step count (i + 1)) e),
              );
        }

    pub counting-other : (get_or marks n 0 ≡ 4 → ⊥) → f ≡ found → Counting marks first step count f (i + 1)
    counting-other e q =
        record {
          some = omega (arith, c.some);
          total =
              omega (
                arith,
                c.total,
                ap length (ap (faulty_among marks) (left-next first step count i n n-is more) ∙ among-other marks n (left first step count (i + 1)) e),
              );
        }

  pub counting-end : count ≤ i → found ≡ length (faulty_among marks (stride first step count))
  unfolding faulty_among
  counting-end h = omega (arith, c.total, ap (λ (l : List ℕ). length (faulty_among marks l)) (left_end first step count i h))
