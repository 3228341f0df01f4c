-- Answer 11 and mark 4: each is given exactly where the other is.
use mathlib.Core.Path.{◌≡◌, refl}
use mathlib.Core.Bool.{Bool, true, false, cond}
use mathlib.Core.List.{[], ◌∷◌}
use Prim.Native.Nat.{ℕ, zero, suc, ◌<◌}
use native.Mathlib.Omega.{arith}
use borrow.Author.Tests.{eqb-true, eqb-false}
use lib.ListN.{length, get_or}
use Rattle.scheme.specs.Visit.{State, is_faulty, select}
use Rattle.scheme.specs.Repair.{faulty_count, marks_of}
use Rattle.rectangle.specs.Repair.{handed_over}
use Rattle.rectangle.proofs.Runs.{marks-handed}
use Rattle.demands.specs.Demands.{count, groups_of, steps_on, ElevenIsLeft}
use Rattle.demands.proofs.Refused.{answer-left, answer-none, handed}

some-faulty : (s : State) → (faulty_count s ≡ 0 → ⊥) → (n : ℕ) × (n < length (marks_of s)) × (get_or (marks_of s) n 0 ≡ 4)
some-faulty [] d = absurd (d refl)
some-faulty (c ∷ s) d = go (is_faulty c) refl d (some-faulty s)
  where
    go : (b : Bool) → is_faulty c ≡ b → (length (cond b (c ∷ select is_faulty s) (select is_faulty s)) ≡ 0 → ⊥)
        → ((faulty_count s ≡ 0 → ⊥) → (n : ℕ) × (n < length (marks_of s)) × (get_or (marks_of s) n 0 ≡ 4))
        → (n : ℕ) × (n < length (marks_of (c ∷ s))) × (get_or (marks_of (c ∷ s)) n 0 ≡ 4)
    go true e some later = (zero, omega arith, eqb-true _ 4 e)
    go false e some later = let rest = later some in (suc rest.0, omega (arith, rest.1), rest.2)

none-faulty : (s : State) → faulty_count s ≡ 0 → (n : ℕ) → get_or (marks_of s) n 0 ≡ 4 → ⊥
none-faulty [] z n e = omega arith
none-faulty (c ∷ s) z n e = go (is_faulty c) refl z (none-faulty s) n e
  where
    go : (b : Bool) → is_faulty c ≡ b → length (cond b (c ∷ select is_faulty s) (select is_faulty s)) ≡ 0
        → (faulty_count s ≡ 0 → (n : ℕ) → get_or (marks_of s) n 0 ≡ 4 → ⊥) → (n : ℕ) → get_or (marks_of (c ∷ s)) n 0 ≡ 4 → ⊥
    go true f y later n m = omega arith
    go false f y later zero m = eqb-false _ 4 f m
    go false f y later (suc n) m = later y n m

pub eleven_is_left : ElevenIsLeft
unfolding handed_over
eleven_is_left r b h =
    rw (handed r b h)
    (record {
      some = λ e. let found = some-faulty (steps_on r).cells (answer-left (groups_of r) _ e) in (found.0, omega (arith, found.1, lines), found.2);
      none = λ d. none-faulty (steps_on r).cells (answer-none (groups_of r) _ d);
    })
  where
    lines : length (marks_of (steps_on r).cells) ≡ count r
    lines = (marks-handed r.rows r.columns r.lines r.row_table r.column_table).each
