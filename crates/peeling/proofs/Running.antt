-- Passes while some line is faulty, on marks and counts.
use mathlib.Core.Path.{◌≡◌, refl, sym, ap, ◌∙◌}
use mathlib.Core.List.{List, [], ◌∷◌, map}
use Prim.Native.Nat.{ℕ, ◌+◌, ◌*◌, ◌≤◌, ◌<◌}
use native.Mathlib.Omega.{arith}
use lib.ListN.{length, length-map}
use Rattle.scheme.specs.Layer.{Cell}
use Rattle.scheme.specs.Visit.{State, is_faulty}
use Rattle.scheme.specs.Repair.{faulty_count, pass, marks_of}
use Rattle.scheme.specs.Forecast.{never}
use Rattle.scheme.proofs.Lists.{select-few}
use Rattle.scheme.proofs.Running.{Reached, reached-start, reached-end, reached-idle, reached-less, reached-next}
use Rattle.groups.specs.Lent.{count_to, members_of}
use Rattle.groups.proofs.Counts.{rows-together}
use Rattle.forecast.specs.Forecast.{bare_groups}
use Rattle.peeling.specs.Lent.{Counted, Passes, RanPasses}
use Rattle.peeling.proofs.Visiting.{by-marks}

-- a store that has given marks
some-store : List ℕ → State
some-store marks = map (λ mark. record { line = []; mark = mark }) marks

has-marks : (marks : List ℕ) → marks ≡ marks_of (some-store marks)
unfolding some-store
has-marks [] = refl
has-marks (m ∷ marks) = ap (λ (l : List ℕ). m ∷ l) (has-marks marks)

-- the counts of the rows together are the faulty lines of a store with these marks
module _ (rows columns : ℕ) (marks faulty : List ℕ) (counted : Counted rows columns marks faulty) (s : State) (e : marks ≡ marks_of s) where
  size : length s ≡ rows * columns
  size = sym (length-map s (λ (c : Cell). c.mark)) ∙ ap length (sym e) ∙ counted.mark_bytes

  together : count_to faulty rows ≡ faulty_count s
  together =
      rows-together rows columns faulty s
      (λ r h. counted.each r (omega arith) ∙ ap length (sym (by-marks marks s e (members_of rows columns r)))) size

-- ---- the loop: so many passes are made, and so many lines are faulty
pub record Running (rows columns : ℕ) (marks₀ marks faulty : List ℕ) (passes before : ℕ) : Type 0 where
  pub counted : Counted rows columns marks faulty
  pub bound : passes + before ≤ rows * columns
  pub store : (s : State) → marks₀ ≡ marks_of s
      → (t : State) × (marks ≡ marks_of t) × Reached never (bare_groups rows columns) s t passes before

pub running-start : (rows columns : ℕ) (marks faulty : List ℕ) (f : ℕ) → Counted rows columns marks faulty → f ≡ count_to faulty rows
    → Running rows columns marks marks faulty 0 f
running-start rows columns marks faulty f counted q =
    record {
      counted = counted;
      bound =
          omega (
            arith,
            together rows columns marks faulty counted (some-store marks) (has-marks marks),
            size rows columns marks faulty counted (some-store marks) (has-marks marks),
            select-few is_faulty (some-store marks),
          );
      store = λ s e. (s, e, reached-start never (bare_groups rows columns) s f (q ∙ together rows columns marks faulty counted s e));
    }

module _ (rows columns : ℕ) (marks₀ marks faulty : List ℕ) (passes before : ℕ)
    (r : Running rows columns marks₀ marks faulty passes before) where
  -- none is faulty
  pub running-end : before ≤ 0 → RanPasses rows columns marks₀ marks passes
  running-end z =
      record {
        cells = λ s e. let p = r.store s e in p.1 ∙ ap marks_of (sym (reached-end _ _ s p.0 passes before p.2 z).0);
        number = λ s e. let p = r.store s e in sym (reached-end _ _ s p.0 passes before p.2 z).1;
      }

  module _ (some : 0 < before) (marks' faulty' : List ℕ) (made : Passes rows columns marks marks')
      (counted : Counted rows columns marks' faulty') (left : ℕ) (left_is : left ≡ count_to faulty' rows) where
    left-count : (t : State) → marks ≡ marks_of t → left ≡ faulty_count (pass never (bare_groups rows columns) t)
    left-count t e = left_is ∙ together rows columns marks' faulty' counted (pass never (bare_groups rows columns) t) (made t e)

    -- the pass rebuilt nothing
    pub running_idle : left ≡ before → RanPasses rows columns marks₀ marks' (passes + 1)
    running_idle f =
        record {
          cells = λ s e.
              let p = r.store s e in
              made p.0 p.1 ∙ ap marks_of (sym (reached-idle _ _ s p.0 passes before p.2 some left (left-count p.0 p.1) f).0);
          number = λ s e.
              let p = r.store s e in sym (reached-idle _ _ s p.0 passes before p.2 some left (left-count p.0 p.1) f).1;
        }

    -- fewer are faulty
    pub running-less : (left ≡ before → ⊥) → left < before
    running-less d =
        let s = some-store marks₀ in
        let p = r.store s (has-marks marks₀) in
        reached-less _ _ s p.0 passes before p.2 some left (left-count p.0 p.1) d

    pub running-next : (left ≡ before → ⊥) → Running rows columns marks₀ marks' faulty' (passes + 1) left
    running-next d =
        record {
          counted = counted;
          bound = omega (arith, running-less d, r.bound);
          store = λ s e.
              let p = r.store s e in (
                pass never (bare_groups rows columns) p.0,
                made p.0 p.1,
                reached-next _ _ s p.0 passes before p.2 some left (left-count p.0 p.1) d,
              );
        }
