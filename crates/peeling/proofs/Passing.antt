-- A pass over all groups, one after the other, on marks and counts.
use mathlib.Core.Path.{◌≡◌, sym, ap, ◌∙◌}
use mathlib.Core.List.{List, []}
use Prim.Native.Nat.{ℕ, ◌+◌, ◌≤◌, ◌<◌}
use native.Mathlib.Omega.{arith}
use Rattle.scheme.specs.Visit.{State, visit}
use Rattle.scheme.specs.Repair.{pass, marks_of}
use Rattle.scheme.specs.Forecast.{never}
use Rattle.groups.specs.Lent.{members_of}
use Rattle.groups.proofs.Found.{found_group, found-members, found-groups}
use Rattle.groups.proofs.Passed.{Passed, passed_start, passed-next, passed-end}
use Rattle.forecast.specs.Forecast.{bare_groups}
use Rattle.peeling.specs.Lent.{Counted, Visits, Passes}

-- k groups are visited
pub record Passing (rows columns : ℕ) (marks₀ marks faulty : List ℕ) (k : ℕ) : Type 0 where
  pub few : k ≤ rows + columns
  pub counted : Counted rows columns marks faulty
  pub store : (s : State) → marks₀ ≡ marks_of s
      → (t : State) × (marks ≡ marks_of t) × Passed never (found_group rows columns [] []) (rows + columns) k s t

module _ (rows columns : ℕ) where
  pub passing-start : (marks faulty : List ℕ) → Counted rows columns marks faulty → Passing rows columns marks marks faulty 0
  passing-start marks faulty counted =
      record { few = omega arith; counted = counted; store = λ s e. (s, e, passed_start never _ (rows + columns) s) }

  module _ (marks₀ marks faulty : List ℕ) (k : ℕ) (p : Passing rows columns marks₀ marks faulty k) where
    -- the next one goes by the number j
    pub passing-next : (marks' faulty' : List ℕ) (j : ℕ) → k < rows + columns → j ≡ k → Visits (members_of rows columns j) marks marks'
        → Counted rows columns marks' faulty' → Passing rows columns marks₀ marks' faulty' (k + 1)
    passing-next marks' faulty' j h same visits counted =
        record {
          few = omega arith;
          counted = counted;
          store = λ s e.
              let q = p.store s e in (
                visit never (found_group rows columns [] [] k) q.0,
                visits (found_group rows columns [] [] k) (members same) q.0 q.1,
                passed-next never _ (rows + columns) k s q.0 h q.2,
              );
        }
      where
        members : j ≡ k → (found_group rows columns [] [] k).members ≡ members_of rows columns j
        members e = sym (ap (members_of rows columns) e ∙ found-members rows columns [] [] k)

    pub passing-end : rows + columns ≤ k → Passes rows columns marks₀ marks
    unfolding bare_groups
    passing-end h s e =
        let q = p.store s e in
        q.1
        ∙ ap marks_of
        (sym (passed-end never _ (rows + columns) k s q.0 h q.2) ∙ ap (λ gs. pass never gs s) (found-groups rows columns [] []))
