-- A pass over groups by their numbers, one after the other: what is left of it after k visits.
use mathlib.Core.Path.{◌≡◌, sym, ap, ◌∙◌}
use mathlib.Core.List.{map}
use Prim.Native.Nat.{ℕ, suc, ◌+◌, ◌-◌, ◌≤◌, ◌<◌}
use native.Mathlib.Numerals.{add-one}
use native.Mathlib.Omega.{arith}
use Rattle.linecode.specs.Code.{up_from}
use Rattle.scheme.specs.Layer.{Reading}
use Rattle.scheme.specs.Visit.{Group, State, visit}
use Rattle.scheme.specs.Repair.{pass}
use Rattle.groups.proofs.Walk.{all_left}

module _ (read : Reading) (G : ℕ → Group) (total : ℕ) where
  -- from s, the first k visits lead to t
  abbrev pub Passed : ℕ → State → State → Type 0
  Passed k s t = pass read (map G (up_from 0 total)) s ≡ pass read (map G (up_from k (total - k))) t

  pub passed_start : (s : State) → Passed 0 s s
  passed_start s = ap (λ (m : ℕ). pass read (map G (up_from 0 m)) s) (all_left total)

  pub passed-next : (k : ℕ) (s t : State) → k < total → Passed k s t → Passed (k + 1) s (visit read (G k) t)
  passed-next k s t h e =
      e
      ∙ ap (λ (m : ℕ). pass read (map G (up_from k m)) t) one
      ∙ ap (λ (m : ℕ). pass read (map G (up_from m (total - (k + 1)))) (visit read (G k) t)) (sym (add-one k))
    where
      one : total - k ≡ suc (total - (k + 1))
      one = omega arith

  pub passed-end : (k : ℕ) (s t : State) → total ≤ k → Passed k s t → pass read (map G (up_from 0 total)) s ≡ t
  passed-end k s t h e = e ∙ ap (λ (m : ℕ). pass read (map G (up_from k m)) t) none
    where
      none : total - k ≡ 0
      none = omega arith
