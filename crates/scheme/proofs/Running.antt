-- A run of the passes, as a loop makes them: what is reached after so many of them, with so many lines still faulty.
use mathlib.Core.Path.{◌≡◌, refl, sym, ap, ◌∙◌}
use mathlib.Core.List.{List}
use Prim.Native.Nat.{ℕ, suc, ◌+◌, ◌≤◌, ◌<◌}
use native.Mathlib.Omega.{arith}
use Rattle.scheme.specs.Layer.{Reading}
use Rattle.scheme.specs.Visit.{Group, State}
use Rattle.scheme.specs.Repair.{Repaired, pass, faulty_count, passes_from}
use Rattle.scheme.proofs.Grows.{grows-count}
use Rattle.scheme.proofs.Steps.{pass-grows}
use Rattle.scheme.proofs.Passes.{no-pass, last-pass, one-more-pass}

module _ (read : Reading) (gs : List Group) where
  -- from s, so many passes lead to t, in which so many lines are faulty
  pub record Reached (s t : State) (passes before : ℕ) : Type 0 where
    pub count : before ≡ faulty_count t
    pub bound : passes + before ≤ faulty_count s
    pub cells : (passes_from read gs s).cells ≡ (passes_from read gs t).cells
    pub number : (passes_from read gs s).passes ≡ passes + (passes_from read gs t).passes

  pub reached-start : (s : State) (before : ℕ) → before ≡ faulty_count s → Reached s s 0 before
  reached-start s before e = record { count = e; bound = omega arith; cells = refl; number = omega arith }

  module _ (s t : State) (passes before : ℕ) (r : Reached s t passes before) where
    -- the passes of t with those made are the passes of s
    ends : (end : Repaired) → passes_from read gs t ≡ end
        → ((passes_from read gs s).cells ≡ end.cells) × ((passes_from read gs s).passes ≡ passes + end.passes)
    ends end e = (r.cells ∙ ap (λ x. x.cells) e, r.number ∙ ap (λ (x : Repaired). passes + x.passes) e)

    -- none is faulty
    pub reached-end : before ≤ 0 → ((passes_from read gs s).cells ≡ t) × ((passes_from read gs s).passes ≡ passes)
    reached-end h =
        let e = ends (record { cells = t; passes = 0 }) (no-pass read gs t (omega (arith, r.count))) in
        (e.0, omega (arith, e.1))

    -- a pass leaves so many faulty
    module _ (some : 0 < before) (left : ℕ) (left_is : left ≡ faulty_count (pass read gs t)) where
      faulty : faulty_count t ≡ 0 → ⊥
      faulty z = omega (arith, r.count)

      -- it mended nothing
      pub reached-idle : left ≡ before
          → ((passes_from read gs s).cells ≡ pass read gs t) × ((passes_from read gs s).passes ≡ passes + 1)
      reached-idle e =
          ends (record { cells = pass read gs t; passes = 1 }) (last-pass read gs t faulty (sym left_is ∙ e ∙ r.count))

      -- or some line
      pub reached-less : (left ≡ before → ⊥) → left < before
      reached-less d = omega (arith, r.count, (grows-count (pass-grows read gs t)).0)

      pub reached-next : (left ≡ before → ⊥) → Reached s (pass read gs t) (passes + 1) left
      reached-next d =
          let later = passes_from read gs (pass read gs t) in
          let e =
          ends (record { cells = later.cells; passes = suc later.passes })
          (one-more-pass read gs t faulty (λ z. d (left_is ∙ z ∙ sym r.count))) in
          record { count = left_is; bound = omega (arith, reached-less d, r.bound); cells = e.0; number = omega (arith, e.1) }
