-- A table is computed in parts: a theorem may take so many steps and no more.
use mathlib.Core.Bool.{Bool, true, false, ◌&&◌}
use mathlib.Core.List.{List, [], ◌∷◌}
use Prim.Native.Nat.{ℕ, zero, suc}
use lib.Dec.{T}
use lib.ListN.{take, drop}
use Rattle.sampling.specs.Rows as Rows
use Rattle.sampling.specs.Rows.{Sample, all}

-- a table holds where its first rows and the others do
pub by_parts : (n : ℕ) (table : List Sample) → T (all (take n table)) → T (all (drop n table)) → T (all table)
by_parts zero table t u = u
by_parts (suc n) [] t u = tt
by_parts (suc n) (s ∷ table) t u = go (Rows.holds s) t (λ r. by_parts n table r u)
  where
    go : (b : Bool) → T (b && all (take n table)) → (T (all (take n table)) → T (all table)) → T (b && all table)
    go true t rest = rest t
    go false t rest = absurd t
