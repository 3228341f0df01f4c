-- All groups by their numbers are the rectangle's groups in visiting order.
use mathlib.Core.Path.{◌≡◌, refl, ap, ap₂, ◌∙◌}
use mathlib.Core.Bool.{Bool, true, false, cond}
use mathlib.Core.List.{List, ◌++◌, map, map-append}
use Prim.Native.Nat.{ℕ, ◌+◌, ◌-◌, ◌<◌}
use native.Mathlib.Omega.{arith}
use borrow.Author.Tests.{lt-ltb, le-ltb}
use lib.Dec.{ltb}
use Rattle.linecode.specs.Code.{up_from}
use Rattle.scheme.specs.Visit.{Group}
use Rattle.rectangle.specs.Store.{row, column, row_group, column_group, groups}
use Rattle.rectangle.proofs.Members.{map_below, up_from-split, map-shift}
use Rattle.groups.specs.Lent.{members_of}
use Rattle.groups.proofs.Numbers.{past}

-- ---- group k in the tables
unfoldable pub found_group : ℕ → ℕ → List ℕ → List ℕ → ℕ → Group
found_group rows columns row_table column_table k =
    cond (ltb k rows) (row_group columns row_table k) (column_group rows columns column_table (k - rows))

module _ (rows columns : ℕ) (rt ct : List ℕ) where
  pub found-row : (r : ℕ) → r < rows → found_group rows columns rt ct r ≡ row_group columns rt r
  unfolding found_group
  found-row r h = rw (lt-ltb r rows h)

  pub found-column : (c : ℕ) → found_group rows columns rt ct (rows + c) ≡ column_group rows columns ct c
  unfolding found_group
  found-column c =
      ap (λ (b : Bool). cond b (row_group columns rt (rows + c)) (column_group rows columns ct (rows + c - rows))) (le-ltb (rows + c) rows (omega arith))
      ∙ ap (column_group rows columns ct) (past rows c)

  pub found-members : (k : ℕ) → members_of rows columns k ≡ (found_group rows columns rt ct k).members
  unfolding found_group members_of
  found-members k = go (ltb k rows)
    where
      go : (b : Bool) → cond b (row columns k) (column rows columns (k - rows))
          ≡ (cond b (row_group columns rt k) (column_group rows columns ct (k - rows))).members
      go true = refl
      go false = refl

-- ---- all groups
pub found-groups : (rows columns : ℕ) (rt ct : List ℕ)
    → map (found_group rows columns rt ct) (up_from 0 (rows + columns)) ≡ groups rows columns rt ct
unfolding groups
found-groups rows columns rt ct =
    ap (map G) (up_from-split 0 rows columns ∙ ap (λ (i : ℕ). up_from 0 rows ++ up_from i columns) (zero' rows))
    ∙ map-append G (up_from 0 rows) (up_from rows columns)
    ∙ ap₂ ◌++◌ (map_below G (row_group columns rt) rows (found-row rows columns rt ct))
    (map-shift G rows columns ∙ map_below (λ (c : ℕ). G (rows + c)) (column_group rows columns ct) columns (λ c h. found-column rows columns rt ct c))
  where
    G : ℕ → Group
    G = found_group rows columns rt ct

    zero' : (n : ℕ) → 0 + n ≡ n
    zero' n = omega arith
