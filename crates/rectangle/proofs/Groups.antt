-- Rows and columns: each line of the rectangle is in exactly its row and its column, and all groups rise.
use mathlib.Core.Path.{◌≡◌, sym, ap, ap₂, subst, ◌∙◌}
use mathlib.Core.Logic.{◌⊎◌, inl, inr}
use mathlib.Core.Bool.{true, and-eq-true_iff}
use mathlib.Core.List.{List, map, ◌++◌}
use Prim.Native.Nat.{ℕ, suc, ◌+◌, ◌*◌, ◌/◌, ◌%◌, ◌≤◌, ◌<◌}
use native.Mathlib.Nat.{zero-add, suc-mul, div-add-mod', mod-lt, mod-eq_of_lt, div-eq_of_lt, div-lt_iff_lt-mul, mul-add-div_right, add-mul-mod_self_right, mul-le-mul_right}
use native.Mathlib.Omega.{arith}
use borrow.Author.Tests.{leb-true}
use lib.Dec.{leb}
use Rattle.gf2.specs.Word.{Word}
use Rattle.linecode.specs.Code.{up_from}
use Rattle.scheme.specs.Visit.{Group}
use Rattle.scheme.specs.Demand3.{◌∈◌, Rising, RisingGroups}
use Rattle.scheme.proofs.Lists.{in_map, map-from}
use Rattle.rectangle.specs.Store.{places_at, stride, row, column, row_group, column_group, groups}
use Rattle.rectangle.specs.Refusals.{side_fits, sides_fit}
use Rattle.rectangle.proofs.Members.{in-up_from, up_from-bounds, in_left, in_right, append-from, map_below}
use Rattle.rectangle.proofs.Stride.{in-stride, stride-index, rising-stride}

-- rows and columns as refusal 2 asks for
pub record Sides (rows columns : ℕ) : Type 0 where
  pub rows_low : 2 ≤ rows
  pub rows_high : rows ≤ 512
  pub columns_low : 2 ≤ columns
  pub columns_high : columns ≤ 512

side : (n : ℕ) → side_fits n ≡ true → (2 ≤ n) × (n ≤ 512)
unfolding side_fits
side n e = let p = (and-eq-true_iff (leb 2 n) (leb n 512)).0 e in (leb-true 2 n p.0, leb-true n 512 p.1)

pub sides : (rows columns : ℕ) → sides_fit rows columns ≡ true → Sides rows columns
unfolding sides_fit
sides rows columns e =
    let p = (and-eq-true_iff (side_fits rows) (side_fits columns)).0 e in
    let r = side rows p.0 in
    let c = side columns p.1 in
    record { rows_low = r.0; rows_high = r.1; columns_low = c.0; columns_high = c.1 }

-- ---- the lines of a row and of a column
module _ (rows columns : ℕ) (some : 0 < columns) where
  pub in_row : (n : ℕ) → n ∈ row columns (n / columns)
  unfolding row
  in_row n =
      let e : n / columns * columns + n % columns * 1 ≡ n = omega (arith, div-add-mod' n columns) in
      subst (λ (m : ℕ). m ∈ stride (n / columns * columns) 1 columns) e
      (in-stride (n / columns * columns) 1 columns (n % columns) (mod-lt n some))

  pub row_number : (r m : ℕ) → m ∈ row columns r → m / columns ≡ r
  unfolding row
  row_number r m i =
      let at = stride-index (r * columns) 1 columns m i in
      let below : at.0 < columns = at.1 in
      let e : m ≡ r * columns + at.0 = omega (arith, at.2) in
      ap (λ (k : ℕ). k / columns) e ∙ mul-add-div_right some r at.0
      ∙ omega (arith, div-eq_of_lt below)

  pub row_inside : (r m : ℕ) → r < rows → m ∈ row columns r → m < rows * columns
  unfolding row
  row_inside r m h i =
      let at = stride-index (r * columns) 1 columns m i in
      let below : at.0 < columns = at.1 in
      let last : suc r * columns ≤ rows * columns = mul-le-mul_right columns h in
      omega (arith, at.2, suc-mul r columns)

  pub row_below : (n : ℕ) → n < rows * columns → n / columns < rows
  row_below n h = (div-lt_iff_lt-mul some).1 h

  pub in-column : (n : ℕ) → n < rows * columns → n ∈ column rows columns (n % columns)
  unfolding column
  in-column n h =
      let e : n % columns + n / columns * columns ≡ n = omega (arith, div-add-mod' n columns) in
      subst (λ (m : ℕ). m ∈ stride (n % columns) columns rows) e
      (in-stride (n % columns) columns rows (n / columns) (row_below n h))

  pub column-number : (c m : ℕ) → c < columns → m ∈ column rows columns c → m % columns ≡ c
  unfolding column
  column-number c m h i =
      let at = stride-index c columns rows m i in
      ap (λ (k : ℕ). k % columns) at.2 ∙ add-mul-mod_self_right c at.0 columns ∙ mod-eq_of_lt h

  pub column-inside : (c m : ℕ) → c < columns → m ∈ column rows columns c → m < rows * columns
  unfolding column
  column-inside c m h i =
      let at = stride-index c columns rows m i in
      let last : suc at.0 * columns ≤ rows * columns = mul-le-mul_right columns at.1 in
      omega (arith, at.2, suc-mul at.0 columns)

  pub column-below : (n : ℕ) → n % columns < columns
  column-below n = mod-lt n some

  -- a line is given by its row and its column
  pub same_line : (n m : ℕ) → n / columns ≡ m / columns → n % columns ≡ m % columns → n ≡ m
  same_line n m e f =
      sym (div-add-mod' n columns) ∙ ap₂ (λ (a b : ℕ). a * columns + b) e f ∙ div-add-mod' m columns

  pub rising-row : (r : ℕ) → Rising (row columns r)
  unfolding row
  rising-row r = rising-stride (r * columns) 1 columns (omega arith)

  pub rising-column : (c : ℕ) → Rising (column rows columns c)
  unfolding column
  rising-column c = rising-stride c columns rows some

  -- row r and column c lie inside
  pub line-inside : (r c : ℕ) → r < rows → c < columns → r * columns + c < rows * columns
  line-inside r c h k =
      let last : suc r * columns ≤ rows * columns = mul-le-mul_right columns h in
      omega (arith, suc-mul r columns)

  -- ---- the list of groups
  module _ (row_table column_table : List ℕ) where
    row_groups : List Group
    row_groups = map (row_group columns row_table) (up_from 0 rows)

    column_groups : List Group
    column_groups = map (column_group rows columns column_table) (up_from 0 columns)

    pub row_listed : (r : ℕ) → r < rows → row_group columns row_table r ∈ groups rows columns row_table column_table
    unfolding groups row_groups column_groups
    row_listed r h =
        in_left row_groups column_groups _
        (in_map (row_group columns row_table) (up_from 0 rows) r (rw zero-add at (in-up_from 0 rows r h)))

    pub column-listed : (c : ℕ) → c < columns → column_group rows columns column_table c ∈ groups rows columns row_table column_table
    unfolding groups row_groups column_groups
    column-listed c h =
        in_right row_groups column_groups _
        (in_map (column_group rows columns column_table) (up_from 0 columns) c (rw zero-add at (in-up_from 0 columns c h)))

    -- every group is a row or a column
    row-or-column : (g : Group) → g ∈ groups rows columns row_table column_table
        → ((r : ℕ) × (r < rows) × (g ≡ row_group columns row_table r))
        ⊎ ((c : ℕ) × (c < columns) × (g ≡ column_group rows columns column_table c))
    unfolding groups row_groups column_groups
    row-or-column g i = go (append-from row_groups column_groups g i)
      where
        go : (g ∈ row_groups) ⊎ (g ∈ column_groups)
            → ((r : ℕ) × (r < rows) × (g ≡ row_group columns row_table r))
            ⊎ ((c : ℕ) × (c < columns) × (g ≡ column_group rows columns column_table c))
        go (inl j) =
            let r = map-from (row_group columns row_table) (up_from 0 rows) g j in
            inl (r.0, omega (arith, (up_from-bounds 0 rows r.0 r.1).1), r.2)
        go (inr j) =
            let c = map-from (column_group rows columns column_table) (up_from 0 columns) g j in
            inr (c.0, omega (arith, (up_from-bounds 0 columns c.0 c.1).1), c.2)

    -- what holds of every row and of every column holds of every group
    pub by-groups : (P : Group → Type 0) → ((r : ℕ) → r < rows → P (row_group columns row_table r))
        → ((c : ℕ) → c < columns → P (column_group rows columns column_table c))
        → (g : Group) → g ∈ groups rows columns row_table column_table → P g
    by-groups P h k g i = go (row-or-column g i)
      where
        go : ((r : ℕ) × (r < rows) × (g ≡ row_group columns row_table r))
            ⊎ ((c : ℕ) × (c < columns) × (g ≡ column_group rows columns column_table c)) → P g
        go (inl r) = subst P (sym r.2) (h r.0 r.1)
        go (inr c) = subst P (sym c.2) (k c.0 c.1)

    pub rising-groups : RisingGroups (groups rows columns row_table column_table)
    rising-groups = by-groups (λ g. Rising g.members) (λ r h. rising-row r) (λ c h. rising-column c)

    pub groups-inside : (g : Group) → g ∈ groups rows columns row_table column_table → (m : ℕ) → m ∈ g.members → m < rows * columns
    groups-inside =
        by-groups (λ g. (m : ℕ) → m ∈ g.members → m < rows * columns) (λ r h m i. row_inside r m h i)
        (λ c h m i. column-inside c m h i)

-- tables with the same places make the same groups
pub equal-groups : (rows columns : ℕ) (row_table column_table row_table' column_table' : List ℕ)
    → ((r : ℕ) → r < rows → places_at row_table r ≡ places_at row_table' r)
    → ((c : ℕ) → c < columns → places_at column_table c ≡ places_at column_table' c)
    → groups rows columns row_table column_table ≡ groups rows columns row_table' column_table'
unfolding groups
equal-groups rows columns row_table column_table row_table' column_table' h k =
    ap₂ ◌++◌
    (map_below (row_group columns row_table) (row_group columns row_table') rows (λ r i. ap (group (row columns r)) (h r i)))
    (map_below (column_group rows columns column_table) (column_group rows columns column_table') columns
    (λ c i. ap (group (column rows columns c)) (k c i)))
  where
    group : List ℕ → Word → Group
    group members parity = record { members = members; parity = parity }
