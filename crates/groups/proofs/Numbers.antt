-- The groups by their numbers: which lines group k has.
use mathlib.Core.Path.{◌≡◌, refl, sym, ap, subst, ◌∙◌}
use mathlib.Core.Logic.{◌⊎◌, inl, inr}
use mathlib.Core.Bool.{Bool, true, false, cond}
use mathlib.Core.List.{List}
use Prim.Native.Nat.{ℕ, ◌+◌, ◌-◌, ◌*◌, ◌/◌, ◌%◌, ◌≤◌, ◌<◌}
use native.Mathlib.Nat.{mul-le-mul_right}
use native.Mathlib.Omega.{arith}
use borrow.Author.Tests.{lt-ltb, le-ltb, ltb-true, ltb-false}
use lib.Dec.{ltb}
use lib.ListN.{length}
use Rattle.scheme.specs.Demand3.{◌∈◌, Rising}
use Rattle.rectangle.specs.Store.{row, column}
use Rattle.rectangle.proofs.Groups.{in_row, row_number, row_inside, row_below, in-column, column-number, column-inside, rising-row, rising-column}
use Rattle.rectangle.proofs.Stride.{length-stride}
use Rattle.groups.specs.Lent.{which_of, number_of, Within, members_of, Numbered}
use Rattle.groups.specs.declared.tracked.Which.TheVariants.{Row, Column}

-- ---- group k as a row or a column
module _ (rows k : ℕ) where
  pub which-number : number_of rows (which_of rows k) ≡ k
  unfolding which_of
  which-number = go (ltb k rows) refl
    where
      go : (b : Bool) → ltb k rows ≡ b → number_of rows (cond b (Row (record { 0 = k })) (Column (record { 0 = k - rows }))) ≡ k
      go true e = refl
      go false e = let low : rows ≤ k = ltb-false k rows e in omega arith

  pub which-within : (columns : ℕ) → k < rows + columns → Within rows columns (which_of rows k)
  unfolding which_of
  which-within columns h = go (ltb k rows) refl
    where
      go : (b : Bool) → ltb k rows ≡ b → Within rows columns (cond b (Row (record { 0 = k })) (Column (record { 0 = k - rows })))
      go true e = ltb-true k rows e
      go false e = let low : rows ≤ k = ltb-false k rows e in omega arith

pub past : (rows c : ℕ) → rows + c - rows ≡ c
past rows c = omega arith

module _ (rows columns : ℕ) where
  pub row_of : (k : ℕ) → k < rows → members_of rows columns k ≡ row columns k
  unfolding members_of
  row_of k h = ap (λ (b : Bool). cond b (row columns k) (column rows columns (k - rows))) (lt-ltb k rows h)

  pub column-of : (c : ℕ) → members_of rows columns (rows + c) ≡ column rows columns c
  unfolding members_of
  column-of c =
      ap (λ (b : Bool). cond b (row columns (rows + c)) (column rows columns (rows + c - rows))) (le-ltb (rows + c) rows (omega arith))
      ∙ ap (column rows columns) (past rows c)

  -- a group is a row or a column
  pub by_number : (P : ℕ → Type 0) → ((r : ℕ) → r < rows → P r) → ((c : ℕ) → c < columns → P (rows + c)) → (k : ℕ) → k < rows + columns → P k
  by_number P f g k h = go (ltb k rows) refl
    where
      go : (b : Bool) → ltb k rows ≡ b → P k
      go true e = f k (ltb-true k rows e)
      go false e =
          let low : rows ≤ k = ltb-false k rows e in
          let same : rows + (k - rows) ≡ k = omega arith in
          subst P same (g (k - rows) (omega arith))

module _ (rows columns : ℕ) (some : 0 < columns) where
  pub members-rising : (k : ℕ) → k < rows + columns → Rising (members_of rows columns k)
  members-rising =
      by_number rows columns (λ k. Rising (members_of rows columns k))
      (λ r h. subst Rising (sym (row_of rows columns r h)) (rising-row rows columns some r))
      (λ c h. subst Rising (sym (column-of rows columns c)) (rising-column rows columns some c))

  pub members-inside : (n k : ℕ) → k < rows + columns → n ∈ members_of rows columns k → n < rows * columns
  members-inside n =
      by_number rows columns (λ k. n ∈ members_of rows columns k → n < rows * columns)
      (λ r h i. row_inside rows columns some r n h (subst (λ (l : List ℕ). n ∈ l) (row_of rows columns r h) i))
      (λ c h i. column-inside rows columns some c n h (subst (λ (l : List ℕ). n ∈ l) (column-of rows columns c) i))

  -- a line is in its row and in its column, and in no other group
  pub home-row : (n : ℕ) → n < rows * columns → n ∈ members_of rows columns (n / columns)
  home-row n h =
      subst (λ (l : List ℕ). n ∈ l) (sym (row_of rows columns (n / columns) (row_below rows columns some n h))) (in_row rows columns some n)

  pub home-column : (n : ℕ) → n < rows * columns → n ∈ members_of rows columns (rows + n % columns)
  home-column n h =
      subst (λ (l : List ℕ). n ∈ l) (sym (column-of rows columns (n % columns))) (in-column rows columns some n h)

  pub homes : (n k : ℕ) → k < rows + columns → n ∈ members_of rows columns k → (k ≡ n / columns) ⊎ (k ≡ rows + n % columns)
  homes n =
      by_number rows columns (λ k. n ∈ members_of rows columns k → (k ≡ n / columns) ⊎ (k ≡ rows + n % columns))
      (λ r h i. inl (sym (row_number rows columns some r n (subst (λ (l : List ℕ). n ∈ l) (row_of rows columns r h) i))))
      (λ c h i.
      inr (ap (λ (x : ℕ). rows + x)
      (sym (column-number rows columns some c n h (subst (λ (l : List ℕ). n ∈ l) (column-of rows columns c) i)))))

-- a group has few lines
pub members-few : (rows columns : ℕ) → rows ≤ 512 → columns ≤ 512 → (k : ℕ) → k < rows + columns → length (members_of rows columns k) ≤ 512
unfolding row column
members-few rows columns rh ch =
    by_number rows columns (λ k. length (members_of rows columns k) ≤ 512)
    (λ r h. omega (arith, ap length (row_of rows columns r h), length-stride (r * columns) 1 columns))
    (λ c h. omega (arith, ap length (column-of rows columns c), length-stride c columns rows))

-- ---- a group given by its first line, the step and the number of its lines
module _ (rows columns : ℕ) (rl : 2 ≤ rows) (rh : rows ≤ 512) (cl : 2 ≤ columns) (ch : columns ≤ 512) where
  area : rows * columns ≤ 262144
  area = omega (arith, mul-le-mul_right columns rh)

  pub row-numbered : (k : ℕ) → k < rows → Numbered rows columns k (k * columns) 1 columns
  unfolding row
  row-numbered k h =
      record {
        listed = omega arith;
        lines = sym (row_of rows columns k h);
        inside =
            record {
              some = omega arith;
              each = λ i j. omega (arith, mul-le-mul_right columns h);
              apart = omega arith;
              small = omega (arith, mul-le-mul_right columns h, area);
            };
      }

  pub column-numbered : (c : ℕ) → c < columns → Numbered rows columns (rows + c) c columns rows
  unfolding column
  column-numbered c h =
      record {
        listed = omega arith;
        lines = sym (column-of rows columns c);
        inside =
            record {
              some = omega arith;
              each = λ i j. omega (arith, mul-le-mul_right columns j);
              apart = omega arith;
              small = omega (arith, area);
            };
      }

  pub any-numbered : (k : ℕ) → k < rows + columns → (first : ℕ) × (step : ℕ) × (count : ℕ) × Numbered rows columns k first step count
  any-numbered =
      by_number rows columns (λ k. (first : ℕ) × (step : ℕ) × (count : ℕ) × Numbered rows columns k first step count)
      (λ r h. (r * columns, 1, columns, row-numbered r h)) (λ c h. (c, columns, rows, column-numbered c h))
