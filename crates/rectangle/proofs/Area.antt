-- How many lines a rectangle has at most, and that the bytes of its lines lie inside.
use mathlib.Core.Path.{◌≡◌}
use mathlib.Core.Bool.{true}
use Prim.Native.Nat.{ℕ, suc, ◌+◌, ◌*◌, ◌≤◌, ◌<◌}
use native.Mathlib.Nat.{mul-le-mul_right}
use native.Mathlib.Omega.{arith}
use Rattle.rectangle.specs.Refusals.{sides_fit}
use Rattle.rectangle.proofs.Groups.{Sides, sides, line-inside}

-- rows and columns that pass refusal 2 make at most 512 times 512 lines
pub area : (rows columns : ℕ) → sides_fit rows columns ≡ true → rows * columns ≤ 262144
area rows columns e =
    let s : Sides rows columns = sides rows columns e in
    let most : rows * columns ≤ 512 * columns = mul-le-mul_right columns s.rows_high in
    omega arith

module _ (rows columns bytes : ℕ) (whole : rows * columns * 70 ≤ bytes) where
  -- the bytes of a line of the rectangle
  pub line-bytes : (n : ℕ) → n < rows * columns → suc n * 70 ≤ bytes
  line-bytes n h = let last : suc n * 70 ≤ rows * columns * 70 = mul-le-mul_right 70 h in omega arith

  -- line k of column c
  pub column-bytes : (c : ℕ) → c < columns → (k : ℕ) → k < rows → suc (c + k * columns) * 70 ≤ bytes
  column-bytes c h k i = line-bytes (c + k * columns) (omega (arith, line-inside rows columns (omega arith) k c i h))
