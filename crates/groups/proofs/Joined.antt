-- Two tables one after the other, as the differences of all groups stand in visiting order: each line is reached and put in its own table.
use mathlib.Core.Path.{◌≡◌, sym, ap, ap₂, subst, ◌∙◌}
use mathlib.Core.Bool.{◌||◌}
use mathlib.Core.List.{List, ◌++◌, append_assoc}
use Prim.Native.Nat.{ℕ, suc, ◌+◌, ◌*◌, ◌≤◌, ◌<◌}
use native.Mathlib.Nat.{suc-mul, add-mul, mul-le-mul_right}
use native.Mathlib.Omega.{arith}
use lib.Dec.{eqb}
use lib.ListN.{length, get_or, take, drop, length-append, length-drop}
use lib.Seq.{take-append-le, drop-append-le, take-append-add, drop-append-add}
use Rattle.linecode.specs.Places.{line_bytes, xor_bytes}
use Rattle.rectangle.specs.Store.{bytes_at, put_bytes}
use Rattle.rectangle.proofs.Buffer.{lines-le}
use Rattle.rectangle.proofs.Spare.{bytes-is}
use Rattle.groups.specs.Lent.{all_zero, agrees_at, which_of, number_of, Within, difference_of, Reached}
use Rattle.groups.proofs.Numbers.{which-number, which-within}
use Rattle.groups.specs.declared.tracked.Which.{Which}
use Rattle.groups.specs.declared.tracked.Which.TheVariants.{Row, Column}

-- line k with a line added, byte by byte
abbrev pub added : List ℕ → ℕ → List ℕ → List ℕ
added lacks k line = put_bytes lacks k (xor_bytes (bytes_at lacks k) line)

-- tables as long as before
pub joined_length : (a b a' b' : List ℕ) → length a' ≡ length a → length b' ≡ length b → length (a' ++ b') ≡ length (a ++ b)
joined_length a b a' b' e f = length-append a' b' ∙ ap₂ ◌+◌ e f ∙ sym (length-append a b)

pub both-length : (a b : List ℕ) (n m : ℕ) → length a ≡ n * 70 → length b ≡ m * 70 → length (a ++ b) ≡ (n + m) * 70
both-length a b n m e f = omega (arith, length-append a b, add-mul n m 70)

-- line k lies inside a table
pub table-line : (bytes n k : ℕ) → bytes ≡ n * 70 → k < n → suc k * 70 ≤ bytes
table-line bytes n k e h = omega (arith, mul-le-mul_right 70 h)

module _ (a b : List ℕ) (n : ℕ) (whole : length a ≡ n * 70) where
  bytes : length a ≡ n * line_bytes
  bytes = whole ∙ ap (λ (i : ℕ). n * i) (sym bytes-is)

  within : (k : ℕ) → k < n → suc k * line_bytes ≤ length a
  within k h = omega (arith, bytes, lines-le (suc k) n h)

  after : (k : ℕ) → (n + k) * line_bytes ≡ length a + k * line_bytes
  after k = omega (arith, bytes, add-mul n k line_bytes)

  -- a line of the first table
  pub first-at : (k : ℕ) → k < n → bytes_at (a ++ b) k ≡ bytes_at a k
  unfolding bytes_at
  first-at k h =
      ap (take line_bytes) (drop-append-le (k * line_bytes) a b (omega (arith, within k h, suc-mul k line_bytes)))
      ∙ take-append-le line_bytes (drop (k * line_bytes) a) b long
    where
      long : line_bytes ≤ length (drop (k * line_bytes) a)
      long = omega (arith, within k h, suc-mul k line_bytes, length-drop (k * line_bytes) a)

  pub first-put : (k : ℕ) (line : List ℕ) → k < n → put_bytes a k line ++ b ≡ put_bytes (a ++ b) k line
  unfolding put_bytes
  first-put k line h =
      append_assoc (take (k * line_bytes) a ++ line) (drop (suc k * line_bytes) a) b
      ∙ ap₂ (λ (x y : List ℕ). (x ++ line) ++ y)
      (sym (take-append-le (k * line_bytes) a b (omega (arith, within k h, suc-mul k line_bytes))))
      (sym (drop-append-le (suc k * line_bytes) a b (within k h)))

  -- and of the second
  pub second_at : (k : ℕ) → bytes_at (a ++ b) (n + k) ≡ bytes_at b k
  unfolding bytes_at
  second_at k =
      ap (λ (i : ℕ). take line_bytes (drop i (a ++ b))) (after k) ∙ ap (take line_bytes) (drop-append-add a b (k * line_bytes))

  pub second-put : (k : ℕ) (line : List ℕ) → a ++ put_bytes b k line ≡ put_bytes (a ++ b) (n + k) line
  unfolding put_bytes
  second-put k line =
      sym (append_assoc a (take (k * line_bytes) b ++ line) (drop (suc k * line_bytes) b)
      )
      ∙ ap (λ (x : List ℕ). x ++ drop (suc k * line_bytes) b) (sym (append_assoc a (take (k * line_bytes) b) line))
      ∙ ap₂ (λ (x y : List ℕ). (x ++ line) ++ y)
      (sym (ap (λ (i : ℕ). take i (a ++ b)) (after k) ∙ take-append-add a b (k * line_bytes)))
      (sym (ap (λ (i : ℕ). drop i (a ++ b)) next ∙ drop-append-add a b (suc k * line_bytes)))
    where
      next : suc (n + k) * line_bytes ≡ length a + suc k * line_bytes
      next = omega (arith, after k, suc-mul (n + k) line_bytes, suc-mul k line_bytes)

  -- a line added
  pub first-added : (k : ℕ) (line : List ℕ) → k < n → added a k line ++ b ≡ added (a ++ b) k line
  first-added k line h =
      first-put k _ h ∙ ap (λ (l : List ℕ). put_bytes (a ++ b) k (xor_bytes l line)) (sym (first-at k h))

  pub second-added : (k : ℕ) (line : List ℕ) → a ++ added b k line ≡ added (a ++ b) (n + k) line
  second-added k line =
      second-put k _ ∙ ap (λ (l : List ℕ). put_bytes (a ++ b) (n + k) (xor_bytes l line)) (sym (second_at k))

-- ---- a group's difference in its own table
module _ (row_lacks column_lacks : List ℕ) (rows columns : ℕ) (first : length row_lacks ≡ rows * 70) where
  pub which-difference : (which : Which) → Within rows columns which
      → difference_of row_lacks column_lacks which ≡ bytes_at (row_lacks ++ column_lacks) (number_of rows which)
  which-difference (Row r) h = sym (first-at row_lacks column_lacks rows first r.0 h)
  which-difference (Column c) h = sym (second_at row_lacks column_lacks rows first c.0)

  pub which-reached : length column_lacks ≡ columns * 70 → (which : Which) → Within rows columns which
      → Reached row_lacks column_lacks which
  which-reached second (Row r) h = table-line (length row_lacks) rows r.0 first h
  which-reached second (Column c) h = table-line (length column_lacks) columns c.0 second h

  -- group k in visiting order is compared
  module _ (k : ℕ) (listed : k < rows + columns) (which : Which) (which-is : which ≡ which_of rows k) where
    pub visited-number : number_of rows which ≡ k
    visited-number = ap (number_of rows) which-is ∙ which-number rows k

    visited-within : Within rows columns which
    visited-within = subst (Within rows columns) (sym which-is) (which-within rows k columns listed)

    pub visited-reached : length column_lacks ≡ columns * 70 → Reached row_lacks column_lacks which
    visited-reached second = which-reached second which visited-within

    pub visited-agrees : (parity_marks : List ℕ)
        → (eqb (get_or parity_marks (number_of rows which) 0) 4 || all_zero (difference_of row_lacks column_lacks which))
        ≡ agrees_at (row_lacks ++ column_lacks) parity_marks k
    unfolding agrees_at
    visited-agrees parity_marks =
        ap₂ (λ (n : ℕ) (line : List ℕ). eqb (get_or parity_marks n 0) 4 || all_zero line) visited-number
        (which-difference which visited-within ∙ ap (bytes_at (row_lacks ++ column_lacks)) visited-number)
