-- The faulty lines of the rows together are those of the store.
use mathlib.Core.Path.{◌≡◌, refl, sym, ap, ap₂, ◌∙◌}
use mathlib.Core.Bool.{Bool, true, false, cond, true≢false}
use mathlib.Core.List.{List, [], ◌∷◌, ◌++◌}
use Prim.Native.Nat.{ℕ, zero, suc, ◌+◌, ◌*◌, ◌≤◌, ◌<◌}
use native.Mathlib.Nat.{zero-add, zero-mul, suc-mul}
use native.Mathlib.Omega.{arith}
use lib.ListN.{length, get_or}
use Rattle.scheme.specs.Visit.{State, cell_at, is_faulty, select, faulty_of}
use Rattle.scheme.specs.Repair.{faulty_count}
use Rattle.rectangle.specs.Store.{stride, row}
use Rattle.groups.specs.Lent.{count_to, members_of}
use Rattle.groups.proofs.Numbers.{row_of}

-- ---- all lines counted one by one are the store's lines
count-from : (f : ℕ → Bool) (s : State) (i : ℕ) → ((j : ℕ) → j < length s → f (i + j) ≡ is_faulty (cell_at s j))
    → length (select f (stride i 1 (length s))) ≡ faulty_count s
count-from f [] i h = refl
count-from f (c ∷ s) i h =
    step (f i) (is_faulty c) (ap f (zero' i) ∙ h 0 (omega arith))
    (count-from f s (i + 1) (λ j k. ap f (next i j) ∙ h (suc j) (omega arith)))
  where
    zero' : (i : ℕ) → i ≡ i + 0
    zero' i = omega arith

    next : (i j : ℕ) → i + 1 + j ≡ i + suc j
    next i j = omega arith

    step : (a b : Bool) → a ≡ b → length (select f (stride (i + 1) 1 (length s))) ≡ faulty_count s
        → length (cond a (i ∷ select f (stride (i + 1) 1 (length s))) (select f (stride (i + 1) 1 (length s))))
        ≡ length (cond b (c ∷ select is_faulty s) (select is_faulty s))
    step true true e q = ap suc q
    step false false e q = q
    step true false e q = absurd (true≢false e)
    step false true e q = absurd (true≢false (sym e))

stride-split : (f m n : ℕ) → stride f 1 (m + n) ≡ stride f 1 m ++ stride (f + m) 1 n
stride-split f zero n = ap₂ (λ (a b : ℕ). stride a 1 b) (first f) (zero-add n)
  where
    first : (f : ℕ) → f ≡ f + 0
    first f = omega arith
stride-split f (suc m) n =
    ap (stride f 1) (more m n)
    ∙ ap (λ (l : List ℕ). f ∷ l) (stride-split (f + 1) m n ∙ ap (λ (a : ℕ). stride (f + 1) 1 m ++ stride a 1 n) (shift f m))
  where
    more : (m n : ℕ) → suc m + n ≡ suc (m + n)
    more m n = omega arith

    shift : (f m : ℕ) → f + 1 + m ≡ f + suc m
    shift f m = omega arith

select-append : (f : ℕ → Bool) (k l : List ℕ) → length (select f (k ++ l)) ≡ length (select f k) + length (select f l)
select-append f [] l = sym (zero-add (length (select f l)))
select-append f (n ∷ k) l = step (f n) (select-append f k l)
  where
    step : (b : Bool) → length (select f (k ++ l)) ≡ length (select f k) + length (select f l)
        → length (cond b (n ∷ select f (k ++ l)) (select f (k ++ l))) ≡ length (cond b (n ∷ select f k) (select f k)) + length (select f l)
    step true e = omega arith
    step false e = e

-- each row's number is that of its faulty lines
module _ (rows columns : ℕ) (faulty : List ℕ) (s : State)
    (counted : (r : ℕ) → r < rows → get_or faulty r 0 ≡ length (faulty_of s (members_of rows columns r))) where
  count-rows : (r : ℕ) → r ≤ rows → count_to faulty r ≡ length (faulty_of s (stride 0 1 (r * columns)))
  unfolding row
  count-rows zero h = ap (λ (n : ℕ). length (faulty_of s (stride 0 1 n))) (sym (zero-mul columns))
  count-rows (suc r) h =
      ap₂ ◌+◌ (count-rows r (omega arith))
      (counted r (omega arith) ∙ ap (λ (l : List ℕ). length (faulty_of s l)) (row_of rows columns r h ∙ ap (λ (a : ℕ). stride a 1 columns) (sym (zero-add (r * columns)))))
      ∙ sym (select-append (λ n. is_faulty (cell_at s n)) (stride 0 1 (r * columns)) (stride (0 + r * columns) 1 columns))
      ∙ ap (λ (l : List ℕ). length (faulty_of s l)) (sym (stride-split 0 (r * columns) columns))
      ∙ ap (λ (n : ℕ). length (faulty_of s (stride 0 1 n))) (more r)
    where
      more : (r : ℕ) → r * columns + columns ≡ suc r * columns
      more r = omega (arith, suc-mul r columns)

  pub rows-together : length s ≡ rows * columns → count_to faulty rows ≡ faulty_count s
  rows-together size =
      count-rows rows (omega arith)
      ∙ ap (λ (m : ℕ). length (faulty_of s (stride 0 1 m))) (sym size)
      ∙ count-from (λ n. is_faulty (cell_at s n)) s 0 (λ j l. ap (λ (n : ℕ). is_faulty (cell_at s n)) (zero-add j))
