-- What changing a line refuses, past the tests of the sizes, and what it leaves.
use mathlib.Core.Path.{◌≡◌, refl, sym, ap, ap₂, ◌∙◌}
use mathlib.Core.Bool.{Bool, true, false, ◌&&◌}
use mathlib.Core.List.{List}
use Prim.Native.Nat.{ℕ, suc, ◌*◌, ◌/◌, ◌%◌, ◌≤◌, ◌<◌}
use native.Mathlib.Nat.{mul-le-mul_right}
use native.Mathlib.Omega.{arith}
use borrow.Author.Tests.{eqb-true, ltb-true, eq-eqb, ne_eqb, lt-ltb, le-ltb}
use lib.Dec.{eqb, ltb}
use lib.ListN.{length}
use Rattle.linecode.specs.Places.{data_bytes}
use Rattle.rectangle.specs.declared.answers.Refusal.{Refusal}
use Rattle.rectangle.specs.declared.answers.Refusal.TheVariants.{Short, Sides, Limit, Contents, Lines, Tables, Room, Number, Faulty, RowParity, ColumnParity, NoReport}
use Rattle.rectangle.specs.Answers.{number_of, index_of}
use Rattle.rectangle.specs.Store.{put_line, alone_at, row_group, column_group}
use Rattle.rectangle.specs.Refusals.{unless, sides_fit, parity_correct, parity_refusal, accepted_at, change_refusal, number_with}
use Rattle.rectangle.specs.Change.{new_line, difference, add_to, LineChanged, change_line}
use Rattle.rectangle.proofs.Groups.{sides, row_below, column-below}
use Rattle.rectangle.proofs.Area.{line-bytes}
use Rattle.rectangle.proofs.Runs as Runs
use Rattle.rectangle.proofs.Tests.{passed, parity-refused, parity-passed}
use Rattle.rectangle.proofs.Alone.{faulty-alone, accepted-alone}
use Rattle.rectangle.proofs.Refusing.{size_tests, sizes-refused, sizes-then, sizes-next, SizesPass}

-- a refusal below 13 comes with no number
index-below : (refusal : Refusal) (row column : ℕ) → number_of refusal < 13 → index_of refusal ≡ number_with (number_of refusal) row column
unfolding number_with
index-below Short row column h = refl
index-below Sides row column h = refl
index-below Limit row column h = refl
index-below Contents row column h = refl
index-below Lines row column h = refl
index-below Tables row column h = refl
index-below Room row column h = refl
index-below Number row column h = refl
index-below Faulty row column h = refl
index-below (RowParity r) row column h = let z : ⊥ = omega arith in absurd z
index-below (ColumnParity k) row column h = let z : ⊥ = omega arith in absurd z
index-below NoReport row column h = refl

module _ (rows columns : ℕ) (lines row_table column_table : List ℕ) where
  -- a line of the rectangle and its two parity lines lie inside the buffers
  module _ (p : SizesPass rows columns lines row_table column_table) (n : ℕ) (inside : n < rows * columns) where
    pub some-columns : 0 < columns
    some-columns = omega (arith, sides rows columns p.sides)

    pub line-room : suc n * 70 ≤ length lines
    line-room = line-bytes rows columns (length lines) (omega (arith, p.line_bytes)) n inside

    pub row_room : (r : ℕ) → r ≡ n / columns → suc r * 70 ≤ length row_table
    row_room r e =
        let below : r < rows = omega (arith, row_below rows columns some-columns n inside) in
        let last : suc r * 70 ≤ rows * 70 = mul-le-mul_right 70 below in
        omega (arith, p.row_bytes)

    pub column-room : (c : ℕ) → c ≡ n % columns → suc c * 70 ≤ length column_table
    column-room c e =
        let below : c < columns = omega (arith, column-below rows columns some-columns n) in
        let last : suc c * 70 ≤ columns * 70 = mul-le-mul_right 70 below in
        omega (arith, p.column_bytes)

  -- no number comes with a refusal of the sizes
  pub numberless : (refusal : Refusal) (row column : ℕ) → number_of refusal ≡ size_tests rows columns lines row_table column_table
      → index_of refusal ≡ number_with (number_of refusal) row column
  numberless refusal row column e =
      index-below refusal row column
      (omega (
        arith,
        low (sides_fit rows columns) (eqb (length lines) (rows * columns * 70))
            (eqb (length row_table) (rows * 70) && eqb (length column_table) (columns * 70)) e,
      ))
    where
      low : (a b k : Bool) → number_of refusal ≡ unless a 2 (unless b 5 (unless k 6 0)) → number_of refusal ≤ 6
      low false b k f = omega arith
      low true false k f = omega arith
      low true true false f = omega arith
      low true true true f = omega arith

  module _ (n : ℕ) (payload : List ℕ) where
    -- what is tested past the sizes
    abbrev pub change_tests : ℕ
    change_tests =
        unless (eqb (length payload) 64) 7
        (unless (ltb n (rows * columns)) 8
        (parity_refusal
        (parity_correct (row_group columns row_table (n / columns)))
        (parity_correct (column_group rows columns column_table (n % columns)))
        (unless (accepted_at lines n) 10 0)))

    pub change-sizes : (r : ℕ) → r ≡ size_tests rows columns lines row_table column_table → (r ≡ 0 → ⊥) → change_refusal rows columns lines row_table column_table n payload ≡ r
    unfolding change_refusal
    change-sizes r e d = sizes-refused rows columns lines row_table column_table r _ e d

    pub change-next : SizesPass rows columns lines row_table column_table → change_refusal rows columns lines row_table column_table n payload ≡ change_tests
    unfolding change_refusal data_bytes
    change-next p = sizes-next rows columns lines row_table column_table p _

    -- nothing refused
    pub record ChangePass : Type 0 where
      pub sizes : SizesPass rows columns lines row_table column_table
      pub payload_bytes : length payload ≡ 64
      pub inside : n < rows * columns

    pub change-passed : change_refusal rows columns lines row_table column_table n payload ≡ 0 → ChangePass
    unfolding change_refusal data_bytes
    change-passed e =
        let six = sizes-then rows columns lines row_table column_table _ e in
        let seven = passed (eqb (length payload) 64) 7 _ (λ y. omega arith) six.1 in
        let eight = passed (ltb n (rows * columns)) 8 _ (λ y. omega arith) seven.1 in
        record { sizes = six.0; payload_bytes = eqb-true _ _ seven.0; inside = ltb-true _ _ eight.0 }

    -- each refusal past the sizes
    module _ (fit : SizesPass rows columns lines row_table column_table) where
      next : change_tests ≡ change_refusal rows columns lines row_table column_table n payload
      next = sym (change-next fit)

      pub wrong-payload : (length payload ≡ 64 → ⊥) → 7 ≡ change_refusal rows columns lines row_table column_table n payload
      wrong-payload d = rw (← next, ne_eqb _ 64 d)

      pub past-last : length payload ≡ 64 → rows * columns ≤ n → 8 ≡ change_refusal rows columns lines row_table column_table n payload
      past-last e h = rw (← next, eq-eqb _ 64 e, le-ltb _ _ h)

      -- what the definition tests past refusals 7 and 8: the parity lines of the line's row and column, and the line
      abbrev of_row : Bool
      of_row = parity_correct (row_group columns row_table (n / columns))

      abbrev of_column : Bool
      of_column = parity_correct (column_group rows columns column_table (n % columns))

      abbrev of_line : ℕ
      of_line = unless (accepted_at lines n) 10 0

      module _ (whole : length payload ≡ 64) (inside : n < rows * columns) (r k : ℕ) (er : r ≡ n / columns) (ek : k ≡ n % columns)
          (bad : ℕ) (eb : (rows columns : ℕ) → bad ≡ parity_refusal (parity_correct (row_group columns row_table r))
          (parity_correct (column_group rows columns column_table k)) 0) where
        left : parity_refusal of_row of_column of_line ≡ change_refusal rows columns lines row_table column_table n payload
        left = rw (← next, eq-eqb _ 64 whole, lt-ltb _ _ inside)

        tested : bad ≡ parity_refusal of_row of_column 0
        tested =
            eb rows columns
            ∙ ap₂ (λ (i j : ℕ). parity_refusal (parity_correct (row_group columns row_table i))
            (parity_correct (column_group rows columns column_table j)) 0) er ek

        pub bad-parity : (bad ≡ 0 → ⊥) → bad ≡ change_refusal rows columns lines row_table column_table n payload
        bad-parity d = sym (sym left ∙ parity-refused of_row of_column of_line bad tested d)

        -- past refusals 13 and 14 the definition tests the line
        module _ (none : bad ≡ 0) (mark : ℕ) (e : mark ≡ (alone_at lines n).mark) where
          last : of_line ≡ change_refusal rows columns lines row_table column_table n payload
          last = sym (parity-passed of_row of_column of_line bad tested none) ∙ left

          pub faulty : mark ≡ 4 → 10 ≡ change_refusal rows columns lines row_table column_table n payload
          faulty f = rw (← last, faulty-alone lines n mark e f)

          pub passes : (mark ≡ 4 → ⊥) → 0 ≡ change_refusal rows columns lines row_table column_table n payload
          passes d = rw (← last, accepted-alone lines n mark e d)

    -- a refusal writes nothing
    pub change-refused : (r number : ℕ) → r ≡ change_refusal rows columns lines row_table column_table n payload → (r ≡ 0 → ⊥)
        → number ≡ number_with r (n / columns) (n % columns)
        → ◌≡◌ {A = LineChanged} (record { answer = r; number = number; lines = lines; row_table = row_table; column_table = column_table })
        (change_line rows columns lines row_table column_table n payload)
    change-refused r number e d f =
        ap (λ (k : ℕ). record { answer = r; number = k; lines = lines; row_table = row_table; column_table = column_table }) f
        ∙ sym (Runs.change-refused rows columns lines row_table column_table n payload r (sym e) d)

    pub change-made : (new_lines new_rows new_columns : List ℕ) → change_refusal rows columns lines row_table column_table n payload ≡ 0
        → new_lines ≡ put_line lines n (new_line n payload)
        → new_rows ≡ add_to row_table (n / columns) (difference lines n payload)
        → new_columns ≡ add_to column_table (n % columns) (difference lines n payload)
        → ◌≡◌ {A = LineChanged} (record { answer = 0; number = 0; lines = new_lines; row_table = new_rows; column_table = new_columns })
        (change_line rows columns lines row_table column_table n payload)
    change-made new_lines new_rows new_columns e f g h =
        rw (f, g, h) (sym (Runs.change-runs rows columns lines row_table column_table n payload 0 e refl))
