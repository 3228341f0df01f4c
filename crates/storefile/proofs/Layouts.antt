-- The numbers of a file's layout, case by case, and where they lead.
use mathlib.Core.Path.{◌≡◌, refl, sym, ap, ◌∙◌}
use mathlib.Core.List.{List, []}
use Prim.Native.Nat.{ℕ}
use borrow.Author.Tests.{ne_eqb}
use lib.ListN.{replicate}
use Rattle.std.specs.Prelude.{Result, Ok, Err, MatchResult}
use Rattle.std.specs.Result.{IsOkAnd}
use Rattle.rectangle.specs.declared.answers.Refusal.{Refusal}
use Rattle.rectangle.specs.declared.sizes.Sides.{Sides}
use Rattle.rectangle.proofs.Numbers.{number-not-zero}
use Rattle.storefile.specs.Given.{opened_as, layout_as}
use Rattle.storefile.specs.Header.{lines_part, row_table_part, column_table_part, bytes_in}
use Rattle.storefile.specs.Opening.{rows_in, columns_in, opened, body, Opened}
use Rattle.storefile.specs.Layout.{part_at, layout_numbers, layout_in, Layout}
use Rattle.storefile.specs.Promises.{NoBodies, LayoutFinds, LayoutFindsBodies}
use Rattle.storefile.specs.declared.header.Part.{Part}
use Rattle.storefile.proofs.Openings.{Outcome, accepted, refused, outcome}
use Rattle.storefile.proofs.MadeFile.{body_of}
use Rattle.storefile.proofs.Covering.{refused-file-empty}

module _ (file : List ℕ) (o : Opened) (is : o ≡ opened 512 file) where
  pub layout-refused : (o.answer ≡ 0 → ⊥) → ◌≡◌ {A = Layout} (record { answer = o.answer; numbers = replicate 8 0 }) (layout_in file)
  unfolding layout_in
  layout-refused d = rw (← is, ne_eqb o.answer 0 d)

  pub layout-found : (numbers : List ℕ) → o.answer ≡ 0 → numbers ≡ layout_numbers o.rows o.columns
      → ◌≡◌ {A = Layout} (record { answer = 0; numbers = numbers }) (layout_in file)
  unfolding layout_in
  layout-found numbers e f = rw (f, ← is, e)

-- the numbers of what opening gives
pub layout-given : (file : List ℕ) (o : Result Sides Refusal) → opened_as o ≡ opened 512 file → (r : Result (List ℕ) Refusal)
    → MatchResult o (λ sides. IsOkAnd r (λ numbers. numbers ≡ layout_numbers sides.rows sides.columns)) (λ refusal. r ≡ Err refusal)
    → layout_as r ≡ layout_in file
layout-given file (Ok sides) is (Ok numbers) e = layout-found file _ is numbers refl e
layout-given file (Ok sides) is (Err refusal) e = absurd e
layout-given file (Err refusal) is r e = rw e (layout-refused file _ is (number-not-zero refusal))

-- ---- where the numbers lead
module _ (file : List ℕ) (rows columns : ℕ) (e : opened 512 file ≡ record { answer = 0; rows = rows; columns = columns }) where
  numbers-found : (layout_in file).numbers ≡ layout_numbers rows columns
  unfolding layout_in
  numbers-found = rw e

  there : (part : ℕ → ℕ → Part) (i : ℕ) → part_at (layout_numbers rows columns) i ≡ part rows columns
      → bytes_in file (part_at (layout_in file).numbers i) ≡ body part file
  there part i p =
      ap (λ (n : List ℕ). bytes_in file (part_at n i)) numbers-found
      ∙ ap (bytes_in file) p
      ∙ sym (body_of part file rows columns e)

  all_there : LayoutFinds file
  unfolding layout_numbers
  all_there =
      record { lines = there lines_part 2 refl; row_table = there row_table_part 4 refl; column_table = there column_table_part 6 refl }

module _ (file : List ℕ) (n : ℕ) (d : n ≡ 0 → ⊥) (e : opened 512 file ≡ record { answer = n; rows = 0; columns = 0 }) where
  no-numbers : (layout_in file).numbers ≡ replicate 8 0
  unfolding layout_in
  no-numbers = rw (e, ne_eqb n 0 d)

  none : NoBodies file
  none = refused-file-empty file (λ z. d (sym (ap (λ (o : Opened). o.answer) e) ∙ z))

  nowhere : (i : ℕ) → bytes_in file (part_at (replicate 8 0) i) ≡ [] → bytes_in file (part_at (layout_in file).numbers i) ≡ []
  nowhere i p = ap (λ (l : List ℕ). bytes_in file (part_at l i)) no-numbers ∙ p

  none-there : LayoutFinds file
  unfolding bytes_in
  none-there =
      record {
        lines = nowhere 2 refl ∙ sym none.lines;
        row_table = nowhere 4 refl ∙ sym none.row_table;
        column_table = nowhere 6 refl ∙ sym none.column_table;
      }

pub layout-finds-bodies : LayoutFindsBodies
layout-finds-bodies file = go (outcome 512 file (opened 512 file) refl)
  where
    go : Outcome 512 file (opened 512 file) → LayoutFinds file
    go (accepted e h) = all_there file (rows_in file) (columns_in file) e
    go (refused d e) = none-there file _ d e
