-- The steps of a read of one line: which is the last, and what the line found by it comes to for the caller.
use mathlib.Core.Path.{◌≡◌, refl, sym, ap, ap₂, ◌∙◌}
use mathlib.Core.Bool.{true, cond}
use mathlib.Core.List.{List, ◌++◌, append-nil}
use Prim.Native.Nat.{ℕ, ◌*◌, ◌/◌, ◌<◌}
use native.Mathlib.Omega.{arith}
use borrow.Author.Tests.{eq-eqb, ne_eqb}
use lib.Dec.{eqb}
use lib.ListN.{length, get_or, drop_of_length-le}
use Rattle.linecode.specs.Places.{line_bytes}
use Rattle.linecode.specs.declared.alone.Reading.{Reading}
use Rattle.scheme.specs.Layer.{Cell}
use Rattle.scheme.specs.Visit.{cell_at}
use Rattle.rectangle.specs.Store.{bytes_at, alone_at, in_bytes, put_bytes}
use Rattle.rectangle.specs.Refusals.{sides_fit, repair_refusal}
use Rattle.rectangle.specs.Repair.{Buffers, repaired}
use Rattle.local_decoding.specs.Lookup.{after_row, last_step, repair_in, one_refusal, zeroed, OneRead, read_one}
use Rattle.local_decoding.proofs.Refusing.{OnePass, one_passes}
use Rattle.local_decoding.proofs.Cells.{alone-final, row-final, repaired-line, repaired-mark}

-- ---- each step that is the last gives the line of the whole repair
module _ (rows columns : ℕ) (lines row_table column_table : List ℕ) (sides : sides_fit rows columns ≡ true) (n : ℕ)
    (inside : n < rows * columns)
    (alone : Reading) (alone-is : alone ≡ in_bytes (alone_at lines n)) where
  alone-mark : alone.mark ≡ (alone_at lines n).mark
  alone-mark = ap (λ (r : Reading). r.mark) alone-is

  pub found-alone : (alone.mark ≡ 4 → ⊥)
      → (1 ≡ last_step rows columns lines row_table n)
      × (alone ≡ in_bytes (cell_at (repaired rows columns lines row_table column_table).cells n))
  unfolding last_step
  found-alone d =
      let whole : (alone_at lines n).mark ≡ 4 → ⊥ = λ e. d (alone-mark ∙ e) in (
        rw (ne_eqb (alone_at lines n).mark 4 whole) refl,
        alone-is ∙ ap in_bytes (sym (alone-final rows columns lines row_table column_table sides n inside whole)),
      )

  module _ (hurt : alone.mark ≡ 4) (visited : Reading)
      (visited-is : visited ≡ in_bytes (cell_at (after_row rows columns lines row_table (n / columns)) n)) where
    after : Cell
    after = cell_at (after_row rows columns lines row_table (n / columns)) n

    visited-mark : visited.mark ≡ after.mark
    unfolding after
    visited-mark = ap (λ (r : Reading). r.mark) visited-is

    pub found-by-row : (visited.mark ≡ 4 → ⊥)
        → (2 ≡ last_step rows columns lines row_table n)
        × (visited ≡ in_bytes (cell_at (repaired rows columns lines row_table column_table).cells n))
    unfolding last_step after
    found-by-row d =
        let whole : after.mark ≡ 4 → ⊥ = λ e. d (visited-mark ∙ e) in (
          rw (eq-eqb (alone_at lines n).mark 4 (sym alone-mark ∙ hurt), ne_eqb after.mark 4 whole) refl,
          visited-is ∙ ap in_bytes (sym (row-final rows columns lines row_table column_table sides n inside whole)),
        )

    pub both-failed : visited.mark ≡ 4 → 3 ≡ last_step rows columns lines row_table n
    unfolding last_step after
    both-failed e =
        rw (eq-eqb (alone_at lines n).mark 4 (sym alone-mark ∙ hurt), eq-eqb after.mark 4 (sym visited-mark ∙ e))

-- ---- the whole repair's line n, out of the buffers that it leaves
module _ (rows columns : ℕ) (lines row_table column_table : List ℕ) (work : Buffers)
    (passes : repair_refusal rows columns lines row_table column_table work.lines work.marks work.row_table work.column_table ≡ 0)
    (n : ℕ) (inside : n < rows * columns) where
  pub given-repaired : (out marks line : List ℕ) → out ≡ (repair_in rows columns lines row_table column_table work).lines
      → marks ≡ (repair_in rows columns lines row_table column_table work).marks → line ≡ bytes_at out n
      → ◌≡◌ {A = Reading} (record { line = line; mark = get_or marks n 0 })
      (in_bytes (cell_at (repaired rows columns lines row_table column_table).cells n))
  given-repaired out marks line e f g =
      ap₂ (λ (x : List ℕ) (y : ℕ). record { line = x; mark = y })
      (g ∙ ap (λ (b : List ℕ). bytes_at b n) e ∙ repaired-line rows columns lines row_table column_table work passes n inside)
      (ap (λ (b : List ℕ). get_or b n 0) f ∙ repaired-mark rows columns lines row_table column_table work passes n inside)

-- ---- the line found, given to the caller
-- a line written into a buffer of its own length is all of it
whole-line : (buffer line : List ℕ) → length buffer ≡ 70 → put_bytes buffer 0 line ≡ line
unfolding put_bytes line_bytes
whole-line buffer line e =
    ap (λ (l : List ℕ). line ++ l) (drop_of_length-le buffer {i = 70} (omega arith)) ∙ append-nil line

module _ (rows columns : ℕ) (lines row_table column_table : List ℕ) (n : ℕ) (work : Buffers) (line : List ℕ)
    (none : one_refusal rows columns lines row_table column_table n work line ≡ 0) (read : Reading)
    (read_is : read ≡ in_bytes (cell_at (repaired rows columns lines row_table column_table).cells n)) where
  pub one-read : (answer step : ℕ) (line' out marks row_out column_out : List ℕ) → answer ≡ cond (eqb read.mark 4) 11 0
      → step ≡ last_step rows columns lines row_table n → line' ≡ put_bytes line 0 read.line → out ≡ zeroed work.lines
      → marks ≡ zeroed work.marks → row_out ≡ zeroed work.row_table → column_out ≡ zeroed work.column_table
      → ◌≡◌ {A = OneRead}
      (record {
        answer = answer;
        step = step;
        mark = read.mark;
        line = line';
        work = record { lines = out; marks = marks; row_table = row_out; column_table = column_out };
      })
      (read_one rows columns lines row_table column_table n work line)
  unfolding read_one
  one-read answer step line' out marks row_out column_out a s l o m r c =
      rw (none, a, s, line-is, mark-is, o, m, r, c)
    where
      p : OnePass rows columns lines row_table column_table n work line
      p = one_passes rows columns lines row_table column_table n work line none

      mark-is : read.mark ≡ get_or (repair_in rows columns lines row_table column_table work).marks n 0
      mark-is = ap (λ (x : Reading). x.mark) read_is
          ∙ sym (repaired-mark rows columns lines row_table column_table work p.of_repair n p.inside)

      line-is : line' ≡ bytes_at (repair_in rows columns lines row_table column_table work).lines n
      line-is =
          l ∙ whole-line line read.line p.line_bytes
          ∙ ap (λ (x : Reading). x.line) read_is
          ∙ sym (repaired-line rows columns lines row_table column_table work p.of_repair n p.inside)
