-- A rectangle that agrees with its tables: refusals 13 and 14 accept them, and tables made anew have their places. So with one written.
use mathlib.Core.Path.{◌≡◌, refl, sym, ap, ap₂, ◌∙◌}
use mathlib.Core.Logic.{◌⊎◌, inl, inr}
use mathlib.Core.Bool.{true}
use mathlib.Core.List.{List}
use Prim.Native.Nat.{ℕ, ◌*◌, ◌<◌}
use native.Mathlib.Omega.{arith}
use lib.ListN.{length}
use Rattle.linecode.specs.Places.{line_bytes}
use Rattle.scheme.specs.Layer.{Promises}
use Rattle.rectangle.specs.Store.{line_layer, lines_in, row_group, column_group}
use Rattle.rectangle.specs.Refusals.{tables_fit, parity_correct, tables_refusal}
use Rattle.rectangle.specs.Tables.{row_parity, column_parity, row_table_of, column_table_of, TablesMade}
use Rattle.demands.specs.Demands.{Rectangle, count, tables_for, Written, Agrees, TablesOfTheCode, TablesAreOfTheCode}
use Rattle.rectangle.proofs.Buffer.{holds-length, length-holds, equal-lines_in, length-table-bytes}
use Rattle.rectangle.proofs.Groups.{Sides, sides}
use Rattle.rectangle.proofs.Tests.{lengths-tables, tables-pass, tables-passed}
use Rattle.rectangle.proofs.Runs.{zero_or_not, tables-run, tables-refused}
use Rattle.demands.proofs.Parity.{row_parity-correct, column_parity-correct, row_table-at, column_table-at, row-passes, column-passes}
use Rattle.demands.proofs.Written.{written-bytes, written-accepted, written_row, written-column}

pub row_table-bytes : (rows columns : ℕ) (lines : List ℕ) → length (row_table_of rows columns lines) ≡ rows * line_bytes
unfolding row_table_of
row_table-bytes rows columns lines = length-table-bytes (row_parity columns lines) rows

pub column_table-bytes : (rows columns : ℕ) (lines : List ℕ) → length (column_table_of rows columns lines) ≡ columns * line_bytes
unfolding column_table_of
column_table-bytes rows columns lines = length-table-bytes (column_parity rows columns lines) columns

module _ (promises : Promises line_layer) where
  module _ (r : Rectangle) (agrees : Agrees r) where
    all-sides : Sides r.rows r.columns
    all-sides = sides r.rows r.columns agrees.sides

    pub some-rows : 0 < r.rows
    some-rows = omega (arith, all-sides.rows_low)

    pub some-columns : 0 < r.columns
    some-columns = omega (arith, all-sides.columns_low)

    pub line-bytes : length r.lines ≡ count r * line_bytes
    line-bytes = holds-length (count r) r.lines agrees.line_bytes

    -- refusals 13 and 14 accept every parity line
    pub row-accepted : (k : ℕ) → k < r.rows → parity_correct (row_group r.columns r.row_table k) ≡ true
    row-accepted =
        row-passes promises r.rows r.columns some-rows some-columns r.lines line-bytes agrees.accepted r.row_table
        r.column_table agrees.row_table agrees.column_table

    pub column-accepted : (k : ℕ) → k < r.columns → parity_correct (column_group r.rows r.columns r.column_table k) ≡ true
    column-accepted =
        column-passes promises r.rows r.columns some-rows some-columns r.lines line-bytes agrees.accepted r.row_table
        r.column_table agrees.row_table agrees.column_table

    -- tables made anew have the places of its tables
    module _ (old_rows old_columns : List ℕ) (fit : tables_fit r.rows r.columns old_rows old_columns ≡ true) where
      made : tables_for r old_rows old_columns
          ≡ record {
            answer = 0;
            row_table = row_table_of r.rows r.columns r.lines;
            column_table = column_table_of r.rows r.columns r.lines;
          }
      unfolding tables_for
      made =
          tables-run r.rows r.columns r.lines old_rows old_columns 0
          (tables-pass r.rows r.columns r.lines old_rows old_columns
          (record { sides = agrees.sides; line_bytes = agrees.line_bytes; table_bytes = fit; accepted = agrees.accepted })) refl

      pub anew-answers : (tables_for r old_rows old_columns).answer ≡ 0
      anew-answers = ap (λ (t : TablesMade). t.answer) made

      pub anew-rows : lines_in r.rows r.row_table ≡ lines_in r.rows (tables_for r old_rows old_columns).row_table
      anew-rows =
          rw made
          (equal-lines_in r.rows r.row_table (row_table_of r.rows r.columns r.lines)
          (λ k h.
          agrees.row_table k h
          ∙ sym (row_table-at promises r.rows r.columns some-rows some-columns r.lines line-bytes agrees.accepted k h)))

      pub anew-columns : lines_in r.columns r.column_table ≡ lines_in r.columns (tables_for r old_rows old_columns).column_table
      anew-columns =
          rw made
          (equal-lines_in r.columns r.column_table (column_table_of r.rows r.columns r.lines)
          (λ k h.
          agrees.column_table k h
          ∙ sym (column_table-at promises r.rows r.columns some-rows some-columns r.lines line-bytes agrees.accepted k h)))

  -- a rectangle written agrees with its tables
  pub written-agrees : (w : Rectangle) → Written w → Agrees w
  written-agrees w written =
      record {
        sides = written.sides;
        line_bytes = length-holds (count w) w.lines (written-bytes promises w written);
        table_bytes = lengths-tables w.rows w.columns w.row_table w.column_table
            (ap length written.row_table ∙ row_table-bytes w.rows w.columns w.lines)
            (ap length written.column_table ∙ column_table-bytes w.rows w.columns w.lines);
        accepted = written-accepted promises w written;
        row_table = written_row promises w written;
        column_table = written-column promises w written;
      }

  -- its tables are those that making tables gives
  pub written-tables : (w : Rectangle) → Written w → (old_rows old_columns : List ℕ)
      → tables_fit w.rows w.columns old_rows old_columns ≡ true
      → tables_for w old_rows old_columns ≡ record { answer = 0; row_table = w.row_table; column_table = w.column_table }
  written-tables w written old_rows old_columns fit =
      made w (written-agrees w written) old_rows old_columns fit
      ∙ ap₂ tables (sym written.row_table) (sym written.column_table)
    where
      tables : List ℕ → List ℕ → TablesMade
      tables row_table column_table = record { answer = 0; row_table = row_table; column_table = column_table }

  -- demand 2: where tables are made, each of their parity lines is a correct line
  pub tables_are_of_the_code : TablesAreOfTheCode
  unfolding tables_for
  tables_are_of_the_code r old_rows old_columns e =
      go (zero_or_not (tables_refusal r.rows r.columns r.lines old_rows old_columns))
    where
      go : (tables_refusal r.rows r.columns r.lines old_rows old_columns ≡ 0)
          ⊎ (tables_refusal r.rows r.columns r.lines old_rows old_columns ≡ 0 → ⊥) → TablesOfTheCode r old_rows old_columns
      go (inr d) =
          absurd (d (rw (tables-refused r.rows r.columns r.lines old_rows old_columns _ refl d) at e))
      go (inl z) =
          let asked = tables-passed r.rows r.columns r.lines old_rows old_columns z in
          let low : Sides r.rows r.columns = sides r.rows r.columns asked.sides in
          let some_rows : 0 < r.rows = omega (arith, low.rows_low) in
          let some : 0 < r.columns = omega (arith, low.columns_low) in
          let bytes = holds-length (count r) r.lines asked.line_bytes in
          record {
            rows_correct = λ k h.
                rw (
                  tables-run r.rows r.columns r.lines old_rows old_columns 0 z refl,
                  row_table-at promises r.rows r.columns some_rows some r.lines bytes asked.accepted k h,
                )
                (row_parity-correct promises r.rows r.columns some_rows some r.lines bytes asked.accepted k h);
            columns_correct = λ k h.
                rw (
                  tables-run r.rows r.columns r.lines old_rows old_columns 0 z refl,
                  column_table-at promises r.rows r.columns some_rows some r.lines bytes asked.accepted k h,
                )
                (column_parity-correct promises r.rows r.columns some_rows some r.lines bytes asked.accepted k h);
          }
