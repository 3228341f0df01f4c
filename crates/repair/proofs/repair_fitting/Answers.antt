-- `repair::repair_fitting` meets its contract.
use mathlib.Core.Path.{◌≡◌, refl, ◌∙◌}
use mathlib.Core.List.{[], ◌++◌}
use lib.ListN.{length, replicate}
use Rattle.groups.specs.Lent.{Tracked}
use Rattle.parity.specs.Lent.{MarksOf}
use Rattle.parity.proofs.Tables.{rows-in, columns-in}
use Rattle.repair.proofs.Groups.{starts_from}
use Rattle.repair.proofs.Refusing.{repair-passes}
use Rattle.repair.proofs.Handing.{zero-marks-long, started, marked, row-marks, column-marks, same-rect, fresh-rows, fresh-columns, none_left, left-test, handed}
use Rattle.repair.proofs.repair_fitting.Goals as goal

pub read-requires : goal.read-requires
read-requires c =
    let p = repair-passes _ _ _ _ _ _ _ _ _ c.requires in
    (c.args.store.sides.rows_fit.1, c.args.store.sides.columns_fit.1, p.sizes.row_bytes, p.row_bytes, zero-marks-long)

pub read-requires-2 : goal.read-requires-2
read-requires-2 c =
    let p = repair-passes _ _ _ _ _ _ _ _ _ c.requires in
    (c.args.store.sides.rows_fit.1, c.args.store.sides.columns_fit.1, p.sizes.column_bytes, p.column_bytes, c.read.auto.parity_marks ∙ zero-marks-long)

pub steps-repaired-requires : goal.steps-repaired-requires
steps-repaired-requires c =
    let p = repair-passes _ _ _ _ _ _ _ _ _ c.requires in
    let begun : Tracked c.args.store.sides.rows c.args.store.sides.columns (starts_from c.args.store.sides.rows c.args.store.sides.columns c.args.store.row_table.now c.args.store.column_table.now)
    (c.read.new.lacks ++ c.read-2.new.lacks) (replicate 1024 0) [] =
    started c.args.store.sides.rows c.args.store.sides.columns c.args.store.row_table.now c.args.store.column_table.now c.read.new.lacks c.read-2.new.lacks _ _ _
    p.sizes.row_bytes p.sizes.column_bytes p.rect.rows_high p.rect.columns_high (c.read.auto.lacks ∙ p.row_bytes)
    (c.read.ensures _ (rows-in c.args.store.sides.rows c.args.store.sides.columns c.args.store.row_table.now))
    (c.read-2.ensures _ (columns-in c.args.store.sides.rows c.args.store.sides.columns c.args.store.column_table.now)) in
    record {
      room = (
        p.rect,
        p.sizes.line_bytes,
        c.read.auto.lacks ∙ p.row_bytes,
        c.read-2.auto.lacks ∙ p.column_bytes,
        c.read-2.auto.parity_marks ∙ c.read.auto.parity_marks ∙ zero-marks-long,
      );
      some = (_, begun);
    }

pub hand_over-requires : goal.hand_over-requires
hand_over-requires c =
    let p = repair-passes _ _ _ _ _ _ _ _ _ c.requires in
    let marks-long : length c.read-2.new.parity_marks ≡ 1024 =
    c.read-2.auto.parity_marks ∙ c.read.auto.parity_marks ∙ zero-marks-long in
    let row-marks-given : MarksOf c.args.store.row_table.now 0 c.args.store.sides.rows c.read-2.new.parity_marks =
    row-marks c.args.store.sides.rows c.args.store.sides.columns c.args.store.row_table.now c.args.store.column_table.now c.read.new.lacks c.read-2.new.lacks _ _ _
    p.sizes.row_bytes p.sizes.column_bytes p.rect.rows_high p.rect.columns_high (c.read.auto.lacks ∙ p.row_bytes)
    (c.read.ensures _ (rows-in c.args.store.sides.rows c.args.store.sides.columns c.args.store.row_table.now))
    (c.read-2.ensures _ (columns-in c.args.store.sides.rows c.args.store.sides.columns c.args.store.column_table.now)) in
    record {
      room = (
        c.args.store.sides.rows_fit.1,
        c.args.store.sides.columns_fit.1,
        p.sizes.row_bytes,
        c.steps-repaired.auto.row_lacks ∙ c.read.auto.lacks ∙ p.row_bytes,
        marks-long,
      );
      marked = row-marks-given;
    }

pub hand_over-requires-2 : goal.hand_over-requires-2
hand_over-requires-2 c =
    let p = repair-passes _ _ _ _ _ _ _ _ _ c.requires in
    let marks-long : length c.read-2.new.parity_marks ≡ 1024 =
    c.read-2.auto.parity_marks ∙ c.read.auto.parity_marks ∙ zero-marks-long in
    let column-marks-given : MarksOf c.args.store.column_table.now c.args.store.sides.rows c.args.store.sides.columns c.read-2.new.parity_marks =
    column-marks c.args.store.sides.rows c.args.store.sides.columns c.args.store.row_table.now c.args.store.column_table.now c.read.new.lacks c.read-2.new.lacks _ _ _
    p.sizes.row_bytes p.sizes.column_bytes p.rect.rows_high p.rect.columns_high (c.read.auto.lacks ∙ p.row_bytes)
    (c.read.ensures _ (rows-in c.args.store.sides.rows c.args.store.sides.columns c.args.store.row_table.now))
    (c.read-2.ensures _ (columns-in c.args.store.sides.rows c.args.store.sides.columns c.args.store.column_table.now)) in
    record {
      room = (
        c.args.store.sides.rows_fit.1,
        c.args.store.sides.columns_fit.1,
        p.sizes.column_bytes,
        c.steps-repaired.auto.column_lacks ∙ c.read-2.auto.lacks ∙ p.column_bytes,
        marks-long,
      );
      marked = column-marks-given;
    }

pub returns : goal.returns
returns c =
    let p = repair-passes _ _ _ _ _ _ _ _ _ c.requires in
    let begun : Tracked c.args.store.sides.rows c.args.store.sides.columns (starts_from c.args.store.sides.rows c.args.store.sides.columns c.args.store.row_table.now c.args.store.column_table.now)
    (c.read.new.lacks ++ c.read-2.new.lacks) (replicate 1024 0) [] =
    started c.args.store.sides.rows c.args.store.sides.columns c.args.store.row_table.now c.args.store.column_table.now c.read.new.lacks c.read-2.new.lacks _ _ _
    p.sizes.row_bytes p.sizes.column_bytes p.rect.rows_high p.rect.columns_high (c.read.auto.lacks ∙ p.row_bytes)
    (c.read.ensures _ (rows-in c.args.store.sides.rows c.args.store.sides.columns c.args.store.row_table.now))
    (c.read-2.ensures _ (columns-in c.args.store.sides.rows c.args.store.sides.columns c.args.store.column_table.now)) in
    let rect = same-rect _ _ _ _ c.steps-repaired.new.out c.steps-repaired.new.marks p.rect c.steps-repaired.auto.out c.steps-repaired.auto.marks in
    let f = c.steps-repaired.ensures _ begun in
    let long = c.steps-repaired.auto.row_lacks ∙ c.read.auto.lacks ∙ p.row_bytes in
    let none = c.ne-whole.ensures ∙ left-test c.steps-repaired.result.outcome ∙ none_left c.args.store.sides.rows c.args.store.sides.columns _ _ rect c.args.store.row_table.now c.args.store.column_table.now _ _ _ _ _ f in
    handed c.args.store.sides.rows c.args.store.sides.columns _ _ rect c.args.store.row_table.now c.args.store.column_table.now _ _ _ _ _ f
    (marked c.args.store.sides.rows c.args.store.sides.columns c.args.store.row_table.now c.args.store.column_table.now c.read.new.lacks c.read-2.new.lacks _ _ _
    p.sizes.row_bytes p.sizes.column_bytes p.rect.rows_high p.rect.columns_high (c.read.auto.lacks ∙ p.row_bytes)
    (c.read.ensures _ (rows-in c.args.store.sides.rows c.args.store.sides.columns c.args.store.row_table.now))
    (c.read-2.ensures _ (columns-in c.args.store.sides.rows c.args.store.sides.columns c.args.store.column_table.now)))
    _ _
    (c.hand_over.ensures _ f.cells (rows-in c.args.store.sides.rows c.args.store.sides.columns c.args.store.row_table.now) none
    (fresh-rows c.args.store.sides.rows c.args.store.sides.columns _ _ rect c.args.store.row_table.now c.args.store.column_table.now _ _ _ _ _ f c.steps-repaired.new.row_lacks c.steps-repaired.new.column_lacks refl long))
    (c.hand_over-2.ensures _ f.cells (columns-in c.args.store.sides.rows c.args.store.sides.columns c.args.store.column_table.now) none
    (fresh-columns c.args.store.sides.rows c.args.store.sides.columns _ _ rect c.args.store.row_table.now c.args.store.column_table.now _ _ _ _ _ f c.steps-repaired.new.row_lacks c.steps-repaired.new.column_lacks refl long))
