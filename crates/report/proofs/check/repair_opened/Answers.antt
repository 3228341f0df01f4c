-- `report::check::repair_opened` meets its contract.
use Rattle.report.proofs.Checking.{repair-bodies}
use Rattle.report.proofs.check.repair_opened.Goals as goal

pub returns : goal.returns
returns c =
    repair-bodies c.args.file.now c.args.sides.rows c.args.sides.columns _ _ _ _ _ _ _ _
    c.lines_part.ensures c.part_of-lines.ensures
    c.row_table_part.ensures c.part_of-row_table.ensures
    c.column_table_part.ensures c.part_of-column_table.ensures
    c.repair.ensures
