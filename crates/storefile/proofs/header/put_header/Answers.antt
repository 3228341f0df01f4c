-- `storefile::header::put_header` meets its contract.
use Rattle.storefile.proofs.Headers.{header-put}
use Rattle.storefile.proofs.header.put_header.Goals as goal

pub returns : goal.returns
returns c =
    header-put c.args.out.now c.requires c.args.sides.rows c.args.sides.columns _ _ _ _ _ _ _ _
    c.put_number.ensures c.put_number-2.ensures
    c.lines_part.ensures c.put_entry.ensures
    c.row_table_part.ensures c.put_entry-2.ensures
    c.column_table_part.ensures c.put_entry-3.ensures
