-- `capi::sudoku_write_line` meets its contract: 7 where the data or the buffer have another length, else the line.
use native.Mathlib.Omega.{arith}
use mathlib.Core.Path.{◌∙◌}
use Rattle.linecode.proofs.Loading.{written-loaded}
use Rattle.capi.proofs.Single.{write-given}
use Rattle.capi.proofs.sudoku_write_line.Goals as goal

pub returns : goal.returns
returns c =
    write-given c.args.payload.now c.args.line.now c.store.new.out (omega arith) (omega arith)
    (c.store.ensures
    ∙ written-loaded c.args.payload.now c.load.result c.rewrite-written.result (omega arith) c.load.ensures c.rewrite-written.ensures)
