-- `tables::Piece::all_untouched` meets its contract: before line i the first i lines read as they stand.
use mathlib.Core.Path.{sym, ap}
use native.Mathlib.Omega.{arith}
use Rattle.linecode.specs.declared.alone.Reading.{Reading}
use Rattle.rectangle.proofs.LineLayer.{read_at}
use Rattle.tables.proofs.Pieces.{piece-stands, piece-ends}
use Rattle.tables.proofs.Piece.all_untouched.Goals as goal

pub loop-i-preserved : goal.loop-i-preserved
loop-i-preserved c =
    let read = read_at _ _ _ _ c.line.ensures (sym (c.is_untouched.ensures c.if-not-is_untouched.false)) in
    piece-stands _ _ _ c.loop-i.invariant _ c.line.ensures (ap (λ (r : Reading). r.line) read) (ap (λ (r : Reading). r.mark) read)

pub returns : goal.returns
returns c = λ z. piece-ends _ _ _ c.loop-i.i _ c.loop-i.invariant (omega arith)
