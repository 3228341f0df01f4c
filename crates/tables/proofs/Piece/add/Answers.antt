-- `tables::Piece::add` meets its contract: before line i the first i lines are added.
use mathlib.Core.Path.{ap, ◌∙◌}
use mathlib.Core.List.{List}
use Prim.Native.Nat.{ℕ, ◌+◌}
use native.Mathlib.Omega.{arith}
use Rattle.linecode.specs.Places.{xor_bytes}
use Rattle.rectangle.specs.Store.{bytes_at, put_bytes}
use Rattle.rectangle.proofs.Alone.{seventy}
use Rattle.tables.proofs.Pieces.{nth-within, adding-more}
use Rattle.tables.proofs.Piece.add.Goals as goal

pub loop-i-preserved : goal.loop-i-preserved
loop-i-preserved c =
    let held = seventy _ _ (nth-within _ _ _ _ c.loop-i-test.true c.args.self.inside) in
    let at = c.args.column.0 + c.loop-i.i in
    adding-more _ _ _ _ c.loop-i.column_sums c.args.sum c.loop-i.total c.loop-i.invariant held c.told-column_sums
    (omega arith) _ _
    (c.add_to_column_sum.ensures
    ∙ ap (λ (l : List ℕ). put_bytes c.loop-i.column_sums at (xor_bytes (bytes_at c.loop-i.column_sums at) l)) c.line-line.ensures)
    (c.xor_bytes-next.ensures ∙ ap (xor_bytes c.loop-i.total) c.line-line.ensures)
