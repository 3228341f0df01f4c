-- `mending::visit::mend` meets its contract.
use mathlib.Core.Path.{refl, ap, ◌∙◌}
use mathlib.Core.List.{List, ◌++◌}
use Prim.Native.Nat.{ℕ, ◌<◌}
use Rattle.groups.proofs.Joined.{first-added, second-added}
use Rattle.mending.proofs.Mended.{row_listed, column-listed, row-counted, column-counted, mended-as}
use native.Mathlib.Omega.{arith}
use Rattle.mending.proofs.visit.mend.Goals as goal

pub one_less-requires : goal.one_less-requires
one_less-requires c =
    rw c.into.ensures (
      omega (arith, c.row_of-row.ensures, row_listed _ _ _ _ _ _ c.requires.ready.room _ c.requires.faulty.0, c.requires.ready.room.rect.rows_high),
      c.requires.ready.room.counts,
      row-counted _ _ _ _ _ _ c.requires.ready.room _ c.requires.faulty.0 c.requires.ready.held c.requires.faulty.1 _ c.row_of-row.ensures,
    )

pub one_less-requires-2 : goal.one_less-requires-2
one_less-requires-2 c =
    let less = rw c.into.ensures at c.one_less.ensures in
    rw c.into-2.ensures (
      omega (arith, c.column_of-column.ensures, column-listed _ _ _ _ _ _ c.requires.ready.room _ c.requires.faulty.0, c.requires.ready.room.rect.rows_high, c.requires.ready.room.rect.columns_high),
      c.one_less.auto.faulty ∙ c.requires.ready.room.counts,
      column-counted _ _ _ _ _ _ c.requires.ready.room _ c.requires.faulty.0 c.requires.ready.held c.requires.faulty.1 _ _ _ c.row_of-row.ensures c.column_of-column.ensures less,
    )

pub returns : goal.returns
returns c =
    let row : c.row_of-row.result.0 < c.args.sides.rows = omega (arith, c.row_of-row.ensures, row_listed _ _ _ _ _ _ c.requires.ready.room _ c.requires.faulty.0) in
    let first = ap (λ (l : List ℕ). l ++ c.args.column_lacks.now) c.add_to_row_sum.ensures ∙ first-added c.args.row_lacks.now c.args.column_lacks.now c.args.sides.rows c.requires.ready.row_bytes _ _ row in
    let second = ap (λ (l : List ℕ). c.add_to_row_sum.new.row_sums ++ l) c.add_to_column_sum.ensures ∙ second-added c.add_to_row_sum.new.row_sums c.args.column_lacks.now c.args.sides.rows (c.add_to_row_sum.auto.row_sums ∙ c.requires.ready.row_bytes) _ _ in
    let in-row = rw c.into.ensures at c.one_less.ensures in
    let in-column = rw c.into-2.ensures at c.one_less-2.ensures in
    λ parity s w carried long line-is.
    mended-as _ _ _ _ _ _ c.requires.ready.room _ c.requires.faulty.0 parity s carried c.requires.faulty.1 w _ long c.requires.faulty.2 _ _ _ c.line_at.ensures line-is
    c.xor_lines-change.ensures _ _ _ _ _ _ _ _ c.row_of-row.ensures c.column_of-column.ensures c.put_line.ensures refl first in-row
    second in-column
