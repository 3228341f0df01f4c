-- `peeling::counts::rebuild` meets its contract.
use mathlib.Core.Path.{refl, ◌∙◌}
use Rattle.peeling.proofs.Touching.{row_listed, column-listed, row-counted, column-counted, line-rebuilt}
use native.Mathlib.Omega.{arith}
use Rattle.peeling.proofs.counts.rebuild.Goals as goal

pub one_less-requires : goal.one_less-requires
one_less-requires c =
    rw c.into.ensures (
      omega (arith, c.row_of-row.ensures, row_listed _ _ _ c.requires.0.sides _ c.requires.1, c.requires.0.sides.rows_high),
      c.requires.0.sides.counts,
      row-counted _ _ _ _ c.requires.0 _ c.requires.1 c.requires.2 _ c.row_of-row.ensures,
    )

pub one_less-requires-2 : goal.one_less-requires-2
one_less-requires-2 c =
    let less = rw c.into.ensures at c.one_less.ensures in
    rw c.into-2.ensures (
      omega (arith, c.column_of-column.ensures, column-listed _ _ _ c.requires.0.sides _ c.requires.1, c.requires.0.sides.rows_high, c.requires.0.sides.columns_high),
      c.one_less.auto.faulty ∙ c.requires.0.sides.counts,
      column-counted _ _ _ _ c.requires.0 _ c.requires.1 c.requires.2 _ _ _ _ c.row_of-row.ensures c.column_of-column.ensures less,
    )

pub returns : goal.returns
returns c =
    let in-row = rw c.into.ensures at c.one_less.ensures in
    let in-column = rw c.into-2.ensures at c.one_less-2.ensures in
    (refl, line-rebuilt _ _ _ _ c.requires.0 _ c.requires.1 c.requires.2 _ _ _ _ c.row_of-row.ensures c.column_of-column.ensures in-row in-column (c.one_less-2.auto.faulty ∙ c.one_less.auto.faulty))
