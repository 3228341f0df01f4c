-- `groups::choose` meets its contract.
use mathlib.Core.Path.{sym, subst}
use Rattle.groups.specs.Lent.{Within}
use Rattle.groups.proofs.Numbers.{row-numbered, column-numbered}
use Rattle.groups.proofs.choose.Goals as goal

pub returns-in-Row : goal.returns-in-Row
returns-in-Row c =
    let inside = subst (Within c.args.sides.rows c.args.sides.columns) c.in-Row.is c.requires in
    (sym c.in-Row.is, record { within = inside; numbered = row-numbered _ _ c.args.sides.rows_fit.0 c.args.sides.rows_fit.1 c.args.sides.columns_fit.0 c.args.sides.columns_fit.1 _ inside })

pub returns-in-Column : goal.returns-in-Column
returns-in-Column c =
    let inside = subst (Within c.args.sides.rows c.args.sides.columns) c.in-Column.is c.requires in
    (sym c.in-Column.is, record { within = inside; numbered = column-numbered _ _ c.args.sides.rows_fit.0 c.args.sides.rows_fit.1 c.args.sides.columns_fit.0 c.args.sides.columns_fit.1 _ inside })
