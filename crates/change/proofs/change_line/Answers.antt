-- `change::change_line` meets its contract: a refusal, or the line and its two parity lines written.
use mathlib.Core.Path.{◌≡◌, sym, ap₂, ◌∙◌}
use Rattle.linecode.specs.Places.{places, line_of}
use Rattle.rectangle.specs.Change.{new_line, difference, add_to}
use Rattle.rectangle.proofs.LineLayer.{rewrites}
use Rattle.rectangle.proofs.Numbers.{handed-on, number-not-zero}
use Rattle.change.proofs.Refusing.{line-room, row_room, column-room, change-passed, change-refused, change-made}
use Rattle.change.proofs.Changing.{put-new, both-places}
use Rattle.change.proofs.change_line.Goals as goal

pub returns-in_err-sides : goal.returns-in_err-sides
returns-in_err-sides c =
    let on = handed-on c.from_residual.result _ c.from_residual.ensures.1 in
    rw (on.0, on.1) (change-refused _ _ _ _ _ _ _ _ _ c.in_err-sides.ensures.answer (number-not-zero _) c.in_err-sides.ensures.number)

pub put_line-requires : goal.put_line-requires
put_line-requires c =
    let p = change-passed _ _ _ _ _ _ _ (sym c.in_ok-sides.ensures.answer) in line-room _ _ _ _ _ p.sizes _ p.inside

pub add_to_row-requires : goal.add_to_row-requires
add_to_row-requires c =
    let p = change-passed _ _ _ _ _ _ _ (sym c.in_ok-sides.ensures.answer) in row_room _ _ _ _ _ p.sizes _ p.inside _ (rw c.in_ok-sides.ensures.sides.1 at c.row_of.ensures)

pub add_to_column-requires : goal.add_to_column-requires
add_to_column-requires c =
    let p = change-passed _ _ _ _ _ _ _ (sym c.in_ok-sides.ensures.answer) in column-room _ _ _ _ _ p.sizes _ p.inside _ (rw c.in_ok-sides.ensures.sides.1 at c.column_of.ensures)

pub returns : goal.returns
returns c =
    let none = sym c.in_ok-sides.ensures.answer in
    let p = change-passed _ _ _ _ _ _ _ none in
    let new : c.rewrite-new.result ≡ line_of (new_line c.args.n c.args.payload.now) =
    rewrites c.args.n c.args.payload.now p.payload_bytes c.load.result _ c.load.ensures c.rewrite-new.ensures in
    let both : places c.xor_lines-both.result ≡ difference c.args.lines.now c.args.n c.args.payload.now =
    both-places c.args.lines.now c.args.n c.args.payload.now p.payload_bytes c.in_ok-sides.old c.rewrite-new.result _
    (line-room _ _ _ _ _ p.sizes _ p.inside) c.in_ok-sides.ensures.line new c.xor_lines-both.ensures in
    change-made c.args.rows c.args.columns c.args.lines.now c.args.row_table.now c.args.column_table.now c.args.n c.args.payload.now
    _ _ _ none
    (put-new c.args.lines.now c.args.n c.args.payload.now p.payload_bytes c.rewrite-new.result _ new c.put_line.ensures)
    (c.add_to_row.ensures ∙ ap₂ (add_to c.args.row_table.now) (rw c.in_ok-sides.ensures.sides.1 at c.row_of.ensures) both)
    (c.add_to_column.ensures ∙ ap₂ (add_to c.args.column_table.now) (rw c.in_ok-sides.ensures.sides.1 at c.column_of.ensures) both)
