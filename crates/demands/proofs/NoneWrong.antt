-- Within the damage bounds, whatever the order, no line of a rectangle is mended into another, and no parity line is left a wrong one.
use mathlib.Core.Path.{◌≡◌, sym, ap, subst, ◌∙◌}
use mathlib.Core.List.{List}
use Prim.Native.Nat.{ℕ, ◌<◌}
use native.Mathlib.Omega.{arith}
use borrow.Author.Tests.{ne_eqb}
use lib.ListN.{length, get_or}
use Rattle.linecode.specs.Places.{line_of}
use Rattle.scheme.specs.Layer.{read_line, Promises}
use Rattle.scheme.specs.Visit.{Group, State, cell_at}
use Rattle.scheme.specs.Repair.{faulty_count, repair, marks_of, answer}
use Rattle.scheme.specs.Demand3 as Scheme
use Rattle.scheme.proofs.NoneWrong.{none-wrong}
use Rattle.rectangle.specs.Store.{line_layer, lines_in}
use Rattle.rectangle.specs.Repair.{repaired_by, handed_over}
use Rattle.demands.specs.Demands.{Rectangle, count, repair_of, Room, groups_of, steps_on, Written, WithinBounds, NoneWrong, NoWrongLine}
use Rattle.rectangle.proofs.Buffer.{lines_in-at}
use Rattle.demands.proofs.Handed.{line-handed, mark-handed, within_end}
use Rattle.demands.proofs.Handed as Handed
use Rattle.demands.proofs.Written.{words_of}
use Rattle.demands.proofs.Damaged as Damaged
use Rattle.demands.proofs.Order.{received, rows-damaged, columns-damaged, bounded, same-damage}
use Rattle.demands.proofs.Demand3.{same-sides, groups-rise, groups-written, right-lines, runs-through}

-- 11 is answered where faulty lines are left
eleven : (gs : List Group) (s : State) → (faulty_count s ≡ 0 → ⊥) → answer gs s ≡ 11
unfolding answer
eleven gs s d = rw (ne_eqb (faulty_count s) 0 d)

module _ (promises : Promises line_layer) (w : Rectangle) (written : Written w) (lines row_table column_table : List ℕ)
    (bounds : WithinBounds w (received w lines row_table column_table)) where
  abbrev r : Rectangle
  r = received w lines row_table column_table

  abbrev end : State
  end = (steps_on r).cells

  -- the scheme's statement, over places
  steps : Scheme.NoneWrong (groups_of r) (words_of w) (lines_in (count w) lines)
      (repair (read_line line_layer) (groups_of r) (lines_in (count w) lines))
  steps =
      none-wrong line_layer promises (groups_of r) (groups-rise promises w written lines row_table column_table bounds) (words_of w)
      (lines_in (count w) lines) (groups-written promises w written lines row_table column_table bounds)
      (bounded promises w written lines row_table column_table bounds)

  module _ (n : ℕ) (h : n < count w) where
    inside : n < length end
    unfolding Handed.end
    inside = within_end r n h

    marked : get_or (marks_of end) n 0 ≡ 4 → (cell_at end n).mark ≡ 4
    marked e = sym (mark-handed end n inside 0) ∙ e

  none-wrong-handed : NoneWrong w r (handed_over line_layer w.rows w.columns row_table column_table (steps_on r))
  unfolding handed_over repaired_by
  none-wrong-handed =
      record {
        answers = steps.answers;
        as_written = λ n h d.
            line-handed end n (inside n h)
            ∙ ap line_of (steps.as_written n (λ e. d (mark-handed end n (inside n h) 0 ∙ e)) ∙ lines_in-at (count w) w.lines n h)
            ∙ sym (Damaged.own_line (count w) w.lines written.lines n h);
        as_found = λ n h e.
            line-handed end n (inside n h)
            ∙ ap line_of (steps.as_received n (marked n h e) ∙ lines_in-at (count w) lines n h);
        damaged = λ n h e.
            omega (
              arith,
              steps.damaged n (marked n h e),
              same-damage promises w written lines row_table column_table bounds n h,
            );
        row_table =
            Damaged.none-wrong promises (rows-damaged promises w written lines row_table column_table bounds) end
            (right-lines promises w written lines row_table column_table bounds) _ (eleven (groups_of r) end);
        column_table =
            Damaged.none-wrong promises (columns-damaged promises w written lines row_table column_table bounds) end
            (right-lines promises w written lines row_table column_table bounds) _ (eleven (groups_of r) end);
      }

pub no_wrong_line : Promises line_layer → NoWrongLine
no_wrong_line promises w r written bounds b room =
    subst (λ (s : Rectangle). WithinBounds w s → Room s b → NoneWrong w s (repair_of s b))
    (sym (same-sides w r bounds.shape.rows bounds.shape.columns))
    (λ d o.
    rw (runs-through promises w written r.lines r.row_table r.column_table d b o)
    (none-wrong-handed promises w written r.lines r.row_table r.column_table d))
    bounds room
