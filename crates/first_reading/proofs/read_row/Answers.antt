-- `first_reading::read_row` meets its contract: after some turns the first c lines of the row are read and added.
use mathlib.Core.Path.{refl, sym, ap, ◌∙◌}
use mathlib.Core.List.{List, ◌++◌}
use Prim.Native.Nat.{ℕ, ◌+◌, ◌≤◌}
use Rattle.groups.proofs.Joined.{joined_length, first-at, first-put}
use Rattle.first_reading.proofs.Sweeping.{sweeping_start, sweeping_piece, sweeping_next, sweeping_end}
use native.Mathlib.Omega.{arith}
use Rattle.first_reading.proofs.read_row.Goals as goal

pub loop-c-init : goal.loop-c-init
loop-c-init c =
    let row = c.row_parity.ensures ∙ sym (first-at c.args.row_lacks.now c.args.column_lacks.now c.args.sides.rows c.requires.row.3 _ c.requires.row.1) in
    (sweeping_start _ _ _ _ _ _ _ _ _ c.requires.row.1 _ _ c.requires.room c.requires.some row c.count.ensures, c.requires.row.4)

pub add_piece-tally-requires : goal.add_piece-tally-requires
add_piece-tally-requires c =
    let inside : c.loop-c.c + c.min-count.result ≤ c.args.sides.columns =
    omega (arith, c.min-count.ensures, c.loop-c-test.true) in (
      _,
      c.requires.some.0,
      _,
      _,
      c.args.row_lacks.now,
      c.requires.row.3,
      c.loop-c.invariant.1,
      sweeping_piece _ _ _ _ _ _ _ _ _ c.requires.row.1 _ _ _ _ _ _ _ c.loop-c.invariant.0 c.requires.row.2 c.requires.row.0 _ inside _ _
          c.read_piece.auto.out c.read_piece.auto.marks c.read_piece.ensures c.requires.some.0 c.requires.some.1,
    )

pub loop-c-preserved : goal.loop-c-preserved
loop-c-preserved c =
    let inside : c.loop-c.c + c.min-count.result ≤ c.args.sides.columns =
    omega (arith, c.min-count.ensures, c.loop-c-test.true) in (
      sweeping_next _ _ _ _ _ _ _ _ _ c.requires.row.1 _ _ _ _ _ _ _ c.loop-c.invariant.0 c.requires.row.2 c.requires.row.0 _ inside _ _
          c.read_piece.auto.out c.read_piece.auto.marks c.read_piece.ensures _ _ _ _
          (joined_length c.args.row_lacks.now c.loop-c.column_lacks c.args.row_lacks.now c.add_piece-tally.new.column_lacks refl c.add_piece-tally.auto.column_lacks)
          c.add_piece-tally.auto.faulty c.requires.some (λ width parity lines k. c.add_piece-tally.ensures width parity lines k c.args.row_lacks.now c.requires.row.3),
      c.add_piece-tally.auto.column_lacks ∙ c.loop-c.invariant.1,
    )

pub returns : goal.returns
returns c =
    let last = ap (λ (l : List ℕ). l ++ c.loop-c.column_lacks) c.put_row_parity.ensures ∙ first-put c.args.row_lacks.now c.loop-c.column_lacks c.args.sides.rows c.requires.row.3 _ _ c.requires.row.1 in
    sweeping_end _ _ _ _ _ _ _ _ _ c.requires.row.1 _ _ _ _ _ _ _ c.loop-c.invariant.0 c.loop-c-test.false _ _ last c.put_count.ensures
