-- `results::marks::count_all` meets its contract.
use mathlib.Core.Path.{◌∙◌}
use native.Mathlib.Omega.{arith}
use Rattle.results.proofs.Pieces.{so-far-start, so-far-fits, so-far-step, so-far-rest-fits, so-far-end}
use Rattle.results.proofs.marks.count_all.Goals as goal

pub loop-piece-init : goal.loop-piece-init
loop-piece-init c =
    so-far-start c.args.marks.now _ (omega arith) (omega arith) (omega arith) (omega arith) (omega arith)

pub add-counts-requires : goal.add-counts-requires
add-counts-requires c =
    let fits = so-far-fits _ _ _ c.loop-piece.invariant _ c.as_chunks.ensures.front _ (omega arith) c.count_piece.ensures in omega arith

pub loop-piece-preserved : goal.loop-piece-preserved
loop-piece-preserved c =
    so-far-step _ _ _ c.loop-piece.invariant _ c.as_chunks.ensures.front _ (omega arith) c.count_piece.ensures _ c.add-counts.ensures

pub add-requires : goal.add-requires
add-requires c =
    let fits = so-far-rest-fits c.args.marks.now _ _ c.loop-piece.invariant (omega arith) _ (rw c.as_chunks.ensures.back at c.count_piece-2.ensures) in
    omega arith

pub returns : goal.returns
returns c =
    c.add.ensures
    ∙ so-far-end c.args.marks.now _ _ c.loop-piece.invariant (omega arith) _ (rw c.as_chunks.ensures.back at c.count_piece-2.ensures)
