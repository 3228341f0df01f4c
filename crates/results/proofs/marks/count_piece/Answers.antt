-- `results::marks::count_piece` meets its contract.
use Rattle.results.proofs.Counting.{counting-step, counting-end, counts-are}
use Rattle.results.proofs.marks.count_piece.Goals as goal

pub loop-mark-preserved : goal.loop-mark-preserved
loop-mark-preserved c = (
  counting-step _ _ _ _ c.loop-mark.invariant.0 c.loop-mark-test.true _ c.from-clean.ensures,
  counting-step _ _ _ _ c.loop-mark.invariant.1 c.loop-mark-test.true _ c.from-alone.ensures,
  counting-step _ _ _ _ c.loop-mark.invariant.2 c.loop-mark-test.true _ c.from-trial.ensures,
  counting-step _ _ _ _ c.loop-mark.invariant.3 c.loop-mark-test.true _ c.from-rebuilt.ensures,
  counting-step _ _ _ _ c.loop-mark.invariant.4 c.loop-mark-test.true _ c.from-faulty.ensures,
)

pub returns : goal.returns
returns c =
    rw (c.from.ensures, c.from-2.ensures, c.from-3.ensures, c.from-4.ensures, c.from-5.ensures)
    (counts-are c.args.marks.now _ _ _ _ _
    (counting-end _ _ _ _ c.loop-mark.invariant.0 c.loop-mark-test.false)
    (counting-end _ _ _ _ c.loop-mark.invariant.1 c.loop-mark-test.false)
    (counting-end _ _ _ _ c.loop-mark.invariant.2 c.loop-mark-test.false)
    (counting-end _ _ _ _ c.loop-mark.invariant.3 c.loop-mark-test.false)
    (counting-end _ _ _ _ c.loop-mark.invariant.4 c.loop-mark-test.false))
