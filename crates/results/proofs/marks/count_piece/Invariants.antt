-- `results::marks::count_piece` meets its contract.
use Rattle.results.proofs.Counting.{Counting}
use Rattle.results.proofs.marks.count_piece.Given as goal

abbrev pub invariant-loop-mark : goal.invariant-loop-mark
invariant-loop-mark l =
    (Counting l.marks 0 l.clean l.mark-index)
    × (Counting l.marks 1 l.alone l.mark-index)
    × (Counting l.marks 2 l.trial l.mark-index)
    × (Counting l.marks 3 l.rebuilt l.mark-index)
    × (Counting l.marks 4 l.faulty l.mark-index)
