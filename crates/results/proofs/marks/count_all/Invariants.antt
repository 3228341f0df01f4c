-- `results::marks::count_all` meets its contract.
use Prim.Native.Nat.{◌*◌}
use Rattle.results.proofs.Pieces.{SoFar}
use Rattle.results.proofs.marks.count_all.Given as goal

abbrev pub invariant-loop-piece : goal.invariant-loop-piece
invariant-loop-piece l = SoFar l.fn.marks l.counts (l.piece-index * 192)
