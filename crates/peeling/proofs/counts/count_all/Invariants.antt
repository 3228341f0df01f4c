-- `peeling::counts::count_all` meets its contract: after r turns the first r rows are counted.
use Prim.Native.Nat.{◌*◌}
use Rattle.peeling.specs.Lent.{CountedBy, faulty_before, Sides}
use Rattle.peeling.proofs.counts.count_all.Given as goal

abbrev pub invariant-loop-r : goal.invariant-loop-r
invariant-loop-r l =
    Sides l.sides.rows l.sides.columns l.faulty × CountedBy l.sides.rows l.sides.columns (faulty_before l.marks (l.r * l.sides.columns)) l.faulty
