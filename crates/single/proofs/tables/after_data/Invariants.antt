-- `single::tables::after_data` meets its contract. A turn takes in the first or the second eight of sixteen bytes.
use Prim.Native.Nat.{◌*◌}
use Rattle.single.proofs.Steps.{Fed}
use Rattle.single.proofs.tables.after_data.Given as goal

abbrev pub invariant-loop-k : goal.invariant-loop-k
invariant-loop-k l = Fed l.line l.kept l.r (8 * l.k)
