-- `sweep::block` meets its contract: after k turns the entries of the last k bytes are added.
use mathlib.Core.Path.{◌≡◌}
use Prim.Native.Nat.{◌-◌}
use lib.ListN.{drop}
use Rattle.register.proofs.Slicing.{late}
use Rattle.register.proofs.TableRule.{entry_of}
use Rattle.sweep.proofs.block.Given as goal

abbrev pub invariant-loop-k : goal.invariant-loop-k
invariant-loop-k l = l.sum ≡ late (entry_of l.table.entries.now) (drop (16 - l.k) l.bytes)
