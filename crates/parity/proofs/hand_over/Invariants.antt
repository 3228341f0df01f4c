-- `parity::hand_over` meets its contract: after k turns the first k parity lines are handed over.
use Rattle.std.proofs.Common.{◌≡◌, ℕ, ◌*◌, eqb, length}
use Rattle.scheme.specs.Visit.{Group, State}
use Rattle.scheme.specs.Repair.{faulty_count}
use Rattle.scheme.specs.Parity.{parity_after}
use Rattle.rectangle.specs.Store.{line_layer}
use Rattle.parity.specs.Lent.{ParitiesIn, Fresh}
use Rattle.parity.proofs.Tables.{Filled}
use Rattle.parity.proofs.hand_over.Given as goal

abbrev pub invariant-loop-k : goal.invariant-loop-k
invariant-loop-k g l = record {
  whole : length l.lacks ≡ (g.I.Direction.total l.rows l.columns) * 70;
  done : (groups : ℕ → Group) (s : State) → ParitiesIn l.parity_table (g.I.Direction.total l.rows l.columns) groups → l.whole ≡ eqb (faulty_count s) 0
      → Fresh groups (g.I.Direction.total l.rows l.columns) l.initial.lacks s
      → Filled (λ k. parity_after line_layer s (groups k)) (g.I.Direction.total l.rows l.columns) l.initial.lacks l.lacks l.k;
}
