-- `parity::read` meets its contract: after k turns the first k parity lines are read.
use Rattle.std.proofs.Common.{◌≡◌, ℕ, ◌*◌, length}
use Rattle.scheme.specs.Visit.{Group}
use Rattle.scheme.specs.Parity.{read_parity}
use Rattle.rectangle.specs.Store.{line_layer}
use Rattle.parity.specs.Lent.{ParitiesIn, start_of}
use Rattle.parity.proofs.Tables.{Filled, Marked}
use Rattle.parity.proofs.read.Given as goal

abbrev pub invariant-loop-k : goal.invariant-loop-k
invariant-loop-k g l = record {
  whole : length l.lacks ≡ (g.I.Direction.total l.rows l.columns) * 70;
  long : length l.parity_marks ≡ 1024;
  done : (groups : ℕ → Group) → ParitiesIn l.parity_table (g.I.Direction.total l.rows l.columns) groups
      → Filled (λ k. start_of (groups k)) (g.I.Direction.total l.rows l.columns) l.initial.lacks l.lacks l.k
      × Marked (λ k. (read_parity line_layer (groups k)).mark) (g.I.Direction.first l.rows) l.initial.parity_marks l.parity_marks l.k;
}
