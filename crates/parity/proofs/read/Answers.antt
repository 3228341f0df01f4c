-- `parity::read` meets its contract: after k turns the first k parity lines are read.
use mathlib.Core.Path.{◌≡◌, sym, ap, subst, ◌∙◌}
use Prim.Native.Nat.{ℕ, ◌+◌, ◌<◌}
use native.Mathlib.Omega.{arith}
use Rattle.linecode.specs.Places.{places}
use Rattle.rectangle.specs.Store.{bytes_at, places_at, put_bytes}
use Rattle.rectangle.proofs.LineLayer.{parity-read}
use Rattle.groups.specs.Lent.{number_of}
use Rattle.parity.proofs.Tables.{filled_put, marked_next, read-mark, start-bytes}
use Rattle.parity.proofs.read.Goals as goal

pub loop-k-preserved : goal.loop-k-preserved
unfolding places_at
loop-k-preserved g c =
    let below = subst (λ (total : ℕ). c.loop-k.k < total) c.total-total.ensures c.loop-k-test.true in
    record {
      whole = c.put_parity.auto.table ∙ c.loop-k.invariant.whole;
      long = c.put_mark.auto.parity_marks ∙ c.loop-k.invariant.long;
      done = λ groups h.
          let inv = c.loop-k.invariant.done groups h in
          let found = c.parity.ensures ∙ ap (bytes_at c.args.parity_table.now) c.at-index.ensures in
          let read = c.read-read.ensures ∙ parity-read (groups c.loop-k.k) _ (h c.loop-k.k below ∙ ap places (sym found)) in
          let number : number_of c.args.rows c.which.result ≡ g.I.Direction.first c.args.rows + c.loop-k.k =
          c.which.ensures c.args.rows ∙ ap (λ (i : ℕ). g.I.Direction.first c.args.rows + i) c.at-index.ensures in
          let small : number_of c.args.rows c.which.result < 1024 = omega (arith, number, g.I.Direction.inside c.args.rows c.args.columns, c.requires.0, c.requires.1, below) in (
            filled_put _ _ _ _ _ inv.0 _ _ below
                (c.put_parity.ensures ∙ ap (λ (i : ℕ). put_bytes c.loop-k.lacks i c.start_of.result) c.at-index.ensures)
                (c.start_of.ensures ∙ start-bytes (groups c.loop-k.k) _ read),
            marked_next _ _ _ _ _ inv.1 _ _ _ number small c.put_mark.ensures (read-mark (groups c.loop-k.k) _ read),
          );
    }
