-- `parity::hand_over` meets its contract: after k turns the first k parity lines are handed over.
use mathlib.Core.Path.{◌≡◌, sym, ap, subst, ◌∙◌}
use mathlib.Core.Bool.{◌&&◌}
use mathlib.Core.List.{List}
use Prim.Native.Nat.{ℕ, ◌+◌, ◌≤◌, ◌<◌}
use lib.Dec.{eqb}
use lib.ListN.{length, get_or}
use Rattle.linecode.specs.Entry.{reading}
use Rattle.rectangle.specs.Store.{bytes_at, places_at, put_bytes}
use Rattle.rectangle.proofs.LineLayer.{parity-read}
use Rattle.parity.proofs.Tables.{filled_put, filled-kept, filled-table, table-after, handed-read, handed-afresh}
use Rattle.parity.proofs.hand_over.Goals as goal
use Rattle.parity.proofs.hand_over.Goals.{then-not-made_afresh, else-not-made_afresh}

pub loop-k-preserved : goal.loop-k-preserved
unfolding places_at
loop-k-preserved g c =
    let below = subst (λ (total : ℕ). c.loop-k.k < total) c.total-total.ensures c.loop-k-test.true in
    let marked : c.parity_mark-mark.result ≡ (reading (bytes_at c.args.parity_table.now c.loop-k.k)).mark =
    c.parity_mark-mark.ensures
    ∙ ap (λ (i : ℕ). get_or c.args.parity_marks.now i 0)
    (c.which.ensures c.args.rows ∙ ap (λ (i : ℕ). g.I.Direction.first c.args.rows + i) c.at-index.ensures)
    ∙ c.requires.marked _ below in
    let found = bytes_at c.args.parity_table.now c.loop-k.k in
    let made = ap (λ (m : ℕ). eqb m 4 && c.args.whole) (sym marked) ∙ sym {b = eqb c.parity_mark-mark.result 4 && c.args.whole} c.made_afresh.ensures in
    elim c.if-not-made_afresh.branch [
      | then-not-made_afresh w ↦ record {
        whole = ap length w.lacks-is ∙ w.put_parity.auto.table ∙ c.loop-k.invariant.whole;
        done = λ groups s h e fresh.
            let read = parity-read (groups c.loop-k.k) found (h c.loop-k.k below) in
            filled_put _ _ _ _ _ (c.loop-k.invariant.done groups s h e fresh) _ _ below
            (w.lacks-is
            ∙ w.put_parity.ensures
            ∙ ap (λ (i : ℕ). put_bytes c.loop-k.lacks i w.read_again-parity.result) c.at-index.ensures)
            (w.read_again-parity.ensures
            ∙ ap (λ (l : List ℕ). (reading l).line) (w.parity.ensures ∙ ap (bytes_at c.args.parity_table.now) c.at-index.ensures)
            ∙ handed-read _ (reading found) read s c.args.whole e (made ∙ w.if-not-made_afresh.true));
      }
      | else-not-made_afresh w ↦ record {
        whole = ap length w.lacks-is ∙ c.loop-k.invariant.whole;
        done = λ groups s h e fresh.
            let read = parity-read (groups c.loop-k.k) found (h c.loop-k.k below) in
            filled-kept _ _ _ _ _ (c.loop-k.invariant.done groups s h e fresh) _ below w.lacks-is
            (handed-afresh _ (reading found) read s c.args.whole e (made ∙ w.if-not-made_afresh.false) _ _
            (fresh c.loop-k.k below));
      }
    ]

pub returns : goal.returns
returns g c =
    λ groups s h e fresh.
    table-after s groups _ _ (filled-table _ _ _ _ _ (c.loop-k.invariant.done groups s h e fresh) (subst (λ (total : ℕ). total ≤ c.loop-k.k) c.total-total.ensures c.loop-k-test.false))
