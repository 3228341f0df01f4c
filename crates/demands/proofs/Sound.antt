-- Whatever was damaged: the lines that repair hands over with another mark than 4 are correct, and with answer 0 they agree with the
-- tables handed over.
use mathlib.Core.Path.{◌≡◌, refl, sym, ap, ◌∙◌}
use mathlib.Core.Bool.{Bool, true, false}
use mathlib.Core.List.{List, map}
use Prim.Native.Nat.{ℕ, ◌*◌, ◌<◌}
use native.Mathlib.Nat.{zero-add}
use native.Mathlib.Omega.{arith}
use borrow.Author.Tests.{eqb-false}
use lib.ListN.{length, get_or, length-map}
use Rattle.linecode.specs.Places.{line_places, line_bytes, places, line_of}
use Rattle.linecode.specs.Code.{up_from}
use Rattle.scheme.specs.Layer.{Cell, CorrectLine}
use Rattle.scheme.specs.Visit.{Group, cell_at, sum}
use Rattle.scheme.specs.Repair.{lines_of}
use Rattle.scheme.specs.Parity.{unusable, no_lines}
use Rattle.scheme.specs.Demand3.{◌∈◌}
use Rattle.scheme.proofs.Grows.{none-counted}
use Rattle.scheme.proofs.Sound.{repair-sound}
use Rattle.scheme.proofs.Sums.{sum-ext}
use Rattle.rectangle.specs.Store.{line_layer, bytes_at, places_at, alone_at, row_group, column_group}
use Rattle.rectangle.specs.Tables.{row_parity, column_parity}
use Rattle.rectangle.specs.Repair.{Buffers, used_groups, repaired_by, hands_over, handed_over}
use Rattle.rectangle.proofs.Buffer.{length-holds, length-buffer_of}
use Rattle.rectangle.proofs.Groups.{row_listed, column-listed}
use Rattle.rectangle.proofs.LineLayer.{kept}
use Rattle.rectangle.proofs.Members.{length-up_from, map-up_from}
use Rattle.rectangle.proofs.Spare.{places-line_of}
use Rattle.rectangle.proofs.Tests.{lengths-tables}
use Rattle.demands.specs.Demands.{Rectangle, count, repair_of, groups_of}
use Rattle.demands.specs.Cells.{TableGiven, GivenCorrect, WholeAfterZero}
use Rattle.demands.proofs.Refused.{answer-none, handed, sizes}
use Rattle.demands.proofs.Handed.{found, end, end-length, within, within_end, mark-handed, some-columns, all-places, places-given}
use Rattle.demands.proofs.Cells.{all_of, answer-given, inside, some-line, sum-places, tables_given, accepted_compared}
use Rattle.demands.proofs.Parity.{alone-correct, correct-accepted}

module _ (r : Rectangle) (b : Buffers) (over : hands_over (repair_of r b).answer ≡ true) (n : ℕ) (h : n < count r) where
  mark-given : get_or (repair_of r b).marks n 4 ≡ (cell_at (end r) n).mark
  unfolding end handed_over
  mark-given = rw (handed r b over) (mark-handed (end r) n (within_end r n h) 4)

  given-correct : ((cell_at (end r) n).mark ≡ 4 → ⊥) → CorrectLine line_layer n (places_at (repair_of r b).lines n)
  unfolding end found repaired_by used_groups
  given-correct d =
      rw (places-given kept r b over n h)
      ((repair-sound line_layer kept).lines (all_of r) (found r) (all-places kept r b over) n (within r n h) d)

pub given_correct : GivenCorrect
given_correct r b over n h d = given-correct r b over n h (λ e. d (mark-given r b over n h ∙ e))

-- ---- answer 0
module _ (r : Rectangle) (b : Buffers) (whole : (repair_of r b).answer ≡ 0) where
  over : hands_over (repair_of r b).answer ≡ true
  unfolding hands_over
  over = ap hands_over whole

  not-eleven : (repair_of r b).answer ≡ 11 → ⊥
  not-eleven e = omega arith

  all-correct : (n : ℕ) → n < count r → CorrectLine line_layer n (places_at (repair_of r b).lines n)
  all-correct n h =
      given-correct r b over n h
      (eqb-false _ 4
      (none-counted (end r) (answer-none (groups_of r) (end r) (λ e. not-eleven (answer-given r b over ∙ e))) n))

  -- the table of any of the groups
  module _ (group : ℕ → Group) (total : ℕ) (listed : (k : ℕ) → k < total → group k ∈ all_of r) (table : List ℕ)
      (given : TableGiven (map group (up_from 0 total)) (repair_of r b).lines table (repair_of r b).answer) where
    length-groups : length (map group (up_from 0 total)) ≡ total
    length-groups = length-map (up_from 0 total) group ∙ length-up_from 0 total

    table-length : length table ≡ total * line_bytes
    table-length = given.bytes ∙ ap (λ (k : ℕ). k * line_bytes) length-groups

    module _ (k : ℕ) (h : k < total) where
      here : get_or (map group (up_from 0 total)) k no_lines ≡ group k
      here = map-up_from group 0 total k no_lines h ∙ ap group (zero-add k)

      -- made afresh or accepted, it is the sum of its group's lines
      sum-bytes : (lost : Bool) → unusable line_layer (group k) ≡ lost
          → bytes_at table k ≡ line_of (sum (places_at (repair_of r b).lines) (group k).members)
      sum-bytes true u = (rw here at (given.afresh not-eleven k (omega (arith, length-groups)))) u
      sum-bytes false u =
          (rw here at (given.accepted k (omega (arith, length-groups)))) u
          ∙ ap line_of (sym (accepted_compared.agree r b whole (group k) (listed k h) u))

      sum-alone : places_at table k ≡ sum (λ n. (alone_at (repair_of r b).lines n).line) (group k).members
      unfolding places_at
      sum-alone =
          let m = some-line r b over (group k) (listed k h) in
          let correct : (n : ℕ) → n ∈ (group k).members → CorrectLine line_layer n (places_at (repair_of r b).lines n) =
          λ n i. all-correct n (inside r b over (group k) (listed k h) n i) in
          ap places (sum-bytes _ refl)
          ∙ places-line_of _ (sum-places line_places _ (group k).members m.0 m.1 (λ n i. kept.sized _ _ (correct n i)))
          ∙ sum-ext _ _ (group k).members (λ n i. sym (alone-correct kept (repair_of r b).lines n (correct n i)))

  handed-bytes : length (repair_of r b).lines ≡ count r * line_bytes
  unfolding end handed_over
  handed-bytes =
      rw (handed r b over)
      (length-buffer_of (lines_of (end r))
      ∙ ap (λ (k : ℕ). k * line_bytes) (length-map (end r) (λ (c : Cell). c.line) ∙ end-length r))

pub whole_after_zero : WholeAfterZero
unfolding row_parity column_parity
whole_after_zero r b e =
    record {
      sides = (sizes r b (over r b e)).sides;
      line_bytes = length-holds (count r) (repair_of r b).lines (handed-bytes r b e);
      table_bytes = lengths-tables r.rows r.columns (repair_of r b).row_table (repair_of r b).column_table
          (table-length r b e rows r.rows row_in (repair_of r b).row_table rows_given)
          (table-length r b e columns r.columns column-in (repair_of r b).column_table columns_given);
      accepted = λ n h. correct-accepted kept (repair_of r b).lines n (all-correct r b e n h);
      row_table = sum-alone r b e rows r.rows row_in (repair_of r b).row_table rows_given;
      column_table = sum-alone r b e columns r.columns column-in (repair_of r b).column_table columns_given;
    }
  where
    rows : ℕ → Group
    rows = row_group r.columns r.row_table

    columns : ℕ → Group
    columns = column_group r.rows r.columns r.column_table

    row_in : (k : ℕ) → k < r.rows → rows k ∈ all_of r
    row_in = row_listed r.rows r.columns (some-columns kept r b (over r b e)) r.row_table r.column_table

    column-in : (k : ℕ) → k < r.columns → columns k ∈ all_of r
    column-in = column-listed r.rows r.columns (some-columns kept r b (over r b e)) r.row_table r.column_table

    rows_given : TableGiven (map rows (up_from 0 r.rows)) (repair_of r b).lines (repair_of r b).row_table (repair_of r b).answer
    rows_given = tables_given.rows r b (over r b e)

    columns_given : TableGiven (map columns (up_from 0 r.columns)) (repair_of r b).lines (repair_of r b).column_table (repair_of r b).answer
    columns_given = tables_given.columns r b (over r b e)
