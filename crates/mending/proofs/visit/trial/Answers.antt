-- `mending::visit::trial` meets its contract: after i turns the first i lines of the group have tried the places.
use native.Mathlib.Omega.{arith}
use mathlib.Core.Path.{refl, ap, ap₂, ◌∙◌}
use mathlib.Core.List.{List, ◌++◌}
use Prim.Native.Nat.{ℕ}
use lib.ListN.{length, get_or}
use Rattle.linecode.proofs.Bytes.{array-length}
use Rattle.rectangle.proofs.LineLayer.{read_as}
use Rattle.groups.specs.Lent.{Room, Some}
use Rattle.groups.proofs.Searching.{searching-next, searching-failed, searching-found, tried-line, tried-long}
use Rattle.mending.proofs.Trying.{trying-some, trying-other, trying-failed, trying-mended, trying-end, below, four, retry, recarry}
use Rattle.groups.proofs.Joined.{joined_length}
use Rattle.groups.proofs.Rooms.{same-room}
use Rattle.mending.proofs.visit.trial.Goals as goal
use Rattle.mending.proofs.visit.trial.Goals.{then-marks-n-eq4+else-search-test, then-marks-n-eq4+then-search-test+then-tried-ne4, else-marks-n-eq4}

pub mend-requires : goal.mend-requires
mend-requires c =
    let same = c.search.invariant in
    let lacks = ap₂ (λ (x y : List ℕ). x ++ y) same.2 same.3 in
    record {
      ready = record {
        room = four (Room _ _) _ _ _ _ _ _ _ _ same.0 same.1 lacks same.4 c.loop-i.invariant.room;
        held = four (Some _ _) _ _ _ _ _ _ _ _ same.0 same.1 lacks same.4 (trying-some _ _ _ _ _ _ _ _ _ _ _ _ _ _ _ c.loop-i.invariant c.requires.ready.held);
        row_bytes = ap length same.2 ∙ c.loop-i.auto.row_lacks ∙ c.requires.ready.row_bytes;
        column_bytes = ap length same.3 ∙ c.loop-i.auto.column_lacks ∙ c.requires.ready.column_bytes;
      };
      faulty = (below _ _ _ _ _ _ _ _ _ _ _ _ _ _ _ c.loop-i.invariant c.loop-i-test.true _ c.line-n.ensures, ap (λ (l : List ℕ). get_or l c.line-n.result 0) same.1 ∙ c.if-marks-n-eq4.true, omega arith);
    }

pub search-preserved : goal.search-preserved
search-preserved c =
    let same = c.search.invariant in (
      same.0,
      same.1,
      same.2,
      same.3,
      same.4,
      searching-next _ _ _ _ same.5 (array-length 70 c.line_at-line.result _ c.line_at-line.type_inv) c.search-test.true _ refl _ c.flip_place.ensures _ (c.read-tried.ensures ∙ read_as _ _) c.if-tried-ne4.false,
    )

pub loop-i-preserved : goal.loop-i-preserved
loop-i-preserved c =
    let turn = c.loop-i.invariant in
    elim c.if-marks-n-eq4.branch [
      | then-marks-n-eq4+else-search-test w ↦
          let found = w.search.invariant in
          retry _ _ _ _ _ _ _ _ _ _ _ _ _ _ _ _ _ _ _ (w.out-is ∙ found.0) (w.marks-is ∙ found.1)
          (ap₂ (λ (x y : List ℕ). x ++ y) (w.row_lacks-is ∙ found.2) (w.column_lacks-is ∙ found.3)) (w.faulty-is ∙ found.4)
          (trying-failed _ _ _ _ _ _ _ _ _ _ _ _ _ _ _ turn c.loop-i-test.true _ c.line-n.ensures w.if-marks-n-eq4.true w.line_at-line.result w.line_at-line.ensures
          (searching-failed _ _ _ _ found.5 w.search-test.false))
      | then-marks-n-eq4+then-search-test+then-tried-ne4 w ↦
          let found = w.search.invariant in
          let kept = w.mend.auto in
          let full = array-length 70 w.line_at-line.result _ w.line_at-line.type_inv in
          let read = w.read-tried.ensures ∙ read_as _ _ in
          let lacks = ap₂ (λ (x y : List ℕ). x ++ y) found.2 found.3 in
          let long = joined_length c.loop-i.row_lacks c.loop-i.column_lacks w.mend.new.row_lacks w.mend.new.column_lacks (kept.row_lacks ∙ ap length found.2) (kept.column_lacks ∙ ap length found.3) in
          retry _ _ _ _ _ _ _ _ _ _ _ _ _ _ _ _ _ _ _ w.out-is w.marks-is (ap₂ (λ (x y : List ℕ). x ++ y) w.row_lacks-is w.column_lacks-is) w.faulty-is
          (trying-mended _ _ _ _ _ _ _ _ _ _ _ _ _ _ _ turn c.loop-i-test.true _ c.line-n.ensures w.if-marks-n-eq4.true w.line_at-line.result w.line_at-line.ensures _ _ _ _ _ _
          (tried-long _ _ _ _ found.5 full w.search-test.true _ refl _ w.flip_place.ensures _ read)
          (tried-line _ _ _ _ found.5 full w.search-test.true _ refl _ w.flip_place.ensures _ read)
          (same-room _ _ _ _ _ _ _ _ _ _ turn.room (kept.out ∙ ap length found.0) (kept.marks ∙ ap length found.1) long (kept.faulty ∙ ap length found.4))
          (λ parity s x h. w.mend.ensures parity s x (recarry _ _ _ _ _ _ _ _ _ _ _ _ found.0 found.1 lacks found.4 h))
          (searching-found _ _ _ _ found.5 full w.search-test.true _ refl _ w.flip_place.ensures _ read w.if-tried-ne4.true))
      | else-marks-n-eq4 w ↦
          retry _ _ _ _ _ _ _ _ _ _ _ _ _ _ _ _ _ _ _ w.out-is w.marks-is (ap₂ (λ (x y : List ℕ). x ++ y) w.row_lacks-is w.column_lacks-is) w.faulty-is
          (trying-other _ _ _ _ _ _ _ _ _ _ _ _ _ _ _ turn c.loop-i-test.true _ c.line-n.ensures w.if-marks-n-eq4.false)
    ]

pub returns : goal.returns
returns c = trying-end _ _ _ _ _ _ _ _ _ _ _ _ _ _ _ c.loop-i.invariant c.loop-i-test.false
