-- `visiting::trial` meets its contract: after i turns the first i lines of the group have tried the places.
use mathlib.Core.Path.{refl, ap, ◌∙◌}
use mathlib.Core.List.{List}
use Prim.Native.Nat.{ℕ}
use lib.ListN.{length, set}
use Rattle.linecode.proofs.Bytes.{array-length}
use Rattle.rectangle.specs.Store.{put_bytes}
use Rattle.rectangle.proofs.LineLayer.{read_as}
use Rattle.groups.proofs.Searching.{searching-next, searching-failed, searching-found, tried-line, tried-long}
use Rattle.visiting.proofs.Trying.{trying-other, trying-failed, trying-mended, retry}
use Rattle.visiting.proofs.trial.Goals as goal
use Rattle.visiting.proofs.trial.Goals.{then-marks-n-eq4+else-search-test, then-marks-n-eq4+then-search-test+then-tried-ne4, else-marks-n-eq4}

pub search-preserved : goal.search-preserved
search-preserved c = (
  c.search.invariant.0,
  c.search.invariant.1,
  searching-next _ _ _ _ c.search.invariant.2 (array-length 70 c.line_at-line.result _ c.line_at-line.type_inv) c.search-test.true _ refl _ c.flip_place.ensures _ (c.read_line-tried.ensures ∙ read_as _ _) c.if-tried-ne4.false,
)

pub loop-i-preserved : goal.loop-i-preserved
loop-i-preserved c =
    let turn = c.loop-i.invariant in
    elim c.if-marks-n-eq4.branch [
      | then-marks-n-eq4+else-search-test w ↦
          retry _ _ _ _ _ _ _ _ _ _ _ (w.out-is ∙ w.search.invariant.0) (w.marks-is ∙ w.search.invariant.1)
          (trying-failed _ _ _ _ _ _ _ _ _ turn c.loop-i-test.true _ c.line-n.ensures w.if-marks-n-eq4.true w.line_at-line.result w.line_at-line.ensures
          (searching-failed _ _ _ _ w.search.invariant.2 w.search-test.false))
      | then-marks-n-eq4+then-search-test+then-tried-ne4 w ↦
          let found = w.search.invariant in
          let full = array-length 70 w.line_at-line.result _ w.line_at-line.type_inv in
          let read = w.read_line-tried.ensures ∙ read_as _ _ in
          retry _ _ _ _ _ _ _ _ _ _ _ w.out-is (w.marks-is ∙ ap (λ (l : List ℕ). set l c.line-n.result 2) found.1)
          (trying-mended _ _ _ _ _ _ _ _ _ turn c.loop-i-test.true _ c.line-n.ensures w.if-marks-n-eq4.true w.line_at-line.result w.line_at-line.ensures _ _ _
          (tried-long _ _ _ _ found.2 full w.search-test.true _ refl _ w.flip_place.ensures _ read)
          (tried-line _ _ _ _ found.2 full w.search-test.true _ refl _ w.flip_place.ensures _ read)
          (w.put_line.ensures ∙ ap (λ (l : List ℕ). put_bytes l c.line-n.result w.read_line-tried.result.line) found.0)
          (w.put_line.auto.buffer ∙ ap length found.0)
          (searching-found _ _ _ _ found.2 full w.search-test.true _ refl _ w.flip_place.ensures _ read w.if-tried-ne4.true))
      | else-marks-n-eq4 w ↦
          retry _ _ _ _ _ _ _ _ _ _ _ w.out-is w.marks-is (trying-other _ _ _ _ _ _ _ _ _ turn c.loop-i-test.true _ c.line-n.ensures w.if-marks-n-eq4.false)
    ]
