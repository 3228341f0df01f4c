-- `wear::adding::add` meets its contract.
use mathlib.Core.Path.{◌≡◌, sym, ap, ◌∙◌}
use borrow.Author.Tests.{eqb-true}
use lib.Dec.{eqb}
use lib.ListN.{length}
use Rattle.std.proofs.lemmas.Result.{err_from_is_err_and}
use Rattle.results.specs.Marks.{total}
use Rattle.results.specs.declared.marks.Counts.{Counts}
use Rattle.rectangle.specs.declared.answers.Refusal.TheVariants.{NoReport}
use Rattle.wear.proofs.OneMore.{not_over, not_taken, takes-report, takes-most, no-marks, taken}
use Rattle.wear.proofs.adding.add.Goals as goal

pub returns-in_err-outcome : goal.returns-in_err-outcome
returns-in_err-outcome c =
    let none = c.in_err-outcome.ensures.ok_part in
    let p = err_from_is_err_and c.from_residual.result c.from_residual.ensures.1 in
    let is = rw none at c.in_err-outcome.ensures.value in
    let refusal : c.in_err-outcome.field-0.0 ≡ NoReport = cc in
    rw (p.1, p.2, refusal) (not_over c.args.w c.args.marks.now c.args.answer (rw none at c.hands_over.ensures))

pub returns-then-not-takes : goal.returns-then-not-takes
returns-then-not-takes c =
    let over = rw c.in_ok-outcome.ensures.ok_part at c.hands_over.ensures in
    not_taken c.args.w c.args.marks.now c.args.answer over.0 (sym c.takes.ensures ∙ c.if-not-takes.true)

pub returns-then-not-marks_add_up : goal.returns-then-not-marks_add_up
returns-then-not-marks_add_up c =
    let over = rw c.in_ok-outcome.ensures.ok_part at c.hands_over.ensures in
    let same = c.marks_add_up.ensures ∙ ap (λ (n : Counts). eqb (total n) (length c.args.marks.now)) c.count_all-counts.ensures in
    no-marks c.args.w c.args.marks.now c.args.answer over.0 (sym c.takes.ensures ∙ c.if-not-takes.false) (sym same ∙ c.if-not-marks_add_up.true)

pub plus_store-requires : goal.plus_store-requires
plus_store-requires c =
    let passed = sym c.takes.ensures ∙ c.if-not-takes.false in (
      takes-report c.args.w c.args.marks.now c.args.answer passed,
      takes-most c.args.w c.args.marks.now c.args.answer passed,
      eqb-true _ _ (sym c.marks_add_up.ensures ∙ c.if-not-marks_add_up.false),
    )

pub returns : goal.returns
returns c =
    let over = rw c.in_ok-outcome.ensures.ok_part at c.hands_over.ensures in
    let same = c.marks_add_up.ensures ∙ ap (λ (n : Counts). eqb (total n) (length c.args.marks.now)) c.count_all-counts.ensures in
    taken c.args.w c.args.marks.now c.args.answer over.0 (sym c.takes.ensures ∙ c.if-not-takes.false) (sym same ∙ c.if-not-marks_add_up.false) _
    (rw (← c.count_all-counts.ensures, ← over.1) c.plus_store.ensures)
