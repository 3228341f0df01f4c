-- `lookup::by_repair` meets its contract.
use native.Mathlib.Omega.{arith}
use mathlib.Core.Path.{refl, sym, ap, ◌∙◌}
use Rattle.rectangle.specs.Store.{line_layer}
use Rattle.rectangle.specs.Repair.{StoreRepaired}
use Rattle.rectangle.proofs.Runs.{repair-runs}
use Rattle.repair.proofs.Refusing.{repair-passes}
use Rattle.lookup.proofs.Steps.{given-repaired}
use Rattle.lookup.proofs.by_repair.Goals as goal

pub line_at-requires : goal.line_at-requires
line_at-requires c =
    let p = repair-passes _ _ _ _ _ _ _ _ _ c.requires.fits in
    omega (arith, c.repair_fitting.auto, p.rect.out_bytes, c.requires.inside)

pub bounds-marks-n : goal.bounds-marks-n
bounds-marks-n c =
    let p = repair-passes _ _ _ _ _ _ _ _ _ c.requires.fits in
    omega (arith, c.repair_fitting.auto, p.rect.mark_bytes, c.requires.inside)

pub returns : goal.returns
returns c =
    let whole = c.repair_fitting.ensures ∙ sym (repair-runs _ _ _ _ _ line_layer _ _ _ _ 0 c.requires.fits refl) in
    given-repaired _ _ _ _ _ _ c.requires.fits _ c.requires.inside _ _ _ (ap (λ (s : StoreRepaired). s.lines) whole)
    (ap (λ (s : StoreRepaired). s.marks) whole) c.line_at.ensures
