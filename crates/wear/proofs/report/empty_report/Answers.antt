-- `wear::report::empty_report` meets its contract: by its ten numbers, which are zeros.
use mathlib.Core.Path.{◌≡◌, sym, ap, ◌∙◌}
use mathlib.Core.List.{[], ◌∷◌}
use Rattle.tour.specs.Numbers.{numbers_of, wear_in}
use Rattle.tour.proofs.Numbers.{read_back, ten-numbers}
use Rattle.wear.proofs.report.empty_report.Goals as goal

pub returns : goal.returns
unfolding numbers_of
returns c =
    let zeros : numbers_of c.default.result ≡ 0 ∷ 0 ∷ 0 ∷ 0 ∷ 0 ∷ 0 ∷ 0 ∷ 0 ∷ 0 ∷ 0 ∷ [] = cc in
    sym (read_back c.default.result) ∙ ap wear_in (zeros ∙ sym ten-numbers.empty) ∙ read_back _
