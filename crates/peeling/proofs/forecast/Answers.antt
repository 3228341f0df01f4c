-- `peeling::forecast` meets its contract.
use mathlib.Core.Path.{refl, sym, ◌∙◌}
use Rattle.std.proofs.lemmas.Result.{err_from_is_err_and}
use Rattle.rectangle.proofs.Numbers.{number-not-zero}
use Rattle.forecast.proofs.Answers.{sizes}
use Rattle.peeling.proofs.Foreseeing.{turned_back, sides-fit, foretold}
use Rattle.peeling.proofs.forecast.Goals as goal

pub returns-in_err-sides : goal.returns-in_err-sides
returns-in_err-sides c =
    let p = err_from_is_err_and c.from_residual.result c.from_residual.ensures.1 in
    rw (p.1, p.2) (turned_back _ _ _ _ _ c.in_err-sides.ensures.answer (number-not-zero _))

pub mark_lines-requires : goal.mark_lines-requires
mark_lines-requires c = let fit = sizes _ _ _ _ (sym c.in_ok-sides.ensures.answer) in fit.2 ∙ sym fit.1

pub count_all-requires : goal.count_all-requires
count_all-requires c =
    record {
      room = rw (c.in_ok-sides.ensures.given.0, c.in_ok-sides.ensures.given.1)
          (sides-fit _ _ _ _ c.in_ok-sides.ensures.answer _ refl, c.mark_lines.auto.marks ∙ (sizes _ _ _ _ (sym c.in_ok-sides.ensures.answer)).2);
      none = refl;
    }

pub returns : goal.returns
returns c = foretold _ _ _ _ c.in_ok-sides.ensures.answer _ _ _ c.mark_lines.ensures (rw (c.in_ok-sides.ensures.given.0, c.in_ok-sides.ensures.given.1) at c.run_passes.ensures)
