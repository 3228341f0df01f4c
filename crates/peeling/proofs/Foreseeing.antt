-- The forecast from its parts: the pattern's marks, and the passes from them.
use mathlib.Core.Path.{◌≡◌, sym, ap, ap₂, ◌∙◌}
use mathlib.Core.List.{List, map, map-map}
use Prim.Native.Nat.{ℕ}
use lib.ListN.{length}
use Rattle.scheme.specs.Layer.{Cell}
use Rattle.scheme.specs.Repair.{marks_of}
use Rattle.scheme.specs.Forecast.{flagged, foreseen}
use Rattle.rectangle.proofs.Groups.{sides}
use Rattle.forecast.specs.Forecast.{foreseen_in, forecast_refusal, Forecast, forecast}
use Rattle.forecast.proofs.Answers.{refused, runs, sizes}
use Rattle.peeling.specs.Lent.{Sides, RanPasses, mark_of}

module _ (rows columns : ℕ) (pattern marks : List ℕ) where
  -- turned back
  pub turned_back : (a : ℕ) → a ≡ forecast_refusal rows columns pattern marks → (a ≡ 0 → ⊥)
      → ◌≡◌ {A = Forecast} (record { answer = a; passes = 0; marks = marks }) (forecast rows columns pattern marks)
  turned_back a is d =
      sym (refused rows columns pattern marks (λ e. d (is ∙ e)) ∙ ap (λ x. record { answer = x; passes = 0; marks = marks }) (sym is))

  module _ (none : 0 ≡ forecast_refusal rows columns pattern marks) where
    -- what the tests have seen
    pub sides-fit : (faulty : List ℕ) → length faulty ≡ 1024 → Sides rows columns faulty
    sides-fit faulty e =
        let s = sides rows columns (sizes rows columns pattern marks (sym none)).0 in
        record { rows_low = s.rows_low; rows_high = s.rows_high; columns_low = s.columns_low; columns_high = s.columns_high; counts = e }

    -- the passes start from the lines as the pattern has them
    pub foretold : (marked end : List ℕ) (passes : ℕ) → marked ≡ map mark_of pattern → RanPasses rows columns marked end passes
        → ◌≡◌ {A = Forecast} (record { answer = 0; passes = passes; marks = end }) (forecast rows columns pattern marks)
    unfolding foreseen_in foreseen
    foretold marked end passes e r =
        ap₂ (λ x y. record { answer = 0; passes = x; marks = y }) (r.number (map flagged pattern) start) (r.cells (map flagged pattern) start)
        ∙ sym (runs rows columns pattern marks (sym none))
      where
        start : marked ≡ marks_of (map flagged pattern)
        start = e ∙ sym (map-map (λ (c : Cell). c.mark) flagged pattern)
