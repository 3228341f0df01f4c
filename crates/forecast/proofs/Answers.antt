-- The forecast's answers, and the samples by computation.
use mathlib.Core.Path.{◌≡◌, refl, sym, ap, ◌∙◌}
use mathlib.Core.Logic.{◌⊎◌, inl, inr, ◌↔◌}
use mathlib.Core.Bool.{Bool, true, false, ◌&&◌, and-eq-true_iff}
use mathlib.Core.List.{List, [], ◌∷◌}
use Prim.Native.Nat.{ℕ, ◌*◌}
use native.Mathlib.Omega.{arith}
use borrow.Author.Tests.{eqb-true, eq-eqb, ne_eqb}
use lib.ListN.{length}
use Rattle.scheme.specs.Visit.{rebuild, settle, mismatch, trial, visit}
use Rattle.scheme.specs.Repair.{passes_from, marks_of}
use Rattle.scheme.specs.Forecast.{foreseen}
use Rattle.linecode.specs.Places.{line_bytes, protected_places, hamming_places, places}
use Rattle.rectangle.specs.Store.{row, column, groups, places_at, bytes_at}
use Rattle.rectangle.specs.Refusals.{unless, side_fits, sides_fit}
use Rattle.rectangle.proofs.Tests.{passed, failed, refusal-in}
use Rattle.rectangle.proofs.Runs.{zero_or_not}
use Rattle.forecast.specs.Forecast.{bare_groups, foreseen_in, one_for_each, forecast_refusal, forecast}
use Rattle.forecast.specs.Samples.{SamplesHold}
use Rattle.forecast.specs.Promises.{AnswersOnly, ForecastAnswers}

pub samples-hold : SamplesHold
unfolding forecast forecast_refusal sides_fit side_fits one_for_each foreseen_in bare_groups foreseen passes_from visit trial settle rebuild mismatch groups row column places_at bytes_at places line_bytes protected_places hamming_places
samples-hold = refl

module _ (rows columns : ℕ) (pattern marks : List ℕ) where
  abbrev refusal : ℕ
  refusal = forecast_refusal rows columns pattern marks

  -- a forecast that is refused gives its refusal alone
  pub refused : (refusal ≡ 0 → ⊥) → forecast rows columns pattern marks ≡ record { answer = refusal; passes = 0; marks = marks }
  unfolding forecast
  refused d = rw (ne_eqb refusal 0 d)

  -- any other gives what the passes leave
  pub runs : refusal ≡ 0
      → forecast rows columns pattern marks
      ≡ record { answer = 0; passes = (foreseen_in rows columns pattern).passes; marks = marks_of (foreseen_in rows columns pattern).cells }
  unfolding forecast
  runs e = rw e

  -- it is not refused exactly where the sizes fit
  abbrev Sizes : Type 0
  Sizes = (sides_fit rows columns ≡ true) × (length pattern ≡ rows * columns) × (length marks ≡ rows * columns)

  pub sizes : refusal ≡ 0 → Sizes
  unfolding forecast_refusal one_for_each
  sizes e =
      let two = passed (sides_fit rows columns) 2 _ (λ z. omega arith) e in
      let seven = passed (one_for_each rows columns pattern && one_for_each rows columns marks) 7 _ (λ z. omega arith) two.1 in
      let both = (and-eq-true_iff (one_for_each rows columns pattern) (one_for_each rows columns marks)).0 seven.0 in
      (two.0, eqb-true _ _ both.0, eqb-true _ _ both.1)

  passes-tests : Sizes → refusal ≡ 0
  unfolding forecast_refusal one_for_each
  passes-tests s = rw (s.0, eq-eqb (length pattern) (rows * columns) s.1, eq-eqb (length marks) (rows * columns) s.2)

  -- the answer is the refusal
  answer-is : (forecast rows columns pattern marks).answer ≡ refusal
  answer-is = go (zero_or_not refusal)
    where
      go : (refusal ≡ 0) ⊎ (refusal ≡ 0 → ⊥) → (forecast rows columns pattern marks).answer ≡ refusal
      go (inl z) = ap (λ f. f.answer) (runs z) ∙ sym z
      go (inr d) = ap (λ f. f.answer) (refused d)

  two-fails : (refusal ≡ 2) ↔ (sides_fit rows columns ≡ false)
  unfolding forecast_refusal
  two-fails = (failed (sides_fit rows columns) _ (λ e. other (one_for_each rows columns pattern && one_for_each rows columns marks) e), λ e. rw e)
    where
      other : (b : Bool) → unless b 7 0 ≡ 2 → ⊥
      other true e = omega arith
      other false e = omega arith

  answers : AnswersOnly rows columns pattern marks (forecast rows columns pattern marks)
  unfolding forecast_refusal
  answers =
      record {
        answers =
            rw answer-is
            (refusal-in ((sides_fit rows columns, 2) ∷ (one_for_each rows columns pattern && one_for_each rows columns marks, 7) ∷ []));
        two = rw answer-is two-fails;
        done = rw answer-is (sizes, passes-tests);
        refused = λ d. let e = refused (λ z. d (answer-is ∙ z)) in (ap (λ f. f.marks) e, ap (λ f. f.passes) e);
      }

  -- one that fits is answered 0
  pub fitting : sides_fit rows columns ≡ true → length pattern ≡ rows * columns → length marks ≡ rows * columns
      → (forecast rows columns pattern marks).answer ≡ 0
  fitting s p m = answer-is ∙ passes-tests (s, p, m)

  -- ---- a forecast answered 0
  module _ (e : (forecast rows columns pattern marks).answer ≡ 0) where
    -- it gives what the passes leave
    pub given : forecast rows columns pattern marks
        ≡ record { answer = 0; passes = (foreseen_in rows columns pattern).passes; marks = marks_of (foreseen_in rows columns pattern).cells }
    given = runs (sym answer-is ∙ e)

    -- and it fits
    pub fits : (sides_fit rows columns ≡ true) × (length pattern ≡ rows * columns)
    fits = let s = sizes (sym answer-is ∙ e) in (s.0, s.1)

pub forecast-answers : ForecastAnswers
forecast-answers = answers
