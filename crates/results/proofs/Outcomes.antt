-- The outcomes of repair are the answers with which it hands a store over.
use mathlib.Core.Path.{◌≡◌}
use mathlib.Core.Bool.{true, false}
use Prim.Native.Nat.{ℕ}
use native.Mathlib.Omega.{arith}
use borrow.Author.Tests.{ne_eqb}
use Rattle.std.specs.Prelude.{Result, Ok, Err, MatchOption}
use Rattle.std.specs.Result.{result_ok}
use Rattle.rectangle.specs.Answers.{outcome_number, OutcomeOf}
use Rattle.rectangle.specs.Repair.{hands_over}
use Rattle.rectangle.proofs.Numbers.{outcome-hands-over}
use Rattle.rectangle.specs.declared.answers.Outcome.{Outcome}
use Rattle.rectangle.specs.declared.answers.Outcome.TheVariants.{Done, Left, Differs}

none_hands_over : (answer : ℕ) → ((outcome : Outcome) → outcome_number outcome ≡ answer → ⊥) → hands_over answer ≡ false
unfolding hands_over
none_hands_over answer none =
    rw (
      ne_eqb answer 0 (λ e. none Done (omega (arith, e))),
      ne_eqb answer 11 (λ e. none Left (omega (arith, e))),
      ne_eqb answer 12 (λ e. none Differs (omega (arith, e))),
    )

pub outcome_found : (answer : ℕ) (r : Result Outcome ℕ) → OutcomeOf answer r
    → MatchOption (result_ok r) (hands_over answer ≡ false) (λ outcome. (hands_over answer ≡ true) × (outcome_number outcome ≡ answer))
outcome_found answer (Ok outcome) e = (rw (← e) (outcome-hands-over outcome), e)
outcome_found answer (Err n) e = none_hands_over answer e.1
