-- Numbers of refusals and outcomes: no refusal has an outcome's number, and a refusal is known by its number and what comes with it.
use mathlib.Core.Path.{◌≡◌, refl, sym, ap, ap₂, ◌∙◌}
use mathlib.Core.Bool.{true, false, cond, true≢false}
use Prim.Native.Nat.{ℕ}
use lib.Dec.{eqb}
use Rattle.std.specs.Prelude.{Result, Ok, Err, IsErrAnd}
use Rattle.std.proofs.lemmas.Result.{err_from_is_err_and}
use Rattle.rectangle.specs.declared.answers.Refusal.{Refusal}
use Rattle.rectangle.specs.declared.answers.Refusal.TheVariants.{Short, Sides, Limit, Contents, Lines, Tables, Room, Number, Faulty, RowParity, ColumnParity, NoReport}
use Rattle.rectangle.specs.declared.answers.Outcome.{Outcome}
use Rattle.rectangle.specs.declared.answers.Outcome.TheVariants.{Done, Left, Differs}
use Rattle.rectangle.specs.Answers.{number_of, index_of, answer_of, index_with, outcome_number}
use Rattle.rectangle.specs.Repair.{hands_over}

-- with an outcome repair hands over, with a refusal it doesn't
pub outcome-hands-over : (outcome : Outcome) → hands_over (outcome_number outcome) ≡ true
unfolding hands_over
outcome-hands-over Done = refl
outcome-hands-over Left = refl
outcome-hands-over Differs = refl

pub number-hands-nothing : (refusal : Refusal) → hands_over (number_of refusal) ≡ false
unfolding hands_over
number-hands-nothing Short = refl
number-hands-nothing Sides = refl
number-hands-nothing Limit = refl
number-hands-nothing Contents = refl
number-hands-nothing Lines = refl
number-hands-nothing Tables = refl
number-hands-nothing Room = refl
number-hands-nothing Number = refl
number-hands-nothing Faulty = refl
number-hands-nothing (RowParity row) = refl
number-hands-nothing (ColumnParity column) = refl
number-hands-nothing NoReport = refl

-- so a refusal's number is none of 0, 11 and 12
pub number-no-outcome : (refusal : Refusal) (outcome : Outcome) → number_of refusal ≡ outcome_number outcome → ⊥
number-no-outcome refusal outcome e =
    true≢false (sym (outcome-hands-over outcome) ∙ ap hands_over (sym e) ∙ number-hands-nothing refusal)

pub number-not-zero : (refusal : Refusal) → number_of refusal ≡ 0 → ⊥
number-not-zero refusal = number-no-outcome refusal Done

-- a call that answers 0 went through
pub answer-zero : {A : Type 0} (r : Result A Refusal) → answer_of r ≡ 0 → (given : A) × (r ≡ Ok given)
answer-zero (Ok given) e = (given, refl)
answer-zero (Err refusal) e = absurd (number-not-zero refusal e)

-- a refusal that `?` hands on
pub handed-on : {A : Type 0} (r : Result A Refusal) (refusal : Refusal) → IsErrAnd r (λ e. e ≡ refusal)
    → (answer_of r ≡ number_of refusal) × (index_with r ≡ index_of refusal)
handed-on r refusal h = let p = err_from_is_err_and r h in (rw (p.1, p.2), rw (p.1, p.2))

-- and two refusals with one number, and one index beside it, are one
refusal_of : ℕ → ℕ → Refusal
refusal_of n index =
    cond (eqb n 1) Short
    (cond (eqb n 2) Sides
    (cond (eqb n 3) Limit
    (cond (eqb n 4) Contents
    (cond (eqb n 5) Lines
    (cond (eqb n 6) Tables
    (cond (eqb n 7) Room
    (cond (eqb n 8) Number
    (cond (eqb n 10) Faulty
    (cond (eqb n 13) (RowParity (record { 0 = index }))
    (cond (eqb n 14) (ColumnParity (record { 0 = index })) NoReport))))))))))

refusal-back : (refusal : Refusal) → refusal_of (number_of refusal) (index_of refusal) ≡ refusal
unfolding refusal_of
refusal-back Short = refl
refusal-back Sides = refl
refusal-back Limit = refl
refusal-back Contents = refl
refusal-back Lines = refl
refusal-back Tables = refl
refusal-back Room = refl
refusal-back Number = refl
refusal-back Faulty = refl
refusal-back (RowParity row) = refl
refusal-back (ColumnParity column) = refl
refusal-back NoReport = refl

pub number-tells : (a b : Refusal) → number_of a ≡ number_of b → index_of a ≡ index_of b → a ≡ b
number-tells a b e f = sym (refusal-back a) ∙ ap₂ refusal_of e f ∙ refusal-back b
