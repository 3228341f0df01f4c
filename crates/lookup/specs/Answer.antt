-- What a read of one line answers, in the numbers of document 01 and request Q-4.
use Rattle.std.specs.Prelude.{cond, ℕ, Result, Ok, Err, eqb}
use Rattle.rectangle.specs.declared.answers.Refusal.{Refusal}
use Rattle.rectangle.specs.Answers.{number_of}
use Rattle.lookup.specs.declared.Step.{Step}
use Rattle.lookup.specs.declared.Step.TheVariants.{Alone, Row, Repair}
use Rattle.lookup.specs.declared.One.{One}

-- "1 alone, 2 row, 3 whole repair"
abbrev pub step_number : Step → ℕ
step_number Alone = 1
step_number Row = 2
step_number Repair = 3

-- 11 where the line stays faulty, otherwise 0; or the refusal's number
abbrev pub one_answer : Result One Refusal → ℕ
one_answer (Ok one) = cond (eqb one.mark 4) 11 0
one_answer (Err refusal) = number_of refusal

-- a call that is turned back takes no step and gives no mark
abbrev pub one_step : Result One Refusal → ℕ
one_step (Ok one) = step_number one.step
one_step (Err refusal) = 0

abbrev pub one_mark : Result One Refusal → ℕ
one_mark (Ok one) = one.mark
one_mark (Err refusal) = 0
