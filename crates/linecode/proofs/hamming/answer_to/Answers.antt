-- `linecode::hamming::answer_to` meets its contract: the table is that of the positions, by the computed test of its rule.
use mathlib.Core.Path.{sym, ◌∙◌}
use native.Mathlib.Omega.{arith}
use Rattle.linecode.specs.Places.{hamming_places}
use Rattle.linecode.specs.Code.{positions, hamming_columns}
use Rattle.linecode.specs.declared.hamming.TheConstants.{POSITIONS}
use Rattle.linecode.proofs.Positions.{position-table}
use Rattle.linecode.proofs.Syndrome.{none_above, told-power, found-place, found-none}
use Rattle.linecode.proofs.hamming.answer_to.Goals as goal

pub returns-then-syndrome-gt553 : goal.returns-then-syndrome-gt553
returns-then-syndrome-gt553 c = sym (none_above c.args.syndrome c.if-syndrome-gt553.true)

pub returns-in-Ok : goal.returns-in-Ok
unfolding positions hamming_columns hamming_places
returns-in-Ok c = sym (found-place POSITIONS (position-table _ tt) _ _ c.in-Ok.ensures.position)

pub returns-in-Err : goal.returns-in-Err
returns-in-Err c = sym (told-power c.args.syndrome (omega arith) (sym c.is_power_of_two.ensures ∙ c.if-is_power_of_two.true))

pub returns-in-Err-2 : goal.returns-in-Err-2
unfolding positions hamming_columns hamming_places
returns-in-Err-2 c = sym (found-none POSITIONS (position-table _ tt) _ _ c.in-Err.ensures.position (omega arith) (sym c.is_power_of_two.ensures ∙ c.if-is_power_of_two.false))
