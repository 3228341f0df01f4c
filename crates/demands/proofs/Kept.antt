-- The line code keeps the promises that repair relies on, and so the demands hold.
use Rattle.demands.specs.Demands.{TablesAreOfTheCode, ParityOfCorrectLines, FaultyAsFound, ExactReturn, NoWrongLine, NotAlike, EqualOrFourLines, ChangeEqualsTablesAnew}
use Rattle.demands.proofs.Agreement as Agreement
use Rattle.demands.proofs.Anew as Anew
use Rattle.demands.proofs.Demand3 as Demand3
use Rattle.demands.proofs.FourLines as FourLines
use Rattle.demands.proofs.Handed as Handed
use Rattle.demands.proofs.NoneWrong as NoneWrong
use Rattle.demands.proofs.ParityLines as ParityLines
pub use Rattle.rectangle.proofs.LineLayer.{kept}

-- ---- the demands that rest on them
pub tables_are_of_the_code : TablesAreOfTheCode
tables_are_of_the_code = Agreement.tables_are_of_the_code kept

pub parity_of_correct_lines : ParityOfCorrectLines
parity_of_correct_lines = ParityLines.parity_of_correct_lines kept

pub faulty_as_found : FaultyAsFound
faulty_as_found = Handed.faulty_as_found kept

pub exact_return : ExactReturn
exact_return = Demand3.exact_return kept

pub no_wrong_line : NoWrongLine
no_wrong_line = NoneWrong.no_wrong_line kept

pub not_alike : NotAlike
not_alike = Demand3.not_alike kept

pub equal_or_four_lines : EqualOrFourLines
equal_or_four_lines = FourLines.equal_or_four_lines kept

pub change_equals_tables_anew : ChangeEqualsTablesAnew
change_equals_tables_anew = Anew.change_equals_tables_anew kept
