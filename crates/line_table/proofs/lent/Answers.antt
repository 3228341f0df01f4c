-- `line_table::lent` keeps what its result's type says: the table's rule, computed.
use Rattle.gf2.specs.Generator.{generator, generator_polynomial}
use Rattle.line_table.proofs.TableRule.{field_numbers, line-table}
use Rattle.line_table.proofs.lent.Goals as goal

pub invariant_of-result : goal.invariant_of-result
unfolding field_numbers generator generator_polynomial
invariant_of-result c = record { lent = line-table _ tt tt }
