-- `results::answers::hands_over` meets its contract.
use Rattle.results.proofs.Outcomes.{outcome_found}
use Rattle.results.proofs.answers.hands_over.Goals as goal

pub returns : goal.returns
returns c = rw c.ok.ensures.value (outcome_found c.args.answer c.try_from.result c.try_from.ensures)
