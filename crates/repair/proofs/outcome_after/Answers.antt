-- `repair::outcome_after` meets its contract.
use mathlib.Core.Path.{sym, ◌∙◌}
use mathlib.Core.Bool.{true, false}
use Rattle.repair.proofs.Counting.{answer-faulty, answer-none}
use Rattle.repair.proofs.outcome_after.Goals as goal

pub returns-then-count_faulty-ne0 : goal.returns-then-count_faulty-ne0
returns-then-count_faulty-ne0 c =
    λ parity s size tracked. answer-faulty _ _ parity _ _ s tracked size _ _ c.count_faulty.ensures c.if-count_faulty-ne0.true

pub returns-then-not-all_agree : goal.returns-then-not-all_agree
returns-then-not-all_agree c =
    λ parity s size tracked. answer-none _ _ parity _ _ s tracked size _ _ c.count_faulty.ensures c.if-count_faulty-ne0.false false (sym c.all_agree.ensures ∙ c.if-not-all_agree.true)

pub returns : goal.returns
returns c =
    λ parity s size tracked. answer-none _ _ parity _ _ s tracked size _ _ c.count_faulty.ensures c.if-count_faulty-ne0.false true (sym c.all_agree.ensures ∙ c.if-not-all_agree.false)
