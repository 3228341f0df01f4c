-- `wear::adding::plus_store` meets its contract.
use native.Mathlib.Omega.{arith}
use Rattle.tour.specs.Adding.{plus}
use Rattle.tour.proofs.Refused.{is-report}
use Rattle.wear.proofs.adding.plus_store.Goals as goal

pub overflow_add-result : goal.overflow_add-result
overflow_add-result c = let r = is-report _ c.requires.0 in omega (arith, r.stores)

pub overflow_add-result-2 : goal.overflow_add-result-2
overflow_add-result-2 c = let r = is-report _ c.requires.0 in omega (arith, r.stores, r.lines, c.requires.1)

pub add-requires : goal.add-requires
add-requires c =
    let r = is-report _ c.requires.0 in omega (arith, r.stores, r.lines, r.marks, c.requires.1, c.requires.2)

pub plus_answer-requires : goal.plus_answer-requires
plus_answer-requires c =
    let r = is-report _ c.requires.0 in
    (omega (arith, r.stores, r.answers), omega (arith, r.stores, r.answers), omega (arith, r.stores, r.answers))

pub returns : goal.returns
unfolding plus
returns c = rw (c.add.ensures, c.plus_answer.ensures)
