-- `groups::nth` meets its contract.
use borrow.Author.Tests.{lt-ltb, le-ltb}
use Rattle.groups.specs.Lent.{which_of}
use Rattle.groups.proofs.nth.Goals as goal

pub returns-then-k-sides : goal.returns-then-k-sides
unfolding which_of
returns-then-k-sides c = rw (lt-ltb _ _ c.if-k-sides.true)

pub returns-else-k-sides : goal.returns-else-k-sides
unfolding which_of
returns-else-k-sides c = rw (le-ltb _ _ c.if-k-sides.false)
