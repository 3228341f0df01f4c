-- `linecode::place::load` meets its contract: the slice's first bytes stand over zeros.
use mathlib.Core.Path.{ap, ◌∙◌}
use mathlib.Core.List.{List, ◌++◌}
use Prim.Native.Nat.{ℕ}
use lib.ListN.{drop}
use Rattle.linecode.proofs.Loading.{blank, copied}
use Rattle.linecode.proofs.place.load.Goals as goal

pub returns : goal.returns
returns c = ap (λ (l : List ℕ). l ++ drop c.min-n.result blank) c.copy_from_slice.ensures.after ∙ copied c.args.s.now c.min-n.result c.min-n.ensures
