-- `sweep::crc_of` meets its contract.
use mathlib.Core.Path.{◌∙◌}
use mathlib.Core.List.{◌++◌}
use lib.ListN.{get_or}
use Rattle.sweep.proofs.Entries.{register-step}
use Rattle.sweep.proofs.crc_of.Goals as goal

pub returns : goal.returns
returns c =
    λ b0 b1 b2 b3 h1 h2 h3 s0 s1 s2 s3.
    let first = register-step c.low.result c.carried.result (get_or c.args.sums 1 0) b0 b1 c.carried.ensures.0 (c.low.ensures ∙ s0.register) h1 s1.register in
    let second = register-step c.low-2.result c.carried-2.result (get_or c.args.sums 2 0) (b0 ++ b1) b2 c.carried-2.ensures.0 (c.low-2.ensures ∙ first) h2 s2.register in
    c.low-4.ensures
    ∙ register-step c.low-3.result c.carried-3.result (get_or c.args.sums 3 0) ((b0 ++ b1) ++ b2) b3 c.carried-3.ensures.0 (c.low-3.ensures ∙ second) h3 s3.register
