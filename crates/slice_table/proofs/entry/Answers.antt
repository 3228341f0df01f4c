-- `slice_table::entry` meets its contract.
use native.Mathlib.Omega.{arith}
use Rattle.slice_table.proofs.Entries.{near-entry, far-entry}
use Rattle.slice_table.proofs.entry.Goals as goal

pub returns-then-k-lt8 : goal.returns-then-k-lt8
returns-then-k-lt8 c = record {
  near = λ h. near-entry c.args.k c.args.b h c.ranges.b.fits;
  far = λ h. far-entry c.args.k c.args.b h c.ranges.b.fits;
  past = λ h. absurd (omega arith);
}
