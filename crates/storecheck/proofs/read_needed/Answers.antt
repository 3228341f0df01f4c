-- The header stands in the buffer, and no more bytes are needed than the buffer has.
use Rattle.std.proofs.Common.{arith}
use Rattle.storecheck.proofs.Prefix.{prefix, counts, needed-range}
use Rattle.storecheck.proofs.read_needed.Goals as goal

pub slice_bounds-bytes_needed-end-2 : goal.slice_bounds-bytes_needed-end-2
slice_bounds-bytes_needed-end-2 g c =
    prefix 28 c.read_header-first.new.file (omega (arith, c.read_header-first.auto.file, c.requires))

pub read_bodies-requires : goal.read_bodies-requires
read_bodies-requires g c =
    let range = needed-range _ _ c.bytes_needed-needed.ensures in
    (range.0, omega (arith, range.1, c.read_header-first.auto.file, c.requires))

pub returns : goal.returns
returns g c =
    let range = needed-range _ _ c.bytes_needed-needed.ensures in
    counts _ _ (omega (arith, c.read_bodies.ensures, range.1, c.read_bodies.auto.file, c.read_header-first.auto.file, c.requires))
