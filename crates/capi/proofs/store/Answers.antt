-- `capi::store` meets its contract: the first 64 bytes are copied, the last six go one by one.
use mathlib.Core.Path.{sym, ap, ◌∙◌}
use mathlib.Core.List.{List, ◌++◌}
use Prim.Native.Nat.{ℕ}
use native.Mathlib.Omega.{arith}
use lib.ListN.{drop}
use Rattle.std.proofs.lemmas.List.{length-take-le}
use Rattle.linecode.proofs.Bytes.{array-length}
use Rattle.capi.proofs.Single.{last-six}
use Rattle.capi.proofs.store.Goals as goal

pub slice_bounds-copy_from_slice-end-2 : goal.slice_bounds-copy_from_slice-end-2
slice_bounds-copy_from_slice-end-2 c = sym (length-take-le 64 c.args.out.now (omega arith))

pub slice_bounds-copy_from_slice-end-3 : goal.slice_bounds-copy_from_slice-end-3
slice_bounds-copy_from_slice-end-3 c =
    sym (length-take-le 64 c.args.line (omega (arith, array-length 70 c.args.line _ c.well_formed.0)))

pub copy_from_slice-requires : goal.copy_from_slice-requires
copy_from_slice-requires c =
    length-take-le 64 c.args.out.now (omega arith)
    ∙ sym (length-take-le 64 c.args.line (omega (arith, array-length 70 c.args.line _ c.well_formed.0)))

pub returns : goal.returns
returns c =
    last-six c.args.out.now c.args.line _ 64 c.requires (array-length 70 c.args.line _ c.well_formed.0) (omega arith) (omega arith)
    (ap (λ (l : List ℕ). l ++ drop 64 c.args.out.now) c.copy_from_slice.ensures.after)
