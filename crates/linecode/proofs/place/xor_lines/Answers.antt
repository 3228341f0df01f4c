-- `linecode::place::xor_lines` meets its contract.
use mathlib.Core.Path.{ap, ◌∙◌}
use mathlib.Core.List.{List}
use Prim.Native.Nat.{ℕ}
use Rattle.linecode.specs.Places.{places, line_of}
use Rattle.linecode.proofs.Bytes.{array-length}
use Rattle.linecode.proofs.Line.{places-xor}
use Rattle.linecode.proofs.place.xor_lines.Goals as goal

pub returns : goal.returns
returns c =
    c.clear_spare.ensures
    ∙ ap (λ (l : List ℕ). line_of (places l)) c.xor_bytes.ensures
    ∙ ap line_of (places-xor c.args.a c.args.b (array-length 70 c.args.a _ c.well_formed.0) (array-length 70 c.args.b _ c.well_formed.1.0))
