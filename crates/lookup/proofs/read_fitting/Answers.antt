-- `lookup::read_fitting` meets its contract.
use native.Mathlib.Omega.{arith}
use mathlib.Core.Path.{refl, ap, ◌∙◌}
use Prim.Native.Nat.{ℕ}
use lib.ListN.{replicate}
use Rattle.local_decoding.proofs.Refusing.{one_passes}
use Rattle.lookup.proofs.Steps.{one-read}
use Rattle.lookup.proofs.read_fitting.Goals as goal

pub find-found-requires : goal.find-found-requires
find-found-requires c =
    let p = one_passes _ _ _ _ _ _ _ _ c.requires in
    record {
      fits = p.of_repair;
      inside = p.inside;
    }

pub put_line-requires : goal.put_line-requires
put_line-requires c = omega (arith, (one_passes _ _ _ _ _ _ _ _ c.requires).line_bytes)

pub returns : goal.returns
returns c =
    one-read _ _ _ _ _ _ _ _ c.requires c.find-found.result.read c.find-found.ensures.1 _ _ _ _ _ _ _ refl c.find-found.ensures.0
    c.put_line.ensures (c.fill.ensures.after (λ y e. e) ∙ ap (λ (k : ℕ). replicate k 0) c.find-found.auto.out) (c.fill-2.ensures.after (λ y e. e) ∙ ap (λ (k : ℕ). replicate k 0) c.find-found.auto.marks)
    (c.fill-3.ensures.after (λ y e. e) ∙ ap (λ (k : ℕ). replicate k 0) c.find-found.auto.row_out) (c.fill-4.ensures.after (λ y e. e) ∙ ap (λ (k : ℕ). replicate k 0) c.find-found.auto.column_out)
