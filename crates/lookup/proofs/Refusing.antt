-- What a read of one line has to work with where repair refuses nothing.
use mathlib.Core.Path.{◌≡◌}
use mathlib.Core.List.{List}
use Prim.Native.Nat.{ℕ, ◌*◌, ◌<◌}
use lib.ListN.{length}
use Rattle.rectangle.specs.Refusals.{holds, repair_refusal}
use Rattle.repair.proofs.Refusing.{repair-passes}
use Rattle.lookup.specs.Lent.{Wanted}

module _ (rows columns : ℕ) (lines row_table column_table out marks row_out column_out : List ℕ) where
  -- repair's refusals ask for lengths alone
  pub same-refusal : (out' marks' : List ℕ) → length out' ≡ length out → length marks' ≡ length marks
      → repair_refusal rows columns lines row_table column_table out' marks' row_out column_out
      ≡ repair_refusal rows columns lines row_table column_table out marks row_out column_out
  unfolding repair_refusal holds
  same-refusal out' marks' e f = rw (e, f)

  pub wanted : repair_refusal rows columns lines row_table column_table out marks row_out column_out ≡ 0 → (n : ℕ) → n < rows * columns
      → Wanted rows columns lines row_table out marks n
  wanted e n h =
      let p = repair-passes rows columns lines row_table column_table out marks row_out column_out e in
      record {
        sides = p.sizes.sides;
        line_bytes = p.sizes.line_bytes;
        row_bytes = p.sizes.row_bytes;
        out_bytes = p.rect.out_bytes;
        mark_bytes = p.rect.mark_bytes;
        inside = h;
      }
