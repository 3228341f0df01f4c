-- What stays as long as it was: a line that is read alone, and buffers whose bytes change.
use mathlib.Core.Path.{◌≡◌, ◌∙◌}
use mathlib.Core.List.{List}
use Prim.Native.Nat.{ℕ}
use lib.ListN.{length}
use Rattle.gf2.specs.Word.{Word}
use Rattle.linecode.specs.Places.{line_places}
use Rattle.scheme.specs.Layer.{read_line}
use Rattle.scheme.proofs.Width.{read-width}
use Rattle.rectangle.specs.Store.{line_layer}
use Rattle.rectangle.proofs.LineLayer.{kept}
use Rattle.groups.specs.Lent.{Room}

-- reading line n alone keeps the number of places
pub read-long : (n : ℕ) (w : Word) → length w ≡ line_places → length (read_line line_layer n w).line ≡ line_places
read-long n w e = read-width line_layer kept (line_layer.address n) w e

-- buffers of the same lengths have the same room
pub same-room : (rows columns : ℕ) (out marks lacks faulty out' marks' lacks' faulty' : List ℕ) → Room rows columns out marks lacks faulty
    → length out' ≡ length out → length marks' ≡ length marks → length lacks' ≡ length lacks → length faulty' ≡ length faulty
    → Room rows columns out' marks' lacks' faulty'
same-room rows columns out marks lacks faulty out' marks' lacks' faulty' r e f g h =
    record {
      rect =
          record {
            rows_low = r.rect.rows_low;
            rows_high = r.rect.rows_high;
            columns_low = r.rect.columns_low;
            columns_high = r.rect.columns_high;
            out_bytes = e ∙ r.rect.out_bytes;
            mark_bytes = f ∙ r.rect.mark_bytes;
          };
      lack_bytes = g ∙ r.lack_bytes;
      counts = h ∙ r.counts;
    }
