-- Laws for loops over buffers: lines written in order, and the places of the lines after the first reading.
use mathlib.Core.Path.{◌≡◌, sym, ap, ap₂, ◌∙◌}
use mathlib.Core.List.{List, [], ◌∷◌, ◌++◌, append_assoc, append-nil}
use Prim.Native.Nat.{ℕ, zero, suc, ◌+◌, ◌*◌, ◌<◌}
use native.Mathlib.Nat.{suc-mul}
use native.Mathlib.Omega.{arith}
use lib.ListN.{length, drop}
use lib.Seq.{take_at, drop-append-add, drop-drop}
use Rattle.gf2.specs.Word.{Word}
use Rattle.linecode.specs.Places.{line_places, line_bytes, line_of}
use Rattle.scheme.specs.Layer.{read_line, Promises}
use Rattle.scheme.specs.Repair.{read_all}
use Rattle.scheme.proofs.Width.{Wide, read-width}
use Rattle.rectangle.specs.Store.{line_layer, lines_in, buffer_of, put_bytes, put_line}
use Rattle.rectangle.proofs.Buffer.{Sized, length-places_at, length-buffer_of, length-lines_in, lines_in-at}

-- ---- lines written one after the other
buffer_of-snoc : (ws : List Word) (w : Word) → buffer_of (ws ++ (w ∷ [])) ≡ buffer_of ws ++ line_of w
buffer_of-snoc [] w = append-nil (line_of w)
buffer_of-snoc (v ∷ ws) w =
    ap (λ (l : List ℕ). line_of v ++ l) (buffer_of-snoc ws w) ∙ sym (append_assoc (line_of v) (buffer_of ws) (line_of w))

pub put_next : (ws : List Word) (old : List ℕ) (w : Word)
    → put_line (buffer_of ws ++ drop (length ws * line_bytes) old) (length ws) w
    ≡ buffer_of (ws ++ (w ∷ [])) ++ drop (suc (length ws) * line_bytes) old
unfolding put_line put_bytes
put_next ws old w =
    let e : suc (length ws) * line_bytes ≡ length (buffer_of ws) + line_bytes =
    omega (arith, length-buffer_of ws, suc-mul (length ws) line_bytes) in
    let f : length ws * line_bytes + line_bytes ≡ suc (length ws) * line_bytes = omega (arith, suc-mul (length ws) line_bytes) in
    ap₂ (λ (a b : List ℕ). a ++ line_of w ++ b)
    (take_at (buffer_of ws) (drop (length ws * line_bytes) old) (length ws * line_bytes) (length-buffer_of ws))
    (ap (λ (i : ℕ). drop i (buffer_of ws ++ drop (length ws * line_bytes) old)) e
    ∙ drop-append-add (buffer_of ws) (drop (length ws * line_bytes) old) line_bytes
    ∙ drop-drop line_bytes (length ws * line_bytes) old
    ∙ ap (λ (i : ℕ). drop i old) f)
    ∙ ap (λ (l : List ℕ). l ++ drop (suc (length ws) * line_bytes) old) (sym (buffer_of-snoc ws w))

-- ---- every line has all places after the first reading
module _ (promises : Promises line_layer) where
  wide-reading : (n : ℕ) (ws : List Word) → Sized ws → Wide line_places (read_all (read_line line_layer) n ws)
  wide-reading n [] sized = tt
  wide-reading n (w ∷ ws) sized = (
    read-width line_layer promises (line_layer.address n) w (sized zero (omega arith)),
    wide-reading (suc n) ws (λ m h. sized (suc m) (omega arith)),
  )

  pub reading-wide : (k : ℕ) (lines : List ℕ) → length lines ≡ k * line_bytes
      → Wide line_places (read_all (read_line line_layer) 0 (lines_in k lines))
  reading-wide k lines whole =
      wide-reading 0 (lines_in k lines)
      (λ n h.
      let inside : n < k = omega (arith, length-lines_in k lines) in
      ap length (lines_in-at k lines n inside) ∙ length-places_at k lines whole n inside)
