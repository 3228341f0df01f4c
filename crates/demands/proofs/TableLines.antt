-- A table as the steps leave it, line by line, for any list of groups.
use mathlib.Core.Path.{◌≡◌, refl, ap, ◌∙◌}
use mathlib.Core.List.{List, [], ◌∷◌, map}
use Prim.Native.Nat.{ℕ, zero, suc, ◌*◌, ◌<◌}
use native.Mathlib.Nat.{le_of_suc-le-suc, not-suc-le-zero}
use native.Mathlib.Omega.{arith}
use lib.ListN.{length, get_or, length-map, get_or-map}
use Rattle.gf2.specs.Word.{Word}
use Rattle.linecode.specs.Places.{line_bytes, line_of}
use Rattle.scheme.specs.Visit.{Group, State}
use Rattle.scheme.specs.Parity.{no_lines, parity_after}
use Rattle.rectangle.specs.Store.{line_layer, bytes_at}
use Rattle.rectangle.specs.Repair.{table_after}
use Rattle.rectangle.proofs.Buffer.{length-buffer_of, bytes_at-buffer_of}

-- whatever stands past the end
pub in-range : {A : Type 0} (l : List A) (n : ℕ) (d e : A) → n < length l → get_or l n d ≡ get_or l n e
in-range [] n d e h = absurd (not-suc-le-zero h)
in-range (a ∷ l) zero d e h = refl
in-range (a ∷ l) (suc n) d e h = in-range l n d e (le_of_suc-le-suc h)

module _ (s : State) (gs : List Group) where
  lines : List Word
  lines = map (parity_after line_layer s) gs

  length-lines : length lines ≡ length gs
  unfolding lines
  length-lines = length-map gs (parity_after line_layer s)

  pub table-bytes : length (table_after line_layer s gs) ≡ length gs * line_bytes
  unfolding table_after lines
  table-bytes = length-buffer_of lines ∙ ap (λ (k : ℕ). k * line_bytes) length-lines

  pub table-line : (k : ℕ) → k < length gs → bytes_at (table_after line_layer s gs) k ≡ line_of (parity_after line_layer s (get_or gs k no_lines))
  unfolding table_after lines
  table-line k h =
      let inside : k < length lines = omega (arith, length-lines) in
      bytes_at-buffer_of lines k inside
      ∙ ap line_of (in-range lines k _ _ inside ∙ get_or-map (parity_after line_layer s) gs k no_lines)
