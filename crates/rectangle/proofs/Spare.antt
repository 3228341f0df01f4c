-- A line's 70 bytes and its 553 places, as the line code promises them.
use mathlib.Core.Path.{◌≡◌, sym, ap, ◌∙◌}
use mathlib.Core.List.{List, []}
use Prim.Native.Nat.{ℕ}
use lib.ListN.{length, replicate}
use Rattle.gf2.specs.Word.{Word, ◌⊕◌, zeros, flip}
use Rattle.gf2.proofs.Weight.{length-flip}
use Rattle.linecode.specs.Places.{line_places, line_bytes, places, line_of, xor_bytes}
use Rattle.promises.proofs.LineLayout.{layout}

pub places_is : line_places ≡ 553
places_is = layout.place_count

pub bytes-is : line_bytes ≡ 70
bytes-is = layout.byte_count

pub length-places : (line : List ℕ) → length line ≡ 70 → length (places line) ≡ line_places
length-places = layout.placed

pub seventy-line_of : (w : Word) → length (line_of w) ≡ 70
seventy-line_of = layout.seventy

pub length-line_of : (w : Word) → length (line_of w) ≡ line_bytes
length-line_of w = layout.seventy w ∙ sym bytes-is

-- places made into bytes and read again are the same
pub places-line_of : (w : Word) → length w ≡ line_places → places (line_of w) ≡ w
places-line_of = layout.back

pub line_of-xor : (w v : Word) → length w ≡ length v → xor_bytes (line_of w) (line_of v) ≡ line_of (w ⊕ v)
line_of-xor = layout.added

-- a line with a place turned over
pub places-flipped : (line flipped : List ℕ) (i : ℕ) → length line ≡ 70 → flipped ≡ line_of (flip i (places line))
    → places flipped ≡ flip i (places line)
places-flipped line flipped i e q =
    ap places q ∙ places-line_of (flip i (places line)) (length-flip i (places line) ∙ length-places line e)

-- a line of zeros
pub none-line : line_of [] ≡ replicate 70 0
none-line = layout.none

pub zero-line : line_of (zeros line_places) ≡ replicate 70 0
zero-line = layout.blank

pub none-zeros : line_of [] ≡ line_of (zeros line_places)
none-zeros = none-line ∙ sym zero-line
