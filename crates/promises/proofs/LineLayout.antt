-- The laws of a line's bytes and places that are promised upward.
use mathlib.Core.Path.{◌≡◌, refl, sym, ap, ap₂, ◌∙◌}
use mathlib.Core.Bool.{false}
use mathlib.Core.List.{List, [], ◌++◌, append_assoc}
use Prim.Native.Nat.{ℕ, ◌+◌, ◌*◌, ◌/◌, ◌%◌, ◌<◌}
use native.Mathlib.Omega.{arith}
use lib.ListN.{length, take, get_or, replicate}
use lib.Seq.{take_at}
use Rattle.gf2.specs.Word.{Word, zeros}
use Rattle.gf2.specs.Check.{bit}
use Rattle.linecode.specs.Places.{protected_places, line_places, line_bytes, bits_of, loaded, places, line_of}
use Rattle.linecode.specs.Code.{codeword}
use Rattle.linecode.specs.Entry.{written}
use Rattle.promises.specs.Promises.{Layout}
use Rattle.linecode.proofs.Bytes.{length-bits_of}
use Rattle.linecode.proofs.Line.{data_is, places_is, bytes-is, length-places, length-line_of, places-line_of, line_of-xor}
use Rattle.linecode.proofs.Line.{length_front, places-line, crc_end, hamming_end, protected-place, protected-bit, hamming-bit}
use Rattle.linecode.proofs.Loading.{data-loaded, loaded-whole}
use Rattle.linecode.proofs.Codeword.{length-codeword}

back : (w : Word) → length w ≡ line_places → places (line_of w) ≡ w
back w e = places-line_of w (omega (arith, e, places_is)) (omega (arith, e, places_is)) e

none : line_of [] ≡ replicate 70 0
unfolding line_of line_bytes protected_places
none = refl

blank : line_of (zeros line_places) ≡ replicate 70 0
unfolding line_of line_bytes protected_places line_places
blank = refl

hamming-bits : (line : List ℕ) → length line ≡ 70 → (k : ℕ) → k < 10
    → get_or (places line) (543 + k) false ≡ bit (k % 8) (get_or line (68 + k / 8) 0)
hamming-bits line e k h =
    hamming-bit line e (543 + k) (omega arith) (omega arith)
    ∙ ap₂ (λ (b y : ℕ). bit b (get_or line y 0)) (rest k) (byte k)
  where
    rest : (k : ℕ) → (543 + k + 1) % 8 ≡ k % 8
    rest k = omega arith

    byte : (k : ℕ) → (543 + k + 1) / 8 ≡ 68 + k / 8
    byte k = omega arith

front : (line : List ℕ) → length line ≡ 70 → take 536 (places line) ≡ bits_of (take 67 line)
front line whole =
    ap (take 536) (places-line line whole ∙ append_assoc first (crc_end line) (hamming_end line))
    ∙ take_at first (crc_end line ++ hamming_end line) 536 (length-bits_of (take 67 line) ∙ ap (λ (n : ℕ). 8 * n) (length_front line whole))
  where
    first : Word
    first = bits_of (take 67 line)

writes : (payload : List ℕ) → length payload ≡ 64 → places (written payload) ≡ codeword (bits_of payload)
unfolding written
writes payload e =
    back (codeword (bits_of payload))
    (length-codeword (bits_of payload) (length-bits_of payload ∙ ap (λ (n : ℕ). 8 * n) e ∙ sym data_is))

pub layout : Layout
layout =
    record {
      place_count = places_is;
      byte_count = bytes-is;
      placed = length-places;
      seventy = length-line_of;
      back = back;
      added = line_of-xor;
      none = none;
      blank = blank;
      bits = λ line e i h. protected-place line e i h ∙ protected-bit line e i h;
      hamming_bits = hamming-bits;
      front = front;
      whole = loaded-whole;
      loads = λ payload e. data-loaded payload (loaded payload) e refl;
      writes = writes;
    }
