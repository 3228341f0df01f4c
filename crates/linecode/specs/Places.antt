-- Document 01, "One line, 70 bytes": bytes and the 553 places of a line.
use Rattle.std.specs.Prelude.{false, List, [], ◌∷◌, ◌++◌, ℕ, zero, suc, take, drop, replicate}
use Rattle.std.specs.Int.Bits.{bit_xor}
use Rattle.gf2.specs.Word.{Word, digits, number}

-- places 0 to 511 are the data
unfoldable pub data_places : ℕ
data_places = 512

-- places 512 to 542 are the CRC; places 0 to 542 are protected
unfoldable pub protected_places : ℕ
protected_places = 543

-- places 543 to 552 are the Hamming bits
unfoldable pub hamming_places : ℕ
hamming_places = 10

unfoldable pub line_places : ℕ
line_places = 553

unfoldable pub data_bytes : ℕ
data_bytes = 64

unfoldable pub line_bytes : ℕ
line_bytes = 70

-- bit i of some bytes is bit i mod 8 (0 lowest) of byte i / 8
abbrev pub bits_of : List ℕ → Word
bits_of [] = []
bits_of (b ∷ bs) = digits 8 b ++ bits_of bs

-- n bytes of some bits, those that are wanting 0
abbrev pub bytes_of : ℕ → Word → List ℕ
bytes_of zero w = []
bytes_of (suc n) w = number (take 8 w) ∷ bytes_of n (drop 8 w)

-- the first 70 bytes of some bytes, those that are wanting 0
unfoldable pub loaded : List ℕ → List ℕ
loaded s = take line_bytes (s ++ replicate line_bytes 0)

-- the places of 70 bytes: all bits but the spare ones, bit 7 of byte 67 and bits 2 to 7 of byte 69
unfoldable pub places : List ℕ → Word
places line = take protected_places (bits_of line) ++ take hamming_places (drop (suc protected_places) (bits_of line))

-- the 70 bytes of 553 places, spare bits 0
unfoldable pub line_of : Word → List ℕ
line_of w = bytes_of line_bytes (take protected_places w ++ (false ∷ drop protected_places w))

-- the exclusive or of bytes, one by one, spare bits too: between functions only, no rule of document 01
abbrev pub xor_bytes : List ℕ → List ℕ → List ℕ
xor_bytes [] y = []
xor_bytes (a ∷ x) [] = []
xor_bytes (a ∷ x) (b ∷ y) = bit_xor a b ∷ xor_bytes x y
