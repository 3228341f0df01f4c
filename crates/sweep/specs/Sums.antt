-- What sixteen bytes of a line come to, by the table.
use Rattle.std.specs.Prelude.{◌≡◌, List, cond, ℕ, ◌+◌, ◌*◌, ◌/◌, ◌%◌, ◌^◌, take, drop}
use Rattle.std.specs.Int.Bits.{bit_and, bit_xor}
use Rattle.gf2.specs.Word.{Word}
use Rattle.gf2.specs.Check.{column_sum}
use Rattle.register.specs.Slices.{after}
use Rattle.linecode.specs.Places.{bits_of}
use Rattle.linecode.specs.Code.{positions, protected}
use Rattle.paper_order.specs.PaperOrder.{crc_matches}
use Rattle.line_table.specs.Table.{fields}

-- n is the sum of the entries of some bytes: the register after them, and above it the sum of their fields
pub record Summed (bytes : List ℕ) (n : ℕ) : Type 0 where
  pub register : n % 2 ^ 32 ≡ after 0 bytes
  pub above : n / 2 ^ 32 ≡ column_sum fields (bits_of bytes)

-- the position of a place of each block, from its fields; the CRC's places stand in block 2's fields, from place 1 on
abbrev pub at_first : ℕ → ℕ
at_first x = bit_and x 255

abbrev pub at_second : ℕ → ℕ
at_second x = bit_and (x / 2 ^ 8) 511

abbrev pub at_third : ℕ → ℕ
at_third x = bit_and (x / 2 ^ 17) 511

abbrev pub at_fourth : ℕ → ℕ
at_fourth x =
    bit_xor (bit_xor (bit_xor (bit_xor (at_third x) (bit_and (x / 2 ^ 18) 128)) (bit_and (x / 2 ^ 26) 15)) (bit_and (x / 2 ^ 22) 256))
    (bit_and (x / 2 ^ 21) 512)

abbrev pub at_last : ℕ → ℕ
at_last x = bit_xor (bit_and (x / 2 ^ 17) 255) (bit_and (x / 2 ^ 16) 512)

-- line n of a buffer
abbrev pub line_at : List ℕ → ℕ → List ℕ
line_at buffer n = take 70 (drop (n * 70) buffer)

-- both sums of a line in one number: the exclusive or of the positions of its set protected places, which are its Hamming bits, and
-- 65536 more where the CRC of its data is not the stored one
unfoldable pub both_sums : Word → ℕ
both_sums w = column_sum positions (protected w) + cond (crc_matches w) 0 65536
