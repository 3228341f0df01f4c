-- The table that is lent, for each of sixteen bytes: what the byte adds to the CRC's register, and to the sums of positions.
use Rattle.std.specs.Prelude.{List, [], ◌∷◌, map, ℕ, ◌+◌, ◌-◌, ◌*◌, ◌/◌, ◌%◌, ◌^◌, drop, get_or}
use Rattle.std.specs.Int.Bits.{bit_xor}
use Rattle.gf2.specs.Word.{digits}
use Rattle.gf2.specs.Check.{column_sum}
use Rattle.register.specs.Slices.{up_from, slice_table}
use Rattle.linecode.specs.Code.{positions}

-- the position of place t of the sixteen bytes that begin at place 128 j
abbrev pub position_in : ℕ → ℕ → ℕ
position_in j t = get_or positions (128 * j + t) 0

-- of two positions of one place that differ by 128, or by 896 and some low bits: those bits, and whether it is 896
abbrev pub apart : ℕ → ℕ
apart x = x % 16 + 16 * (x / 512)

-- place t in each of the four blocks, side by side; the fourth position by how it differs from the third
abbrev pub field : ℕ → ℕ
field t =
    position_in 0 t
    + 2 ^ 8 * position_in 1 t
    + 2 ^ 17 * position_in 2 t
    + 2 ^ 26 * apart (bit_xor (position_in 2 t) (position_in 3 t))

unfoldable pub fields : List ℕ
fields = map field (up_from 0 128)

-- entry 256 k + b: the fields of the set bits of byte b, which k bytes follow
abbrev pub fields_at : ℕ → ℕ
fields_at i = column_sum (drop (8 * (15 - i / 256)) fields) (digits 8 (i % 256))

-- numbers below 2^32, and others above them
abbrev pub beside : List ℕ → List ℕ → List ℕ
beside [] high = []
beside (n ∷ low) [] = []
beside (n ∷ low) (m ∷ high) = (n + 2 ^ 32 * m) ∷ beside low high

-- entry 256 k + b: the register when k bytes have followed byte b, and above it the fields
unfoldable pub line_table : List ℕ
line_table = beside slice_table (map fields_at (up_from 0 4096))
