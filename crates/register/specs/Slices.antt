-- The CRC's register as a number, and the table of its steps that a caller lends to read many lines.
use Rattle.std.specs.Prelude.{List, [], ◌∷◌, ◌++◌, map, ℕ, zero, suc, ◌/◌, ◌%◌}
use Rattle.std.specs.Int.Bits.{bit_xor}
use Rattle.gf2.specs.Word.{zeros, digits, number}
use Rattle.gf2.specs.Polynomial.{divide}
use Rattle.gf2.specs.Generator.{generator}

-- k numbers from n upward
abbrev pub up_from : ℕ → ℕ → List ℕ
up_from n zero = []
up_from n (suc k) = n ∷ up_from (suc n) k

-- the register's number eight steps after the number i
abbrev pub eight_steps : ℕ → ℕ
eight_steps i = number (divide generator (digits 31 i) (zeros 8))

-- the register after a byte, and after some bytes
abbrev pub next : ℕ → ℕ → ℕ
next r b = bit_xor (eight_steps (bit_xor r b % 256)) (r / 256)

abbrev pub fed : ℕ → List ℕ → ℕ
fed r [] = r
fed r (b ∷ bs) = fed (next r b) bs

unfoldable pub after : ℕ → List ℕ → ℕ
after r bs = fed r bs

-- the registers eight steps after these, then eight steps more, n times
abbrev pub slices_from : ℕ → List ℕ → List ℕ
slices_from zero from = []
slices_from (suc n) from = let next = map eight_steps from in next ++ slices_from n next

-- entry 256 k + b: the register when k bytes have followed byte b
unfoldable pub slice_table : List ℕ
slice_table = slices_from 16 (up_from 0 256)
