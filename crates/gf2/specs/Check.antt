-- Check bits over a word: those of a cyclic code by its generator, and those of Hamming's code by its columns.
use Rattle.std.specs.Prelude.{◌≡◌, Bool, true, false, ◌&&◌, List, [], ◌∷◌, ◌++◌, map, ℕ, zero, ◌/◌, ◌%◌, ◌^◌, ◌<◌, eqb, length, get_or}
use Rattle.std.specs.Int.Bits.{bit_xor}
use Rattle.gf2.specs.Word.{Word, is_zero, zeros, parity, digits}
use Rattle.gf2.specs.Polynomial.{remainder}

-- the word is divisible by the generator
abbrev pub divisible : Word → Word → Bool
divisible g w = is_zero (remainder g w)

-- the check bits that follow a word to make the whole divisible
abbrev pub crc : Word → Word → Word
crc g w = remainder g (w ++ zeros (length g))

-- the places of w at which a mask is set, the others as 0
abbrev pub masked : List Bool → Word → Word
masked [] w = []
masked (m ∷ ms) [] = []
masked (m ∷ ms) (b ∷ w) = (m && b) ∷ masked ms w

-- bit k of a number
abbrev pub bit : ℕ → ℕ → Bool
bit k n = eqb (n / 2 ^ k % 2) 1

-- place i of a number's digits is its bit i, 0 the lowest
abbrev pub DigitsAreBits : Type 0
DigitsAreBits = (k n i : ℕ) → i < k → get_or (digits k n) i false ≡ bit i n

-- Hamming bit k: the parity of the places whose column has bit k
abbrev pub hamming_bit : List ℕ → Word → ℕ → Bool
hamming_bit columns w k = parity (masked (map (bit k) columns) w)

-- the exclusive or of the columns of all set places
abbrev pub column_sum : List ℕ → Word → ℕ
column_sum [] w = zero
column_sum (c ∷ cs) [] = zero
column_sum (c ∷ cs) (false ∷ w) = column_sum cs w
column_sum (c ∷ cs) (true ∷ w) = bit_xor c (column_sum cs w)

-- a line of any width: the data, the CRC of a generator of any degree, then the Hamming bits of these numbers over both, by any columns
abbrev pub line_code : Word → List ℕ → List ℕ → Word → Word
line_code g columns ks d = let p = d ++ crc g d in p ++ map (hamming_bit columns p) ks
