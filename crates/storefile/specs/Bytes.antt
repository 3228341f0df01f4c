-- Numbers in bytes, and bytes put into a buffer.
use Rattle.std.specs.Prelude.{◌≡◌, List, [], ◌∷◌, ◌++◌, ℕ, zero, suc, ◌+◌, ◌*◌, ◌/◌, ◌%◌, length, take, drop}

-- k bytes of a number, little-endian
abbrev pub little_endian : ℕ → ℕ → List ℕ
little_endian zero n = []
little_endian (suc k) n = n % 256 ∷ little_endian k (n / 256)

-- the number of some bytes, little-endian
abbrev pub number_of : List ℕ → ℕ
number_of [] = 0
number_of (b ∷ bs) = b + 256 * number_of bs

-- the number in the k bytes of a file from a place on
unfoldable pub number_at : List ℕ → ℕ → ℕ → ℕ
number_at file at k = number_of (take k (drop at file))

-- a buffer with some bytes put from a place on; the other bytes keep their values
unfoldable pub placed : List ℕ → ℕ → List ℕ → List ℕ
placed buffer at bytes = take at buffer ++ bytes ++ drop (at + length bytes) buffer

-- some bytes were put from a place on, and the place after them is next
pub record Put (old : List ℕ) (at : ℕ) (bytes new : List ℕ) (next : ℕ) : Type 0 where
  pub after : next ≡ at + length bytes
  pub put : new ≡ placed old at bytes
