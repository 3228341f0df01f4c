-- Document 01, "One line, 70 bytes": the CRC, the positions, the Hamming bits, the syndrome and its answer, a correct line.
use Rattle.std.specs.Prelude.{◌≡◌, Bool, false, ◌||◌, cond, List, [], ◌∷◌, ◌++◌, map, ℕ, zero, suc, ◌+◌, ◌-◌, ◌^◌, ◌<◌, eqb, ltb, length, take, drop, get_or}
use Rattle.gf2.specs.Word.{Word, same}
use Rattle.gf2.specs.Check.{divisible, crc, hamming_bit, column_sum}
use Rattle.gf2.specs.Generator.{generator}
pub use Rattle.register.specs.Slices.{up_from}
use Rattle.linecode.specs.Places.{data_places, protected_places, hamming_places, line_places}
use Rattle.linecode.specs.declared.hamming.Answer.{Answer}
use Rattle.linecode.specs.declared.hamming.Answer.TheVariants.{None, Hamming, Protected}

-- places 0 to 542 are protected
unfoldable pub protected : Word → Word
protected w = take protected_places w

-- places 0 to 511 are the data
unfoldable pub data_of : Word → Word
data_of w = take data_places w

-- the protected word is divisible by the generator
unfoldable pub accepted : Word → Bool
accepted w = divisible generator (protected w)

-- the CRC that a line holds, and its Hamming bits
unfoldable pub stored_crc : Word → Word
stored_crc w = drop data_places (protected w)

unfoldable pub stored_hamming : Word → Word
stored_hamming w = drop protected_places w

abbrev pub member : ℕ → List ℕ → Bool
member n [] = false
member n (m ∷ ms) = eqb n m || member n ms

-- the numbers that are not among others
abbrev pub without : List ℕ → List ℕ → List ℕ
without others [] = []
without others (n ∷ ns) = cond (member n others) (without others ns) (n ∷ without others ns)

-- 2^k for each Hamming bit k
unfoldable pub hamming_columns : List ℕ
hamming_columns = map (λ k. 2 ^ k) (up_from 0 hamming_places)

-- the positions of the protected places: the numbers from 3 to 553 that are no powers of two
unfoldable pub positions : List ℕ
unfolding hamming_columns hamming_places
positions = without hamming_columns (up_from 3 551)

-- "place 0 has 3, place 501 has 511, place 502 has 513, place 542 has 553", and that is the last
pub record NamedPositions : Type 0 where
  pub all : length positions ≡ 543
  pub first : get_or positions 0 0 ≡ 3
  pub below512 : get_or positions 501 0 ≡ 511
  pub above512 : get_or positions 502 0 ≡ 513
  pub last : get_or positions 542 0 ≡ 553

-- the rule of a table of the positions: it has them all, ascending and without powers of two
pub record PositionTable (table : List ℕ) : Type 0 where
  pub all : table ≡ positions
  pub ascending : (i j : ℕ) → i < j → j < length table → get_or table i 0 < get_or table j 0
  pub no_power : (i k : ℕ) → i < length table → get_or table i 0 ≡ 2 ^ k → ⊥

-- Hamming bit k is the parity of the protected places whose position has bit k
unfoldable pub hamming : Word → Word
hamming p = map (hamming_bit positions p) (up_from 0 hamming_places)

-- writing: the data, the CRC that makes them divisible, the Hamming bits
unfoldable pub with_crc : Word → Word
with_crc d = d ++ crc generator d

unfoldable pub with_hamming : Word → Word
with_hamming p = p ++ hamming p

unfoldable pub codeword : Word → Word
codeword d = with_hamming (with_crc d)

-- a correct line: its places are what writing its data gives
unfoldable pub Correct : Word → Type 0
Correct w = w ≡ codeword (data_of w)

-- the same as a test
unfoldable pub is_correct : Word → Bool
is_correct w = same w (codeword (data_of w))

-- each place's number in the syndrome
unfoldable pub columns : List ℕ
columns = positions ++ hamming_columns

-- the exclusive or of the positions of all set protected places and of 2^k for each set Hamming bit k
unfoldable pub syndrome : Word → ℕ
syndrome w = column_sum columns w

-- where a number first stands in a list; the list's length where it does not
abbrev pub index_of : ℕ → List ℕ → ℕ
index_of n [] = zero
index_of n (m ∷ ms) = let later = suc (index_of n ms) in cond (eqb n m) zero later

-- the answer that names a place
unfoldable pub naming : ℕ → Answer
naming i = cond (ltb i protected_places) (Protected i) (cond (ltb i line_places) (Hamming (i - protected_places)) None)

-- what a syndrome answers: the place of which it is the number, or none
unfoldable pub answer_to : ℕ → Answer
answer_to s = naming (index_of s columns)

-- document 01's number and place for each case of the enum: the syndrome that it answers, and the place that it names
unfoldable pub syndrome_of : Answer → ℕ
syndrome_of None = zero
syndrome_of (Hamming k) = 2 ^ k
syndrome_of (Protected i) = get_or positions i zero

unfoldable pub place_of : Answer → ℕ
place_of None = line_places
place_of (Hamming k) = protected_places + k
place_of (Protected i) = i
