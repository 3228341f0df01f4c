-- What the line code promises to the layers above; they rely on these statements and on nothing else of it.
use Rattle.std.specs.Prelude.{◌≡◌, ◌⊎◌, ◌↔◌, true, false, List, [], ◌++◌, ℕ, ◌+◌, ◌/◌, ◌%◌, ◌^◌, ◌≤◌, ◌<◌, T, length, take, get_or, replicate}
use Rattle.gf2.specs.Word.{Word, ◌⊕◌, zeros, distance}
use Rattle.gf2.specs.Check.{bit, divisible, crc, line_code}
use Rattle.gf2.specs.Generator.{generator}
use Rattle.linecode.specs.Places.{hamming_places, line_places, line_bytes, bits_of, loaded, places, line_of, xor_bytes}
use Rattle.linecode.specs.Code.{up_from, protected, data_of, accepted, positions, codeword, Correct, is_correct, columns}
use Rattle.linecode.specs.Code.{answer_to, syndrome_of, place_of}
use Rattle.linecode.specs.Reading.{Read, read_alone}
use Rattle.linecode.specs.Before.{read_before}
use Rattle.linecode.specs.Entry.{written, reading}
use Rattle.linecode.specs.declared.hamming.Answer.TheVariants.{None, Hamming}

-- how a line's bytes and its places stand to one another
pub record Layout : Type 0 where
  -- a line has 553 places and 70 bytes
  pub place_count : line_places ≡ 553
  pub byte_count : line_bytes ≡ 70
  -- 70 bytes have all places, and a line made from places has 70 bytes
  pub placed : (line : List ℕ) → length line ≡ 70 → length (places line) ≡ line_places
  pub seventy : (w : Word) → length (line_of w) ≡ 70
  -- all places, made into bytes, are read from them again
  pub back : (w : Word) → length w ≡ line_places → places (line_of w) ≡ w
  -- the exclusive or of lines with spare bits 0, byte by byte, is that of their places
  pub added : (w v : Word) → length w ≡ length v → xor_bytes (line_of w) (line_of v) ≡ line_of (w ⊕ v)
  -- no places, and places that are all 0, are 70 bytes of 0
  pub none : line_of [] ≡ replicate 70 0
  pub blank : line_of (zeros line_places) ≡ replicate 70 0
  -- place i, below 543, is bit i mod 8 of byte i / 8
  pub bits : (line : List ℕ) → length line ≡ 70 → (i : ℕ) → i < 543 → get_or (places line) i false ≡ bit (i % 8) (get_or line (i / 8) 0)
  -- place 543+k, k from 0 to 9, is bit k mod 8 of byte 68 + k/8
  pub hamming_bits : (line : List ℕ) → length line ≡ 70 → (k : ℕ) → k < 10
      → get_or (places line) (543 + k) false ≡ bit (k % 8) (get_or line (68 + k / 8) 0)
  -- the first 536 places are the bits of the first 67 bytes
  pub front : (line : List ℕ) → length line ≡ 70 → take 536 (places line) ≡ bits_of (take 67 line)
  -- 70 bytes are loaded as they stand
  pub whole : (s : List ℕ) → length s ≡ 70 → loaded s ≡ s
  -- a line loaded from 64 bytes has them as its data, and a line written has the places that the code gives
  pub loads : (payload : List ℕ) → length payload ≡ 64 → data_of (places (loaded payload)) ≡ bits_of payload
  pub writes : (payload : List ℕ) → length payload ≡ 64 → places (written payload) ≡ codeword (bits_of payload)

-- "That line code and parity are linear is shown for any width, then used at 553 places."
pub record LinearAtItsPlaces : Type 0 where
  -- writing is the line code of any width, with document 01's generator, positions and ten Hamming bits
  pub general : (d : Word) → codeword d ≡ line_code generator positions (up_from 0 hamming_places) d
  -- and so the line of the exclusive or of data is that of their lines
  pub codewords : (x y : Word) → length x ≡ length y → codeword (x ⊕ y) ≡ codeword x ⊕ codeword y

-- a line read alone is accepted, and read as w
pub record ReadsAs (w : Word) (r : Read) : Type 0 where
  pub gives : r.word ≡ w
  pub accepted : r.mark ≤ 1

-- w and v are correct lines, found is a line as found
pub record Promises : Type 0 where
  -- a correct line has all 553 places
  pub sized : (w : Word) → Correct w → length w ≡ line_places
  -- two correct lines that differ in fewer than eight places are equal
  pub apart : (w v : Word) → Correct w → Correct v → distance w v < 8 → w ≡ v
  -- the exclusive or of correct lines is a correct line
  pub summed : (w v : Word) → Correct w → Correct v → Correct (w ⊕ v)
  -- a line that differs from a correct one in at most one place is read as that one
  pub corrects : (w found : Word) → Correct w → length found ≡ line_places → distance w found ≤ 1 → ReadsAs w (read_alone found)
  -- a line that differs from a correct one in at most six places is read as that one or is faulty
  pub detects : (w found : Word) → Correct w → length found ≡ line_places → distance w found ≤ 6
      → ReadsAs w (read_alone found) ⊎ ((read_alone found).mark ≡ 4)
  -- a faulty line is given back as found
  pub kept : (found : Word) → (read_alone found).mark ≡ 4 → (read_alone found).word ≡ found
  -- any other line is accepted, and read as a correct one
  pub sound : (found : Word) → length found ≡ line_places
      → ((read_alone found).mark ≡ 4) ⊎ (((read_alone found).mark ≤ 1) × Correct (read_alone found).word)
  -- whatever is read, its mark is 0, 1 or 4
  pub marks : (found : Word) → ((read_alone found).mark ≤ 1) ⊎ ((read_alone found).mark ≡ 4)
  -- mark 0 exactly if the line found is a correct line
  pub clean : (found : Word) → length found ≡ line_places → ((read_alone found).mark ≡ 0) ↔ Correct found
  -- mark 1 exactly if it is accepted and the line read differs from the line found in some place
  pub rewritten : (found : Word) → length found ≡ line_places
      → ((read_alone found).mark ≡ 1) ↔ (((read_alone found).mark ≡ 4 → ⊥) × (1 ≤ distance found (read_alone found).word))
  -- a correct line hurt in its Hamming bits alone is read as it was, with mark 1
  pub hamming_hurt : (w found : Word) → Correct w → length found ≡ line_places → protected found ≡ protected w → 1 ≤ distance w found
      → read_alone found ≡ record { word = w; mark = 1 }
  -- before request Q-1 a line was read alike; its mark is the same, or was and is one of an accepted line
  pub before : (found : Word) → ((read_before found).word ≡ (read_alone found).word)
      × (((read_before found).mark ≡ (read_alone found).mark) ⊎ (((read_before found).mark ≤ 1) × ((read_alone found).mark ≤ 1)))
  -- its mark told of the protected word alone: 0 where that was divisible as found, otherwise 1, after a flip, or 4
  pub before_mark : (found : Word) → (accepted found ≡ true → (read_before found).mark ≡ 0)
      × (accepted found ≡ false → ((read_before found).mark ≡ 1) ⊎ ((read_before found).mark ≡ 4))
  -- the test passes the correct lines, and no other
  pub tests : (w : Word) → (is_correct w ≡ true) ↔ Correct w
  -- a line written is correct, and reads as itself with mark 0
  pub writes : (payload : List ℕ) → length payload ≡ 64
      → Correct (places (written payload)) × (reading (written payload) ≡ record { line = written payload; mark = 0 })
  -- reading ignores spare bits
  pub spare : (line other : List ℕ) → places line ≡ places other → reading line ≡ reading other
  -- the CRC is the only 31 bits that make the word divisible
  pub only : (data' check : Word) → length check ≡ 31
      → T (divisible generator (data' ++ check)) ↔ (check ≡ crc generator data')
  -- none is answered to a syndrome of 0 and above 553, and to no other
  pub none : (s : ℕ) → (answer_to s ≡ None) ↔ ((s ≡ 0) ⊎ (553 < s))
  -- a syndrome up to 553 is the number of what it answers; that of none is 0
  pub numbered : (s : ℕ) → s ≤ 553 → syndrome_of (answer_to s) ≡ s
  -- Hamming place k is answered to 2^k, and to no other syndrome
  pub powers : (s k : ℕ) → (answer_to s ≡ Hamming k) ↔ ((k < 10) × (s ≡ 2 ^ k))
  -- the place that a syndrome from 1 to 553 names has that number
  pub named : (s : ℕ) → 1 ≤ s → s ≤ 553 → get_or columns (place_of (answer_to s)) 0 ≡ s
