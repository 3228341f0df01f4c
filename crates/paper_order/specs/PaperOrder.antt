-- Document 000, section III-C, "Performing Error Correction": the single reading in the paper's order, with its words (request Q-7). The
-- steps, numbered by this page: 1, the CRC from the data and a comparison with the stored one; 2, the corrector; 3, CRC and comparison once
-- more. A word is the 553 places of a line. Document 01's reading, by divisibility, is `read_alone` (linecode/specs/Reading.antt).
use Rattle.std.specs.Prelude.{Bool, cond, List, ℕ}
use Rattle.gf2.specs.Word.{Word, flip, same}
use Rattle.gf2.specs.Check.{crc}
use Rattle.gf2.specs.Generator.{generator}
use Rattle.linecode.specs.Places.{places, line_of}
use Rattle.linecode.specs.Code.{protected, data_of, stored_crc, with_hamming, syndrome, answer_to, place_of}
use Rattle.linecode.specs.Reading.{Read, accepted_as, faulty}
use Rattle.linecode.specs.declared.alone.Reading.{Reading}

-- steps 1 and 3, "the CRC matches with the stored CRC": the CRC over the data (III-E) is the one that the line holds
unfoldable pub crc_matches : Word → Bool
crc_matches w = same (crc generator (data_of w)) (stored_crc w)

-- step 2, "the ECC-1-based repair for the line": the place that its syndrome names is flipped, be it data, CRC or a Hamming bit; where it
-- names none, the place lies past the last one and nothing is flipped
unfoldable pub corrector : Word → Word
corrector w = flip (place_of (answer_to (syndrome w))) w

-- after step 1 "the line is deemed to be non-faulty" (III-B), after step 3 "we deem the line to be corrected successfully": data and CRC as
-- compared, "the ECC over CRC and data" (III-E) afresh, and request Q-1's mark, 0 or 1, by the line found
abbrev pub deemed_non_faulty : Word → Word → Read
deemed_non_faulty found compared = accepted_as found (with_hamming (protected compared))

-- step 3, "If the ECC-1 performed a correction, we recompute the CRC using the corrected data value" (where it performed none, this ends as
-- step 1 did: `past_protected`). "If the CRC matches with the stored CRC", that of the corrected line, since the ECC is "to correct single-bit
-- faults in both the CRC and the data" (III-E), "we deem the line to be corrected successfully"; else "even after correction using ECC-1, the
-- CRC will continue to deem the line to be faulty", and document 01 keeps it as found
abbrev pub compared_again : Word → Word → Read
compared_again found corrected = cond (crc_matches corrected) (deemed_non_faulty found corrected) (faulty found)

-- steps 1 to 3, "When a line is accessed, the CRC associated with the line will detect possible errors"; "once we find a CRC error, we
-- first try the ECC-1-based repair for the line"
unfoldable pub read_in_order : Word → Read
read_in_order found = cond (crc_matches found) (deemed_non_faulty found found) (compared_again found (corrector found))

-- the same on 70 bytes
unfoldable pub reading_in_order : List ℕ → Reading
reading_in_order line = record { line = line_of (read_in_order (places line)).word; mark = (read_in_order (places line)).mark }
