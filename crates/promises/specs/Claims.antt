-- Section III-C's two claims on damaged lines (document 000), of the single reading in its order, with the bounds under which they hold.
use Rattle.std.specs.Prelude.{◌≡◌, false, ◌≤◌, length}
use Rattle.gf2.specs.Word.{Word, distance}
use Rattle.linecode.specs.Places.{line_places}
use Rattle.linecode.specs.Code.{protected, Correct}
use Rattle.linecode.specs.Reading.{faulty}
use Rattle.paper_order.specs.PaperOrder.{crc_matches, corrector, read_in_order}
use Rattle.promises.specs.Promises.{ReadsAs}

-- w is a correct line, found is that line as found
pub record PaperClaims : Type 0 where
  -- 1) "Repairing Single-Bit Errors": with at most one damaged place it is read as it was written
  pub single_bit : (w found : Word) → Correct w → length found ≡ line_places → distance w found ≤ 1 → ReadsAs w (read_in_order found)
  -- 2) "Repairing Multi-Bit Errors": with two to six, not all of them Hamming bits, "even after correction using ECC-1, the CRC will
  -- continue to deem the line to be faulty"; with seven it may not (III-F)
  pub multi_bit : (w found : Word) → Correct w → length found ≡ line_places → 2 ≤ distance w found → distance w found ≤ 6
      → (protected found ≡ protected w → ⊥) → (crc_matches (corrector found) ≡ false) × (read_in_order found ≡ faulty found)
