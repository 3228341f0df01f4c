-- What the single reading in the paper's order gives: the line and mark of the reading as it stands, for any 70 bytes. Section III-C's
-- claims on damaged lines are in promises/specs/Claims.antt.
use Rattle.std.specs.Prelude.{◌≡◌, List, ℕ, ◌≤◌, length}
use Rattle.gf2.specs.Word.{Word}
use Rattle.linecode.specs.Places.{protected_places, line_places, line_bytes}
use Rattle.linecode.specs.Code.{accepted, syndrome, answer_to, place_of}
use Rattle.linecode.specs.Reading.{read_alone}
use Rattle.linecode.specs.Entry.{reading}
use Rattle.paper_order.specs.PaperOrder.{crc_matches, corrector, read_in_order, reading_in_order}

-- found is a line as found, in its places
pub record InPaperOrder : Type 0 where
  -- line and mark are those of the reading as it stands, in places and in bytes
  pub in_places : (found : Word) → length found ≡ line_places → read_in_order found ≡ read_alone found
  pub in_bytes : (line : List ℕ) → length line ≡ line_bytes → reading_in_order line ≡ reading line
  -- the CRC matches exactly where the 543 protected places are divisible by the generator
  pub compares : (found : Word) → length found ≡ line_places → crc_matches found ≡ accepted found
  -- where the place named lies past the protected ones, as a Hamming bit and none do, the second comparison ends as the first did
  pub past_protected : (found : Word) → length found ≡ line_places → protected_places ≤ place_of (answer_to (syndrome found))
      → crc_matches (corrector found) ≡ crc_matches found
