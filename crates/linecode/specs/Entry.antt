-- Writing and reading one line on bytes, for whatever tells of refusals.
use Rattle.std.specs.Prelude.{List, ℕ}
use Rattle.linecode.specs.Places.{bits_of, places, line_of}
use Rattle.linecode.specs.Code.{codeword}
use Rattle.linecode.specs.Reading.{read_alone}
use Rattle.linecode.specs.declared.alone.Reading.{Reading}

-- writing 64 data bytes
unfoldable pub written : List ℕ → List ℕ
written payload = line_of (codeword (bits_of payload))

-- reading 70 bytes alone
unfoldable pub reading : List ℕ → Reading
reading line = record { line = line_of (read_alone (places line)).word; mark = (read_alone (places line)).mark }
