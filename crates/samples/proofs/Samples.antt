-- Every starred sample follows from the rules: one theorem over the table, by computation from the definitions.
use lib.Dec.{T}
use lib.ListN.{take, drop}
use Rattle.gf2.specs.Generator.{generator, generator_polynomial}
use Rattle.linecode.specs.Places.{data_places, protected_places, hamming_places, line_places, line_bytes, places, line_of}
use Rattle.linecode.specs.Code.{protected, data_of, accepted, hamming_columns, positions, hamming, with_crc, with_hamming, codeword, is_correct, columns, syndrome, naming, answer_to, place_of}
use Rattle.linecode.specs.Reading.{read_alone}
use Rattle.linecode.specs.Entry.{written}
use Rattle.scheme.specs.Visit.{rebuild, settle, mismatch, trial, visit}
use Rattle.scheme.specs.Repair.{passes_from, repair, answer}
use Rattle.scheme.specs.Parity.{unusable, as_read, parity_after}
use Rattle.rectangle.specs.Store.{read_under, bytes_at, places_at, lines_in, row, column, groups}
use Rattle.rectangle.specs.Refusals.{side_fits, sides_fit, holds, tables_fit, repair_refusal}
use Rattle.rectangle.specs.Repair.{used_groups, repaired_by, table_after, handed_over, repair_by}
use Rattle.sampling.specs.Rows.{clean, hurt, last, repaired_with, all}
use Rattle.sampling.proofs.Parts.{by_parts}
use Rattle.samples.specs.Samples.{samples}

-- ---- the starred samples: those of one line, three that are mended, and the other stores
lines-hold : T (all (take 9 samples))
unfolding generator generator_polynomial data_places protected_places hamming_places line_places line_bytes places line_of protected data_of accepted hamming_columns positions hamming with_crc with_hamming codeword is_correct columns syndrome naming answer_to place_of read_alone written
lines-hold = tt

mended-hold : T (all (take 3 (drop 9 samples)))
unfolding generator generator_polynomial data_places protected_places hamming_places line_places line_bytes places line_of protected data_of accepted hamming_columns positions hamming with_crc with_hamming codeword is_correct columns syndrome naming answer_to read_alone rebuild settle mismatch trial visit passes_from repair answer unusable as_read parity_after read_under bytes_at places_at lines_in row column groups side_fits sides_fit holds tables_fit repair_refusal used_groups repaired_by table_after handed_over repair_by clean hurt last repaired_with
mended-hold = tt

stores-hold : T (all (drop 3 (drop 9 samples)))
unfolding generator generator_polynomial data_places protected_places hamming_places line_places line_bytes places line_of protected data_of accepted hamming_columns positions hamming with_crc with_hamming codeword is_correct columns syndrome naming answer_to read_alone rebuild settle mismatch trial visit passes_from repair answer unusable as_read parity_after read_under bytes_at places_at lines_in row column groups side_fits sides_fit holds tables_fit repair_refusal used_groups repaired_by table_after handed_over repair_by clean hurt last repaired_with
stores-hold = tt

pub samples-hold : T (all samples)
samples-hold = by_parts 9 samples lines-hold (by_parts 3 (drop 9 samples) mended-hold stores-hold)
