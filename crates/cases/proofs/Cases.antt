-- Every case follows from the rules, by computation from the definitions.
use lib.Dec.{T}
use lib.ListN.{take, drop}
use Rattle.gf2.specs.Generator.{generator, generator_polynomial}
use Rattle.linecode.specs.Places.{data_bytes, data_places, protected_places, hamming_places, line_places, line_bytes, places, line_of}
use Rattle.linecode.specs.Code.{protected, data_of, accepted, hamming_columns, positions, hamming, with_crc, with_hamming, codeword, is_correct, columns, syndrome, naming, answer_to}
use Rattle.linecode.specs.Reading.{read_alone}
use Rattle.linecode.specs.Before.{read_before}
use Rattle.scheme.specs.Visit.{rebuild, settle, mismatch, trial, visit}
use Rattle.scheme.specs.Repair.{passes_from, repair, answer}
use Rattle.scheme.specs.Parity.{unusable, as_read, parity_after}
use Rattle.rectangle.specs.Store.{read_under, is_correct_under, bytes_at, places_at, lines_in, alone_at, row, column, groups}
use Rattle.rectangle.specs.Refusals.{side_fits, sides_fit, holds, tables_fit, parity_correct, accepted_at, change_refusal, repair_refusal, number_with}
use Rattle.rectangle.specs.Change.{change_line}
use Rattle.rectangle.specs.Repair.{used_groups, repaired_by, table_after, handed_over, repair_by}
use Rattle.local_decoding.specs.Lookup.{after_row, last_step, one_refusal, read_one}
use Rattle.sampling.specs.Rows.{clean, hurt, last, repaired_with, changed_with, read_with, all}
use Rattle.sampling.proofs.Parts.{by_parts}
use Rattle.cases.specs.Cases.{cases, parity_cases, one_cases}

pub cases-hold : T (all cases)
unfolding generator generator_polynomial data_places protected_places hamming_places line_places line_bytes places line_of protected data_of accepted hamming_columns positions hamming with_crc with_hamming codeword is_correct columns syndrome naming answer_to read_alone rebuild settle mismatch trial visit passes_from repair answer unusable as_read parity_after read_under bytes_at places_at lines_in row column groups side_fits sides_fit holds tables_fit repair_refusal used_groups repaired_by table_after handed_over repair_by clean hurt last repaired_with read_before is_correct_under number_with data_bytes parity_correct alone_at accepted_at change_refusal change_line changed_with
cases-hold = tt

whole-hold : T (all (take 3 parity_cases))
unfolding generator generator_polynomial data_places protected_places hamming_places line_places line_bytes places line_of protected data_of accepted hamming_columns positions hamming with_crc with_hamming codeword is_correct columns syndrome naming answer_to read_alone rebuild settle mismatch trial visit passes_from repair answer unusable as_read parity_after read_under bytes_at places_at lines_in row column groups side_fits sides_fit holds tables_fit repair_refusal used_groups repaired_by table_after handed_over repair_by clean hurt last repaired_with
whole-hold = tt

unlike-hold : T (all (drop 3 parity_cases))
unfolding generator generator_polynomial data_places protected_places hamming_places line_places line_bytes places line_of protected data_of accepted hamming_columns positions hamming with_crc with_hamming codeword is_correct columns syndrome naming answer_to read_alone rebuild settle mismatch trial visit passes_from repair answer unusable as_read parity_after read_under bytes_at places_at lines_in row column groups side_fits sides_fit holds tables_fit repair_refusal used_groups repaired_by table_after handed_over repair_by clean hurt last repaired_with
unlike-hold = tt

pub parity-cases-hold : T (all parity_cases)
parity-cases-hold = by_parts 3 parity_cases whole-hold unlike-hold

-- ---- one line wanted
early-hold : T (all (take 3 one_cases))
unfolding generator generator_polynomial data_places protected_places hamming_places line_places line_bytes places line_of protected data_of accepted hamming_columns positions hamming with_crc with_hamming codeword is_correct columns syndrome naming answer_to read_alone rebuild settle mismatch trial visit passes_from repair answer unusable as_read parity_after read_under bytes_at places_at lines_in alone_at row column groups side_fits sides_fit holds tables_fit repair_refusal used_groups repaired_by table_after handed_over repair_by clean hurt last after_row last_step one_refusal read_one read_with
early-hold = tt

apart-hold : T (all (drop 3 one_cases))
unfolding generator generator_polynomial data_places protected_places hamming_places line_places line_bytes places line_of protected data_of accepted hamming_columns positions hamming with_crc with_hamming codeword is_correct columns syndrome naming answer_to read_alone rebuild settle mismatch trial visit passes_from repair answer unusable as_read parity_after read_under bytes_at places_at lines_in alone_at row column groups side_fits sides_fit holds tables_fit repair_refusal used_groups repaired_by table_after handed_over repair_by clean hurt last after_row last_step one_refusal read_one read_with
apart-hold = tt

pub one-cases-hold : T (all one_cases)
one-cases-hold = by_parts 3 one_cases early-hold apart-hold
