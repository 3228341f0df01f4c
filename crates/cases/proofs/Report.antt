-- Document 01's sample report follows by computation from the definitions.
use mathlib.Core.Path.{◌≡◌, refl, ap₂}
use mathlib.Core.Bool.{Bool, true, false, ◌&&◌}
use mathlib.Core.List.{List, [], ◌∷◌}
use Prim.Native.Nat.{ℕ}
use borrow.Author.Tests.{eqb-true}
use lib.Dec.{T, eqb}
use Rattle.gf2.specs.Generator.{generator, generator_polynomial}
use Rattle.linecode.specs.Places.{data_places, protected_places, hamming_places, line_places, line_bytes, places, line_of}
use Rattle.linecode.specs.Code.{protected, data_of, accepted, hamming_columns, positions, hamming, with_crc, with_hamming, codeword, is_correct, columns, syndrome, naming, answer_to}
use Rattle.linecode.specs.Reading.{read_alone}
use Rattle.scheme.specs.Repair.{passes_from, repair, answer}
use Rattle.scheme.specs.Parity.{unusable, as_read, parity_after}
use Rattle.rectangle.specs.Store.{read_under, bytes_at, places_at, lines_in, row, column, groups}
use Rattle.rectangle.specs.Refusals.{side_fits, sides_fit, holds, tables_fit, repair_refusal}
use Rattle.rectangle.specs.Repair.{used_groups, repaired_by, table_after, hands_over, handed_over, repair_by}
use Rattle.storefile.specs.Bytes.{number_at}
use Rattle.storefile.specs.Header.{header_bytes, lines_part, row_table_part, column_table_part, file_length, entry, header, bytes_in}
use Rattle.storefile.specs.Opening.{rows_in, columns_in, sides_within, entry_is, entries_fit, contents_fit, open_refusal, opened}
use Rattle.results.specs.Marks.{count_of, counts_of, no_counts}
use Rattle.report.specs.Report.{decimal, spaced, line, store_line, count_lines, lines_above, report_text}
use Rattle.report.specs.Program.{zero_buffers}
use Rattle.report.specs.Check.{refused_with, repair_opened, counted, check_store}
use Rattle.sampling.specs.Rows.{same_bytes}
use Rattle.cases.specs.Report.{ZeroStoreReport}

same_bytes_lem : (x y : List ℕ) → T (same_bytes x y) → x ≡ y
same_bytes_lem [] [] t = refl
same_bytes_lem [] (b ∷ y) t = absurd t
same_bytes_lem (a ∷ x) [] t = absurd t
same_bytes_lem (a ∷ x) (b ∷ y) t = go (eqb a b) refl t (same_bytes_lem x y)
  where
    go : (c : Bool) → eqb a b ≡ c → T (c && same_bytes x y) → (T (same_bytes x y) → x ≡ y) → (a ∷ x) ≡ (b ∷ y)
    go true e t rest = ap₂ (λ (h : ℕ) (l : List ℕ). h ∷ l) (eqb-true a b e) (rest t)
    go false e t rest = absurd t

pub zero-store-report : ZeroStoreReport
unfolding generator generator_polynomial data_places protected_places hamming_places line_places line_bytes places line_of protected data_of accepted hamming_columns positions hamming with_crc with_hamming codeword is_correct columns syndrome naming answer_to read_alone passes_from repair answer unusable as_read parity_after read_under bytes_at places_at lines_in row column groups side_fits sides_fit holds tables_fit repair_refusal used_groups repaired_by table_after handed_over repair_by number_at header_bytes lines_part row_table_part column_table_part file_length entry header bytes_in rows_in columns_in sides_within entry_is entries_fit contents_fit open_refusal opened count_of counts_of no_counts decimal spaced line store_line count_lines lines_above hands_over report_text refused_with repair_opened counted check_store zero_buffers
zero-store-report = same_bytes_lem _ _ tt
