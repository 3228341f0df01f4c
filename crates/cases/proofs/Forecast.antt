-- A rectangle and a pattern as the forecast's promises ask for them: a 2 by 2 store of zero lines, of which line 0 is hurt at two places.
use mathlib.Core.Path.{◌≡◌, refl, sym, ◌∙◌}
use mathlib.Core.Bool.{false}
use mathlib.Core.List.{List, [], ◌∷◌}
use Prim.Native.Nat.{ℕ, zero, suc, ◌<◌}
use native.Mathlib.Omega.{arith}
use borrow.Author.Tests.{eqb-true, eq-eqb}
use lib.Dec.{eqb}
use lib.ListN.{get_or}
use Rattle.gf2.specs.Generator.{generator, generator_polynomial}
use Rattle.linecode.specs.Places.{data_places, protected_places, hamming_places, line_places, line_bytes, places, line_of}
use Rattle.linecode.specs.Code.{protected, data_of, accepted, hamming_columns, positions, hamming, with_crc, with_hamming, codeword, is_correct, columns, syndrome, naming, answer_to}
use Rattle.linecode.specs.Reading.{read_alone}
use Rattle.scheme.specs.Parity.{unusable}
use Rattle.rectangle.specs.Store.{line_layer, read_under, bytes_at, places_at, alone_at, row, column, row_group, column_group}
use Rattle.rectangle.specs.Refusals.{accepted_at}
use Rattle.rectangle.proofs.Groups.{by-groups}
use Rattle.demands.specs.Demands.{Rectangle}
use Rattle.forecast.specs.Promises.{FaultySoMet}
use Rattle.sampling.specs.Rows.{clean, hurt, joined}

hurt_store : Rectangle
hurt_store =
    record {
      rows = 2;
      columns = 2;
      lines = joined (hurt (0 ∷ 1 ∷ []) ∷ clean ∷ clean ∷ clean ∷ []);
      row_table = joined (clean ∷ clean ∷ []);
      column_table = joined (clean ∷ clean ∷ []);
    }

hurt_pattern : List ℕ
hurt_pattern = 1 ∷ 0 ∷ 0 ∷ 0 ∷ []

-- a line reads alone exactly where the pattern has 0, by computation
as-named : (n : ℕ) → n < 4 → accepted_at hurt_store.lines n ≡ eqb (get_or hurt_pattern n 0) 0
unfolding hurt_store generator generator_polynomial data_places protected_places hamming_places line_places line_bytes places line_of protected data_of accepted hamming_columns positions hamming with_crc with_hamming codeword is_correct columns syndrome naming answer_to read_alone read_under bytes_at places_at alone_at accepted_at clean hurt hurt_pattern
as-named zero h = refl
as-named (suc zero) h = refl
as-named (suc (suc zero)) h = refl
as-named (suc (suc (suc zero))) h = refl
as-named (suc (suc (suc (suc n)))) h = let z : ⊥ = omega arith in absurd z

-- and so do the parity lines
row-usable : (k : ℕ) → k < 2 → unusable line_layer (row_group 2 hurt_store.row_table k) ≡ false
unfolding hurt_store generator generator_polynomial data_places protected_places hamming_places line_places line_bytes places line_of protected data_of accepted hamming_columns positions hamming with_crc with_hamming codeword is_correct columns syndrome naming answer_to read_alone read_under bytes_at places_at unusable row column clean
row-usable zero h = refl
row-usable (suc zero) h = refl
row-usable (suc (suc k)) h = let z : ⊥ = omega arith in absurd z

column-usable : (k : ℕ) → k < 2 → unusable line_layer (column_group 2 2 hurt_store.column_table k) ≡ false
unfolding hurt_store generator generator_polynomial data_places protected_places hamming_places line_places line_bytes places line_of protected data_of accepted hamming_columns positions hamming with_crc with_hamming codeword is_correct columns syndrome naming answer_to read_alone read_under bytes_at places_at unusable row column clean
column-usable zero h = refl
column-usable (suc zero) h = refl
column-usable (suc (suc k)) h = let z : ⊥ = omega arith in absurd z

pub faulty-so-met : FaultySoMet
unfolding hurt_store hurt_pattern
faulty-so-met =
    record {
      rectangle = hurt_store;
      pattern = hurt_pattern;
      so =
          record {
            names =
                record {
                  each = refl;
                  named = λ n h e. as-named n h ∙ eq-eqb (get_or hurt_pattern n 0) 0 e;
                  usable =
                      by-groups 2 2 (omega arith) hurt_store.row_table hurt_store.column_table (λ g. unusable line_layer g ≡ false) row-usable
                      column-usable;
                };
            no_other = λ n h a. eqb-true (get_or hurt_pattern n 0) 0 (sym (as-named n h) ∙ a);
          };
      named = (0, omega arith, as-named 0 (omega arith));
      whole = (1, omega arith, as-named 1 (omega arith));
    }
