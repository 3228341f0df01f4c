-- The header as it is put into a buffer.
use mathlib.Core.Path.{◌≡◌, refl, sym, ap, ◌∙◌}
use mathlib.Core.Logic.{◌⊎◌, inl, inr}
use mathlib.Core.Bool.{true, false}
use mathlib.Core.List.{List, ◌++◌}
use Prim.Native.Nat.{ℕ, ◌+◌, ◌≤◌}
use native.Mathlib.Omega.{arith}
use borrow.Author.Tests.{eq-eqb, ne_eqb}
use lib.ListN.{length}
use Rattle.rectangle.specs.Refusals.{sides_fit}
use Rattle.rectangle.proofs.Tests.{passed}
use Rattle.rectangle.proofs.Runs.{zero_or_not}
use Rattle.storefile.specs.Bytes.{little_endian, placed}
use Rattle.storefile.specs.Header.{header_bytes, lines_part, row_table_part, column_table_part, entry, header, HeaderWritten, header_refusal, write_header}
use Rattle.storefile.specs.declared.header.Part.{Part}
use Rattle.storefile.proofs.Placing.{placed-then, placed-whole}

pub length-header : (rows columns : ℕ) → length (header rows columns) ≡ 28
unfolding header entry
length-header rows columns = refl

-- an entry put as its offset and its length
pub entry-put : (old : List ℕ) (at : ℕ) → at + 8 ≤ length old → (p : Part) (half whole : List ℕ)
    → half ≡ placed old at (little_endian 4 p.offset) → whole ≡ placed half (at + 4) (little_endian 4 p.size)
    → whole ≡ placed old at (entry p)
unfolding entry
entry-put old at h p half whole e f =
    placed-then old at (little_endian 4 p.offset) half (at + 4) (little_endian 4 p.size) whole refl (omega arith) e f

-- rows, columns and three entries put one after the other
module _ (old : List ℕ) (room : 28 ≤ length old) (rows columns : ℕ) where
  pub header-put : (a b c d e : List ℕ) (p q r : Part)
      → a ≡ placed old 0 (little_endian 2 rows) → b ≡ placed a 2 (little_endian 2 columns)
      → p ≡ lines_part rows columns → c ≡ placed b 4 (entry p)
      → q ≡ row_table_part rows columns → d ≡ placed c 12 (entry q)
      → r ≡ column_table_part rows columns → e ≡ placed d 20 (entry r)
      → e ≡ placed old 0 (header rows columns)
  unfolding header entry
  header-put a b c d e p q r ea eb ep ec eq ed er ee =
      placed-then old 0 two-lines-rows d 20 (entry (column_table_part rows columns)) e refl (omega arith)
      (placed-then old 0 two-lines c 12 (entry (row_table_part rows columns)) d refl (omega arith)
      (placed-then old 0 two b 4 (entry (lines_part rows columns)) c refl (omega arith)
      (placed-then old 0 (little_endian 2 rows) a 2 (little_endian 2 columns) b refl (omega arith) ea eb)
      (ec ∙ ap (λ (x : Part). placed b 4 (entry x)) ep))
      (ed ∙ ap (λ (x : Part). placed c 12 (entry x)) eq))
      (ee ∙ ap (λ (x : Part). placed d 20 (entry x)) er)
    where
      two : List ℕ
      two = little_endian 2 rows ++ little_endian 2 columns

      two-lines : List ℕ
      two-lines = two ++ entry (lines_part rows columns)

      two-lines-rows : List ℕ
      two-lines-rows = two-lines ++ entry (row_table_part rows columns)

-- ---- the entry point that writes a header, case by case
module _ (rows columns : ℕ) (out : List ℕ) where
  pub header-refused-2 : sides_fit rows columns ≡ false → record { answer = 2; out = out } ≡ write_header rows columns out
  unfolding write_header header_refusal
  header-refused-2 e = rw e

  pub header-refused-7 : sides_fit rows columns ≡ true → (length out ≡ 28 → ⊥)
      → record { answer = 7; out = out } ≡ write_header rows columns out
  unfolding write_header header_refusal header_bytes
  header-refused-7 e d = rw (e, ne_eqb (length out) 28 d)

  pub header-given : sides_fit rows columns ≡ true → length out ≡ 28 → (after : List ℕ)
      → after ≡ placed out 0 (header rows columns) → record { answer = 0; out = after } ≡ write_header rows columns out
  unfolding write_header header_refusal header_bytes
  header-given e l after f =
      rw (e, eq-eqb (length out) 28 l)
      (ap (λ (b : List ℕ). record { answer = 0; out = b })
      (f ∙ placed-whole out (header rows columns) (l ∙ sym (length-header rows columns))))

  header-sides : header_refusal rows columns out ≡ 0 → sides_fit rows columns ≡ true
  unfolding header_refusal
  header-sides z = (passed (sides_fit rows columns) 2 _ (λ y. omega arith) z).0

  header-runs : header_refusal rows columns out ≡ 0 → write_header rows columns out ≡ record { answer = 0; out = header rows columns }
  unfolding write_header
  header-runs z = rw z

  header_refused : (header_refusal rows columns out ≡ 0 → ⊥)
      → write_header rows columns out ≡ record { answer = header_refusal rows columns out; out = out }
  unfolding write_header
  header_refused d = rw (ne_eqb (header_refusal rows columns out) 0 d)

  -- a header that was written is the one that rows and columns require
  pub header_made : (write_header rows columns out).answer ≡ 0
      → (sides_fit rows columns ≡ true) × ((write_header rows columns out).out ≡ header rows columns)
  header_made = go (zero_or_not (header_refusal rows columns out))
    where
      go : (header_refusal rows columns out ≡ 0) ⊎ (header_refusal rows columns out ≡ 0 → ⊥) → (write_header rows columns out).answer ≡ 0
          → (sides_fit rows columns ≡ true) × ((write_header rows columns out).out ≡ header rows columns)
      go (inl z) e = (header-sides z, ap (λ (w : HeaderWritten). w.out) (header-runs z))
      go (inr d) e = absurd (d (sym (ap (λ (w : HeaderWritten). w.answer) (header_refused d)) ∙ e))
