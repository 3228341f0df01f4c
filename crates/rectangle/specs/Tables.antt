-- Document 01, "The rectangle": making both parity tables from lines, each used as it reads alone.
use Rattle.std.specs.Prelude.{cond, List, map, ℕ, eqb}
use Rattle.gf2.specs.Word.{Word}
use Rattle.linecode.specs.Code.{up_from}
use Rattle.scheme.specs.Visit.{sum}
use Rattle.rectangle.specs.Store.{alone_at, buffer_of, row, column}
use Rattle.rectangle.specs.Refusals.{tables_refusal}

-- the parity line of row r and that of column c: the place-by-place exclusive or of the lines
unfoldable pub row_parity : ℕ → List ℕ → ℕ → Word
row_parity columns lines r = sum (λ n. (alone_at lines n).line) (row columns r)

unfoldable pub column_parity : ℕ → ℕ → List ℕ → ℕ → Word
column_parity rows columns lines c = sum (λ n. (alone_at lines n).line) (column rows columns c)

-- both tables, spare bits 0
unfoldable pub row_table_of : ℕ → ℕ → List ℕ → List ℕ
row_table_of rows columns lines = buffer_of (map (row_parity columns lines) (up_from 0 rows))

unfoldable pub column_table_of : ℕ → ℕ → List ℕ → List ℕ
column_table_of rows columns lines = buffer_of (map (column_parity rows columns lines) (up_from 0 columns))

-- what making tables answers, and both tables as it leaves them
pub record TablesMade : Type 0 where
  pub answer : ℕ
  pub row_table : List ℕ
  pub column_table : List ℕ

-- the entry point: a refusal writes nothing
unfoldable pub make_tables : ℕ → ℕ → List ℕ → List ℕ → List ℕ → TablesMade
make_tables rows columns lines row_table column_table =
    let refusal = tables_refusal rows columns lines row_table column_table in
    cond (eqb refusal 0)
    (record { answer = 0; row_table = row_table_of rows columns lines; column_table = column_table_of rows columns lines })
    (record { answer = refusal; row_table = row_table; column_table = column_table })
