-- Document 01, "The rectangle": changing one line together with its two parity lines.
use Rattle.std.specs.Prelude.{cond, List, ℕ, ◌/◌, ◌%◌, eqb}
use Rattle.gf2.specs.Word.{Word, ◌⊕◌}
use Rattle.rectangle.specs.Store.{line_layer, write_under, places_at, put_line, alone_at}
use Rattle.rectangle.specs.Refusals.{change_refusal, number_with}

-- line n as the data make it
unfoldable pub new_line : ℕ → List ℕ → Word
new_line n payload = write_under (line_layer.address n) payload

-- the exclusive or of the old line, as it reads alone, and the new line
unfoldable pub difference : List ℕ → ℕ → List ℕ → Word
difference lines n payload = (alone_at lines n).line ⊕ new_line n payload

-- an exclusive or put into parity line k of a table
unfoldable pub add_to : List ℕ → ℕ → Word → List ℕ
add_to table k w = put_line table k (places_at table k ⊕ w)

-- what changing a line answers, the number of its row or column that comes with 13 or 14, and the three buffers as it leaves them
pub record LineChanged : Type 0 where
  pub answer : ℕ
  pub number : ℕ
  pub lines : List ℕ
  pub row_table : List ℕ
  pub column_table : List ℕ

-- the entry point: a refusal writes nothing
unfoldable pub change_line : ℕ → ℕ → List ℕ → List ℕ → List ℕ → ℕ → List ℕ → LineChanged
change_line rows columns lines row_table column_table n payload =
    let refusal = change_refusal rows columns lines row_table column_table n payload in
    let both = difference lines n payload in
    cond (eqb refusal 0)
    (record {
      answer = 0;
      number = 0;
      lines = put_line lines n (new_line n payload);
      row_table = add_to row_table (n / columns) both;
      column_table = add_to column_table (n % columns) both;
    })
    (record {
      answer = refusal;
      number = number_with refusal (n / columns) (n % columns);
      lines = lines;
      row_table = row_table;
      column_table = column_table;
    })
