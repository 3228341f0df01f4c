-- A rectangle written, as the scheme's theory sees it: correct lines, and parity lines that are the sums of their groups.
use mathlib.Core.Path.{◌≡◌, refl, sym, ap, subst, ◌∙◌}
use mathlib.Core.Bool.{true}
use mathlib.Core.List.{List, map}
use Prim.Native.Nat.{ℕ, ◌*◌, ◌<◌}
use native.Mathlib.Omega.{arith}
use lib.ListN.{length}
use Rattle.gf2.specs.Word.{Word}
use Rattle.linecode.specs.Places.{line_bytes}
use Rattle.linecode.specs.Code.{up_from}
use Rattle.scheme.specs.Layer.{CorrectLine, parity_address, Promises}
use Rattle.scheme.specs.Visit.{sum}
use Rattle.scheme.specs.Demand3.{◌∈◌, word_at}
use Rattle.scheme.specs.Demand3 as Scheme
use Rattle.scheme.proofs.Sums.{sum-ext}
use Rattle.rectangle.specs.Store.{line_layer, places_at, lines_in, buffer_of, alone_at, row, column, groups}
use Rattle.rectangle.specs.Refusals.{sides_fit, accepted_at}
use Rattle.rectangle.specs.Tables.{row_parity, column_parity, row_table_of, column_table_of}
use Rattle.demands.specs.Demands.{Rectangle, count, Written}
use Rattle.rectangle.proofs.Buffer.{Sized, length-lines_in, lines_in-at, lines_in-buffer_of, places_at-buffer_of, length-buffer_of, table_at}
use Rattle.rectangle.proofs.Members.{map_below}
use Rattle.rectangle.proofs.Groups.{Sides, sides, row_inside, column-inside, by-groups}
use Rattle.demands.proofs.Parity.{alone-correct, correct-accepted, row_parity-correct, column_parity-correct}

-- the places of a rectangle's lines
abbrev pub words_of : Rectangle → List Word
words_of r = lines_in (count r) r.lines

-- the rectangle of some lines, with the tables made from them
unfoldable pub rectangle_of : ℕ → ℕ → List ℕ → Rectangle
rectangle_of rows columns lines =
    record {
      rows = rows;
      columns = columns;
      lines = lines;
      row_table = row_table_of rows columns lines;
      column_table = column_table_of rows columns lines;
    }

-- a table of a rectangle written, in either direction: of so many parity lines, each of the lines with some numbers
pub record TableWritten (w : Rectangle) (members : ℕ → List ℕ) (total : ℕ) (table : List ℕ) : Type 0 where
  pub bytes : table ≡ buffer_of (lines_in total table)
  pub from_lines : (k : ℕ) → k < total → places_at table k ≡ sum (λ n. (alone_at w.lines n).line) (members k)
  pub sums : (k : ℕ) → k < total → places_at table k ≡ sum (word_at (words_of w)) (members k)
  pub correct : (k : ℕ) → k < total → line_layer.Correct (parity_address line_layer (members k)) (places_at table k)

module _ (promises : Promises line_layer) (w : Rectangle) (written : Written w) where
  pub all-sides : Sides w.rows w.columns
  all-sides = sides w.rows w.columns written.sides

  pub some-rows : 0 < w.rows
  some-rows = omega (arith, all-sides.rows_low)

  pub some-columns : 0 < w.columns
  some-columns = omega (arith, all-sides.columns_low)

  pub written-bytes : length w.lines ≡ count w * line_bytes
  written-bytes =
      ap length written.lines
      ∙ length-buffer_of (words_of w)
      ∙ ap (λ (k : ℕ). k * line_bytes) (length-lines_in (count w) w.lines)

  pub written-accepted : (n : ℕ) → n < count w → accepted_at w.lines n ≡ true
  written-accepted n h = correct-accepted promises w.lines n (written.correct n h)

  -- the lines written, as lists of places
  pub line_at : (n : ℕ) → n < count w → (alone_at w.lines n).line ≡ word_at (words_of w) n
  line_at n h =
      alone-correct promises w.lines n (written.correct n h) ∙ sym (lines_in-at (count w) w.lines n h)

  -- a table made from the lines, in either direction
  made : (members : ℕ → List ℕ) (total : ℕ) → ((k m : ℕ) → k < total → m ∈ members k → m < count w)
      → ((k : ℕ) → k < total → line_layer.Correct (parity_address line_layer (members k)) (sum (λ n. (alone_at w.lines n).line) (members k)))
      → (table : List ℕ) → table ≡ buffer_of (map (λ k. sum (λ n. (alone_at w.lines n).line) (members k)) (up_from 0 total))
      → TableWritten w members total table
  unfolding lines_in
  made members total inside correct table e =
      record {
        bytes = e ∙ ap buffer_of (map_below parity (places_at table) total (λ k h. sym (at k h)));
        from_lines = at;
        sums = λ k h. at k h ∙ sum-ext _ (word_at (words_of w)) (members k) (λ m i. line_at m (inside k m h i));
        correct = λ k h. subst (line_layer.Correct (parity_address line_layer (members k))) (sym (at k h)) (correct k h);
      }
    where
      parity : ℕ → Word
      parity k = sum (λ n. (alone_at w.lines n).line) (members k)

      at : (k : ℕ) → k < total → places_at table k ≡ parity k
      at k h =
          ap (λ (l : List ℕ). places_at l k) e
          ∙ table_at parity total (λ n i. promises.sized (parity_address line_layer (members n)) _ (correct n i)) k h

  pub rows_written : TableWritten w (row w.columns) w.rows w.row_table
  unfolding row_table_of row_parity
  rows_written =
      made (row w.columns) w.rows (λ k m h i. row_inside w.rows w.columns some-columns k m h i)
      (row_parity-correct promises w.rows w.columns some-rows some-columns w.lines written-bytes written-accepted)
      w.row_table written.row_table

  pub columns-written : TableWritten w (column w.rows w.columns) w.columns w.column_table
  unfolding column_table_of column_parity
  columns-written =
      made (column w.rows w.columns) w.columns (λ k m h i. column-inside w.rows w.columns some-columns k m h i)
      (column_parity-correct promises w.rows w.columns some-rows some-columns w.lines written-bytes written-accepted)
      w.column_table written.column_table

  pub written_row : (r : ℕ) → r < w.rows → places_at w.row_table r ≡ row_parity w.columns w.lines r
  unfolding row_parity
  written_row = rows_written.from_lines

  pub written-column : (c : ℕ) → c < w.columns → places_at w.column_table c ≡ column_parity w.rows w.columns w.lines c
  unfolding column_parity
  written-column = columns-written.from_lines

  -- the lines written are correct lines
  pub words-correct : (n : ℕ) → n < length (words_of w) → CorrectLine line_layer n (word_at (words_of w) n)
  words-correct n h =
      let inside : n < count w = omega (arith, length-lines_in (count w) w.lines) in
      subst (CorrectLine line_layer n) (sym (lines_in-at (count w) w.lines n inside)) (written.correct n inside)

  -- with tables that have the places written, they are a store written
  pub store-written : (row_table column_table : List ℕ) → ((r : ℕ) → r < w.rows → places_at row_table r ≡ places_at w.row_table r)
      → ((c : ℕ) → c < w.columns → places_at column_table c ≡ places_at w.column_table c)
      → Scheme.Written line_layer (groups w.rows w.columns row_table column_table) (words_of w)
  store-written row_table column_table rows_agree columns_agree =
      record {
        correct = words-correct;
        parities =
            by-groups w.rows w.columns some-columns row_table column_table
            (λ g. g.parity ≡ sum (word_at (words_of w)) g.members)
            (λ r h. rows_agree r h ∙ rows_written.sums r h)
            (λ c h. columns_agree c h ∙ columns-written.sums c h);
      }

-- correct lines make a rectangle written
pub correct-written : Promises line_layer → (rows columns : ℕ) (ws : List Word) → sides_fit rows columns ≡ true
    → length ws ≡ rows * columns → ((n : ℕ) → n < length ws → CorrectLine line_layer n (word_at ws n))
    → Written (rectangle_of rows columns (buffer_of ws))
unfolding rectangle_of
correct-written promises rows columns ws fit e correct =
    record {
      sides = fit;
      lines = sym (ap buffer_of (ap (λ (k : ℕ). lines_in k (buffer_of ws)) (sym e) ∙ lines_in-buffer_of ws sized));
      correct = λ n h.
          let inside : n < length ws = omega arith in
          subst (CorrectLine line_layer n) (sym (places_at-buffer_of ws sized n inside)) (correct n inside);
      row_table = refl;
      column_table = refl;
    }
  where
    sized : Sized ws
    sized n h = promises.sized (line_layer.address n) (word_at ws n) (correct n h)
