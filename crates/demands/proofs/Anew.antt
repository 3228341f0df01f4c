-- A change on a rectangle that agrees with its tables equals tables made anew, place by place, and the rectangle agrees again.
use mathlib.Core.Path.{◌≡◌, refl, sym, ap, ap₂, subst, ◌∙◌}
use mathlib.Core.Bool.{true, not}
use mathlib.Core.List.{List}
use Prim.Native.Nat.{ℕ, ◌*◌, ◌/◌, ◌%◌, ◌<◌}
use native.Mathlib.Omega.{arith}
use native.Mathlib.Decide.{ℕ_discrete}
use borrow.Author.Tests.{eq-eqb, lt-ltb, eqb-false, not-true}
use lib.Dec.{eqb}
use lib.ListN.{length}
use Rattle.gf2.specs.Word.{Word, ◌⊕◌, zeros}
use Rattle.gf2.proofs.Xor.{xor_comm, xor-swap, xor_self, xor-zeros, length-xor, length-xor-same}
use Rattle.linecode.specs.Places.{data_bytes, line_places, line_bytes}
use Rattle.scheme.specs.Layer.{CorrectLine, read_line, Promises}
use Rattle.scheme.specs.Visit.{is_faulty, without, sum}
use Rattle.scheme.specs.Demand3.{◌∈◌, Rising}
use Rattle.scheme.proofs.Lists.{selected}
use Rattle.scheme.proofs.Sums.{sum-ext, sum-split}
use Rattle.rectangle.specs.Store.{line_layer, places_at, put_line, alone_at, row, column}
use Rattle.rectangle.specs.Refusals.{accepted_at, change_refusal}
use Rattle.rectangle.specs.Tables.{row_parity, column_parity}
use Rattle.rectangle.specs.Change.{new_line, difference, add_to, LineChanged}
use Rattle.demands.specs.Demands.{Rectangle, count, change_in, Agrees, changed, ChangeEqualsTablesAnew}
use Rattle.rectangle.proofs.Buffer.{length-holds, length-places_at, length-put_line, places_at-put, places_at-other}
use Rattle.rectangle.proofs.Groups.{in_row, row_number, row_inside, row_below, in-column, column-number, column-inside, column-below, rising-row, rising-column}
use Rattle.rectangle.proofs.Tests.{tables-lengths, lengths-tables}
use Rattle.rectangle.proofs.Runs.{change-runs}
use Rattle.demands.proofs.Parity.{correct-reads, correct-accepted, accepted-correct}
use Rattle.rectangle.proofs.LineLayer.{write-correct}
use Rattle.demands.proofs.Agreement.{some-columns, line-bytes, row-accepted, column-accepted, anew-answers, anew-rows, anew-columns}

-- ---- the exclusive or of a group in which line n alone changes
module _ (old new : ℕ → Word) (n : ℕ) (ns : List ℕ) (others : (m : ℕ) → m ∈ ns → (m ≡ n → ⊥) → new m ≡ old m) where
  sum-elsewhere : (n ∈ ns → ⊥) → sum new ns ≡ sum old ns
  sum-elsewhere absent = sum-ext new old ns (λ m i. others m i (λ e. absent (subst (λ (k : ℕ). k ∈ ns) e i)))

  sum-changed : Rising ns → n ∈ ns → length (new n) ≡ length (old n) → sum new ns ≡ sum old ns ⊕ (old n ⊕ new n)
  sum-changed rising i e =
      sum-split new n ns rising i
      ∙ ap (λ (w : Word). new n ⊕ w) (sum-ext new old (without n ns) apart)
      ∙ xor_comm (new n) rest
      ∙ sym (xor-zeros (length (old n)) (rest ⊕ new n) (omega (arith, length-xor rest (new n))))
      ∙ xor_comm (rest ⊕ new n) (zeros (length (old n)))
      ∙ ap (λ (w : Word). w ⊕ (rest ⊕ new n)) (sym (xor_self (old n)))
      ∙ xor-swap (old n) (old n) rest (new n)
      ∙ ap (λ (w : Word). w ⊕ (old n ⊕ new n)) (sym (sum-split old n ns rising i))
    where
      rest : Word
      rest = sum old (without n ns)

      apart : (m : ℕ) → m ∈ without n ns → new m ≡ old m
      apart m j =
          let s : (m ∈ ns) × (not (eqb m n) ≡ true) = selected (λ k. not (eqb k n)) ns m j in
          others m s.0 (eqb-false m n (not-true _ s.1))

module _ (promises : Promises line_layer) where
  module _ (r : Rectangle) (agrees : Agrees r) (n : ℕ) (payload : List ℕ) (inside : n < count r)
      (whole : length payload ≡ data_bytes) where
    -- the lines as the change leaves them, and each line as it reads alone before and after
    changed_lines : List ℕ
    changed_lines = put_line r.lines n (new_line n payload)

    old : ℕ → Word
    old m = (alone_at r.lines m).line

    new : ℕ → Word
    new m = (alone_at changed_lines m).line

    bytes : length r.lines ≡ count r * line_bytes
    bytes = line-bytes promises r agrees

    correct : CorrectLine line_layer n (new_line n payload)
    correct = write-correct n payload whole

    sized : length (new_line n payload) ≡ line_places
    sized = promises.sized (line_layer.address n) (new_line n payload) correct

    changed-bytes : length changed_lines ≡ count r * line_bytes
    unfolding changed_lines
    changed-bytes = length-put_line (count r) r.lines bytes n inside (new_line n payload)

    at_n : places_at changed_lines n ≡ new_line n payload
    unfolding changed_lines
    at_n = places_at-put (count r) r.lines bytes n inside (new_line n payload) sized

    at_other : (m : ℕ) → m < count r → (m ≡ n → ⊥) → places_at changed_lines m ≡ places_at r.lines m
    unfolding changed_lines
    at_other = places_at-other (count r) r.lines bytes n inside (new_line n payload)

    new-n : new n ≡ new_line n payload
    unfolding new alone_at
    new-n = ap (λ (w : Word). (read_line line_layer n w).line) at_n ∙ (correct-reads promises n (new_line n payload) correct).gives

    new-other : (m : ℕ) → m < count r → (m ≡ n → ⊥) → new m ≡ old m
    unfolding new old alone_at
    new-other m h d = ap (λ (w : Word). (read_line line_layer m w).line) (at_other m h d)

    still-accepted : (m : ℕ) → m < count r → accepted_at changed_lines m ≡ true
    unfolding accepted_at alone_at
    still-accepted m h = go (ℕ_discrete m n)
      where
        go : Dec (m ≡ n) → accepted_at changed_lines m ≡ true
        go (yes e) =
            subst (λ (k : ℕ). accepted_at changed_lines k ≡ true) (sym e)
            (correct-accepted promises changed_lines n (subst (CorrectLine line_layer n) (sym at_n) correct))
        go (no d) = ap (λ (w : Word). not (is_faulty (read_line line_layer m w))) (at_other m h d) ∙ agrees.accepted m h

    old-sized : length (old n) ≡ line_places
    unfolding old
    old-sized =
        promises.sized (line_layer.address n) (alone_at r.lines n).line
        (accepted-correct promises (count r) r.lines bytes n inside (agrees.accepted n inside))

    -- ---- a table of k groups, of which group j alone holds line n
    module _ (table : List ℕ) (k : ℕ) (table_bytes : length table ≡ k * line_bytes) (members : ℕ → List ℕ)
        (rising : (i : ℕ) → Rising (members i)) (insides : (i m : ℕ) → i < k → m ∈ members i → m < count r)
        (parities : (i : ℕ) → i < k → places_at table i ≡ sum old (members i)) (j : ℕ) (below : j < k) (holds_line : n ∈ members j)
        (only : (i : ℕ) → i < k → n ∈ members i → i ≡ j) where
      others : (i : ℕ) → i < k → (m : ℕ) → m ∈ members i → (m ≡ n → ⊥) → new m ≡ old m
      others i h m a d = new-other m (insides i m h a) d

      added : Word
      added = places_at table j ⊕ difference r.lines n payload

      added-sized : length added ≡ line_places
      unfolding added difference old
      added-sized =
          length-xor-same (places_at table j) (old n ⊕ new_line n payload)
          (length-places_at k table table_bytes j below
          ∙ sym (length-xor-same (old n) (new_line n payload) (old-sized ∙ sym sized) ∙ old-sized))
          ∙ length-places_at k table table_bytes j below

      still-parity : (i : ℕ) → i < k → places_at (add_to table j (difference r.lines n payload)) i ≡ sum new (members i)
      unfolding add_to added difference old
      still-parity i h = go (ℕ_discrete i j)
        where
          at_j : places_at (put_line table j added) j ≡ sum new (members j)
          at_j =
              places_at-put k table table_bytes j below added added-sized
              ∙ ap₂ (λ (a b : Word). a ⊕ (old n ⊕ b)) (parities j below) (sym new-n)
              ∙ sym (sum-changed old new n (members j) (others j below) (rising j) holds_line
              (ap length new-n ∙ sized ∙ sym old-sized))

          go : Dec (i ≡ j) → places_at (put_line table j added) i ≡ sum new (members i)
          go (yes e) = subst (λ (l : ℕ). places_at (put_line table j added) l ≡ sum new (members l)) (sym e) at_j
          go (no d) =
              places_at-other k table table_bytes j below added i h d
              ∙ parities i h
              ∙ sym (sum-elsewhere old new n (members i) (others i h) (λ a. d (only i h a)))

    some : 0 < r.columns
    some = some-columns promises r agrees

    both_lengths : (length r.row_table ≡ r.rows * line_bytes) × (length r.column_table ≡ r.columns * line_bytes)
    both_lengths = tables-lengths r.rows r.columns r.row_table r.column_table agrees.table_bytes

    home-row : n / r.columns < r.rows
    home-row = row_below r.rows r.columns some n inside

    home-column : n % r.columns < r.columns
    home-column = column-below r.rows r.columns some n

    row-parity : (i : ℕ) → i < r.rows
        → places_at (add_to r.row_table (n / r.columns) (difference r.lines n payload)) i ≡ row_parity r.columns changed_lines i
    unfolding row_parity old new
    row-parity =
        still-parity r.row_table r.rows both_lengths.0 (row r.columns) (rising-row r.rows r.columns some)
        (λ i m h a. row_inside r.rows r.columns some i m h a) agrees.row_table (n / r.columns) home-row
        (in_row r.rows r.columns some n) (λ i h a. sym (row_number r.rows r.columns some i n a))

    column-parity : (i : ℕ) → i < r.columns
        → places_at (add_to r.column_table (n % r.columns) (difference r.lines n payload)) i
        ≡ column_parity r.rows r.columns changed_lines i
    unfolding column_parity old new
    column-parity =
        still-parity r.column_table r.columns both_lengths.1 (column r.rows r.columns)
        (rising-column r.rows r.columns some)
        (λ i m h a. column-inside r.rows r.columns some i m h a) agrees.column_table (n % r.columns) home-column
        (in-column r.rows r.columns some n inside) (λ i h a. sym (column-number r.rows r.columns some i n h a))

    -- ---- the change is made
    not-refused : change_refusal r.rows r.columns r.lines r.row_table r.column_table n payload ≡ 0
    unfolding change_refusal
    not-refused =
        rw (
          agrees.sides,
          agrees.line_bytes,
          agrees.table_bytes,
          eq-eqb (length payload) data_bytes whole,
          lt-ltb n (count r) inside,
          row-accepted promises r agrees (n / r.columns) home-row,
          column-accepted promises r agrees (n % r.columns) home-column,
          agrees.accepted n inside,
        )

    made : change_in r n payload
        ≡ record {
          answer = 0;
          number = 0;
          lines = changed_lines;
          row_table = add_to r.row_table (n / r.columns) (difference r.lines n payload);
          column_table = add_to r.column_table (n % r.columns) (difference r.lines n payload);
        }
    unfolding change_in changed_lines
    made = change-runs r.rows r.columns r.lines r.row_table r.column_table n payload 0 not-refused refl

    -- the rectangle agrees again
    agrees-again : Agrees (changed r n payload)
    unfolding changed add_to
    agrees-again =
        rw made
        (record {
          sides = agrees.sides;
          line_bytes = length-holds (count r) changed_lines changed-bytes;
          table_bytes = lengths-tables r.rows r.columns _ _
              (length-put_line r.rows r.row_table both_lengths.0 (n / r.columns) home-row _)
              (length-put_line r.columns r.column_table both_lengths.1 (n % r.columns) home-column _);
          accepted = still-accepted;
          row_table = row-parity;
          column_table = column-parity;
        })

  pub change_equals_tables_anew : ChangeEqualsTablesAnew
  unfolding changed
  change_equals_tables_anew r agrees n payload inside whole old_rows old_columns fit =
      record {
        answers = ap (λ (c : LineChanged). c.answer) (made r agrees n payload inside whole);
        made = anew-answers promises (changed r n payload) again old_rows old_columns fit;
        row_table = anew-rows promises (changed r n payload) again old_rows old_columns fit;
        column_table = anew-columns promises (changed r n payload) again old_rows old_columns fit;
        agrees = again;
      }
    where
      again : Agrees (changed r n payload)
      again = agrees-again r agrees n payload inside whole
