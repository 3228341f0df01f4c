-- A line that was read is added to its row's difference, which is carried apart, and to its column's; then a piece of a row, line by line.
use mathlib.Core.Path.{◌≡◌, refl, sym, ap, ◌∙◌, subst}
use mathlib.Core.Logic.{◌⊎◌, inl, inr}
use mathlib.Core.Bool.{Bool, true, false}
use mathlib.Core.List.{List, [], ◌∷◌, ◌++◌}
use Prim.Native.Nat.{ℕ, suc, ◌+◌, ◌*◌, ◌/◌, ◌%◌, ◌≤◌, ◌<◌}
use native.Mathlib.Decide.{ℕ_discrete, dec_lt}
use native.Mathlib.Nat.{mul-le-mul_right}
use native.Mathlib.Omega.{arith}
use borrow.Author.Tests.{eq-eqb, ne_eqb}
use lib.Dec.{eqb}
use lib.ListN.{length, get_or, set, length-set, get_or-append, get_or-eq_default}
use lib.Seq.{get_or-set_same, get_or-set_other, get_or_at}
use Rattle.gf2.specs.Word.{Word, ◌⊕◌}
use Rattle.linecode.specs.Places.{line_places, places, line_of, xor_bytes}
use Rattle.scheme.specs.Layer.{Cell}
use Rattle.scheme.specs.Visit.{State, cell_at, line_at, is_faulty}
use Rattle.scheme.specs.Demand3.{◌∈◌}
use Rattle.scheme.proofs.Lists.{select-few}
use Rattle.rectangle.specs.Store.{bytes_at, places_at, put_bytes, alone_at, stride, row, column}
use Rattle.rectangle.proofs.Buffer.{length-places_at}
use Rattle.rectangle.proofs.Groups.{row_number, column-number, line-inside}
use Rattle.rectangle.proofs.Spare.{bytes-is}
use Rattle.rectangle.proofs.Stride.{in-stride}
use Rattle.groups.specs.Lent.{Beside, members_of, group_of}
use Rattle.groups.proofs.Numbers.{row_of, column-of, members-rising, homes, members-few}
use Rattle.groups.proofs.Beside.{one-if, clean-sum, beside-elsewhere, beside-here}
use Rattle.groups.proofs.Added.{put_same, put_other}
use Rattle.groups.proofs.Joined.{joined_length, table-line, second-added}
use Rattle.groups.proofs.Rooms.{read-long}
use Rattle.first_reading.specs.Lent.{read_first, RowOpen, Piece, SomePiece}
use Rattle.first_reading.proofs.FirstReading.{length-read_first, one_more, begun-line, begun-mark}

-- ---- numbers of faulty lines are small
count-few : (rows columns : ℕ) (parity : ℕ → Word) (s : State) (line : List ℕ) (count k : ℕ) → rows ≤ 512 → columns ≤ 512 → k < rows + columns
    → Beside (group_of rows columns parity k) s line count → count ≤ 512
count-few rows columns parity s line count k rh ch h b =
    omega (arith, b.number, select-few (λ n. is_faulty (cell_at s n)) (members_of rows columns k), members-few rows columns rh ch k h)

-- ---- line n, which stands in row r and column c
module _ (rows columns : ℕ) (parity : ℕ → Word) (found lacks faulty : List ℕ) (r c n : ℕ) (difference : List ℕ) (hurt : ℕ) (r-in : r < rows) (c-in : c < columns)
    (n-is : n ≡ r * columns + c) (rows_high : rows ≤ 512) (columns_high : columns ≤ 512) (found_bytes : length found ≡ rows * columns * 70)
    (lack_bytes : length lacks ≡ (rows + columns) * 70) (o : RowOpen rows columns parity found lacks faulty r n difference hurt) where
  some-columns : 0 < columns
  some-columns = omega arith

  inside : n < rows * columns
  inside = omega (arith, n-is, line-inside rows columns some-columns r c r-in c-in)

  in-its-row : n ∈ row columns r
  unfolding row
  in-its-row =
      let e : r * columns + c * 1 ≡ n = omega (arith, n-is) in
      subst (λ (m : ℕ). m ∈ stride (r * columns) 1 columns) e (in-stride (r * columns) 1 columns c c-in)

  in-its-column : n ∈ column rows columns c
  unfolding column
  in-its-column =
      let e : c + r * columns ≡ n = omega (arith, n-is) in
      subst (λ (m : ℕ). m ∈ stride c columns rows) e (in-stride c columns rows r r-in)

  cell : Cell
  cell = alone_at found n

  s : State
  s = read_first found n

  t : State
  t = read_first found (suc n)

  none : Cell
  none = record { line = []; mark = 0 }

  was : cell_at s n ≡ none
  unfolding s none
  was = get_or-eq_default (read_first found n) (record { line = []; mark = 0 }) {n = n} (omega (arith, length-read_first found n))

  is : cell_at t n ≡ cell
  unfolding t cell
  is =
      ap (λ (x : State). cell_at x n) (one_more found n)
      ∙ get_or_at (read_first found n) (alone_at found n) [] (record { line = []; mark = 0 }) n (length-read_first found n)

  apart : (m : ℕ) → (m ≡ n → ⊥) → cell_at t m ≡ cell_at s m
  unfolding s t
  apart m d = go (dec_lt m n)
    where
      go : Dec (m < n) → cell_at (read_first found (suc n)) m ≡ cell_at (read_first found n) m
      go (yes h) =
          ap (λ (x : State). cell_at x m) (one_more found n)
          ∙ get_or-append (read_first found n) (alone_at found n ∷ []) (record { line = []; mark = 0 }) m (omega (arith, length-read_first found n))
      go (no h) =
          get_or-eq_default (read_first found (suc n)) (record { line = []; mark = 0 }) {n = m} (omega (arith, length-read_first found (suc n)))
          ∙ sym (get_or-eq_default (read_first found n) (record { line = []; mark = 0 }) {n = m} (omega (arith, length-read_first found n)))

  wide : length cell.line ≡ line_places
  unfolding cell alone_at
  wide =
      read-long n (places_at found n)
      (length-places_at (rows * columns) found (found_bytes ∙ ap (λ (i : ℕ). rows * columns * i) (sym bytes-is)) n inside)

  changed : line_at t n ≡ line_at s n ⊕ cell.line
  unfolding none
  changed = ap (λ (x : Cell). x.line) is ∙ sym (ap (λ (x : Cell). x.line ⊕ cell.line) was)

  own-few : hurt ≤ 512
  own-few = count-few rows columns parity _ difference hurt r rows_high columns_high (omega arith) o.own

  column-few : get_or faulty (rows + c) 0 ≤ 512
  column-few =
      count-few rows columns parity _ (bytes_at lacks (rows + c)) (get_or faulty (rows + c) 0) (rows + c) rows_high columns_high (omega arith)
      (o.others (rows + c) (omega arith) (λ (e : rows + c ≡ r). omega arith))

  -- the line as it was read, with its mark
  module _ (line : List ℕ) (mark : ℕ) (line-is : line ≡ line_of (alone_at found n).line) (mark-is : mark ≡ (alone_at found n).mark) (f : Bool)
      (f-is : eqb mark 4 ≡ f) where
    -- the number of a group that holds it
    grown : (a b : ℕ) → a ≡ b + one-if f → a + one-if (is_faulty (cell_at s n)) ≡ b + one-if (is_faulty (cell_at t n))
    unfolding none cell
    grown a b q =
        ap (λ (x : Cell). a + one-if (is_faulty x)) was
        ∙ same
        ∙ ap (λ (x : Bool). b + one-if x) (sym f-is ∙ ap (λ (x : ℕ). eqb x 4) mark-is ∙ ap is_faulty (sym is))
      where
        same : a + 0 ≡ b + one-if f
        same = omega arith

    touched : (k : ℕ) → k < rows + columns → n ∈ members_of rows columns k → (old new : List ℕ) (a a' : ℕ)
        → Beside (group_of rows columns parity k) s old a → new ≡ xor_bytes old line → a' ≡ a + one-if f
        → Beside (group_of rows columns parity k) t new a'
    unfolding cell
    touched k h i old new a a' b e q =
        beside-here s t n apart cell.line wide changed (group_of rows columns parity k) old new a a'
        (members-rising rows columns some-columns k h) i b
        (e ∙ ap (xor_bytes old) line-is ∙ clean-sum (group_of rows columns parity k) s old a b cell.line wide) (grown a' a q)

    turned : (lacks' faulty' difference' : List ℕ) (hurt' : ℕ) → lacks' ≡ put_bytes lacks (rows + c) (xor_bytes (bytes_at lacks (rows + c)) line)
        → get_or faulty' (rows + c) 0 ≡ get_or faulty (rows + c) 0 + one-if f
        → ((k : ℕ) → (k ≡ rows + c → ⊥) → get_or faulty' k 0 ≡ get_or faulty k 0)
        → difference' ≡ xor_bytes difference line → hurt' ≡ hurt + one-if f
        → RowOpen rows columns parity found lacks' faulty' r (suc n) difference' hurt'
    unfolding s t cell
    turned lacks' faulty' difference' hurt' g p q u v =
        record {
          others = λ k h d. each k h d (ℕ_discrete k (rows + c));
          own =
              touched r (omega arith) (subst (λ (l : List ℕ). n ∈ l) (sym (row_of rows columns r r-in)) in-its-row) difference difference' hurt hurt'
              o.own u v;
        }
      where
        here : rows + c < rows + columns
        here = omega arith

        old : Beside (group_of rows columns parity (rows + c)) (read_first found n) (bytes_at lacks (rows + c)) (get_or faulty (rows + c) 0)
        old = o.others (rows + c) (omega arith) (λ (y : rows + c ≡ r). omega arith)

        sum_is : xor_bytes (bytes_at lacks (rows + c)) line ≡ line_of (places (bytes_at lacks (rows + c)) ⊕ (alone_at found n).line)
        sum_is = ap (xor_bytes (bytes_at lacks (rows + c))) line-is ∙ clean-sum (group_of rows columns parity (rows + c)) (read_first found n) (bytes_at lacks (rows + c)) (get_or faulty (rows + c) 0) old (alone_at found n).line wide

        each : (k : ℕ) → k < rows + columns → (k ≡ r → ⊥) → Dec (k ≡ rows + c)
            → Beside (group_of rows columns parity k) (read_first found (suc n)) (bytes_at lacks' k) (get_or faulty' k 0)
        each k h d (yes x) =
            subst (λ (j : ℕ). Beside (group_of rows columns parity j) (read_first found (suc n)) (bytes_at lacks' j) (get_or faulty' j 0)) (sym x)
            (touched (rows + c) (omega arith) (subst (λ (l : List ℕ). n ∈ l) (sym (column-of rows columns c)) in-its-column) (bytes_at lacks (rows + c)) _
            (get_or faulty (rows + c) 0) _ old
            (ap (λ (l : List ℕ). bytes_at l (rows + c)) g ∙ put_same (rows + columns) lacks lack_bytes (rows + c) here _ _ sum_is ∙ sym sum_is) p)
        each k h d (no x) =
            beside-elsewhere (read_first found n) (read_first found (suc n)) n apart (group_of rows columns parity k) _ _ absent
            (subst (λ (l : List ℕ). Beside (group_of rows columns parity k) (read_first found n) l (get_or faulty' k 0))
            (sym (ap (λ (l : List ℕ). bytes_at l k) g ∙ put_other (rows + columns) lacks lack_bytes (rows + c) here _ _ sum_is k h x))
            (subst (λ (a : ℕ). Beside (group_of rows columns parity k) (read_first found n) (bytes_at lacks k) a) (sym (q k x)) (o.others k h d)))
          where
            absent : n ∈ members_of rows columns k → ⊥
            absent i = either (homes rows columns some-columns n k h i)
              where
                either : (k ≡ n / columns) ⊎ (k ≡ rows + n % columns) → ⊥
                either (inl y) = d (y ∙ row_number rows columns some-columns r n in-its-row)
                either (inr y) = x (y ∙ ap (λ (z : ℕ). rows + z) (column-number rows columns some-columns c n c-in in-its-column))

-- ---- a piece: i of its lines are added
pub record Adding (rows : ℕ) (out marks lacks₀ faulty₀ : List ℕ) (n c count : ℕ) (difference₀ : List ℕ) (hurt₀ : ℕ) (lacks faulty difference : List ℕ) (hurt i : ℕ) : Type 0 where
  pub few : i ≤ count
  pub same : length lacks ≡ length lacks₀
  pub counts : length faulty ≡ 1024
  pub store : (columns : ℕ) (parity : ℕ → Word) (found : List ℕ) (r : ℕ) (row_lacks : List ℕ) → length row_lacks ≡ rows * 70
      → Piece rows columns parity found out marks (row_lacks ++ lacks₀) faulty₀ r n c count difference₀ hurt₀
      → RowOpen rows columns parity found (row_lacks ++ lacks) faulty r (n + i) difference hurt

-- line n, of column c: it stands inside the buffers, and the numbers beside it are small
pub record Place (rows : ℕ) (out marks lacks faulty : List ℕ) (hurt n c : ℕ) : Type 0 where
  pub line : suc n * 70 ≤ length out
  pub mark : n < length marks
  pub small : n < 262144
  pub group : rows + c < 1024
  pub lack : suc c * 70 ≤ length lacks
  pub own_few : hurt ≤ 512
  pub column_few : get_or faulty (rows + c) 0 ≤ 512

module _ (rows : ℕ) (out marks lacks₀ faulty₀ : List ℕ) (n c count : ℕ) (difference₀ : List ℕ) (hurt₀ : ℕ) where
  module _ (lacks faulty difference : List ℕ) (hurt i : ℕ) (a : Adding rows out marks lacks₀ faulty₀ n c count difference₀ hurt₀ lacks faulty difference hurt i) where
    pub adding-end : count ≤ i → (columns : ℕ) (parity : ℕ → Word) (found : List ℕ) (r : ℕ) (row_lacks : List ℕ) → length row_lacks ≡ rows * 70
        → Piece rows columns parity found out marks (row_lacks ++ lacks₀) faulty₀ r n c count difference₀ hurt₀
        → RowOpen rows columns parity found (row_lacks ++ lacks) faulty r (n + count) difference hurt
    adding-end h columns parity found r row_lacks e p =
        subst (λ (k : ℕ). RowOpen rows columns parity found (row_lacks ++ lacks) faulty r (n + k) difference hurt) last
        (a.store columns parity found r row_lacks e p)
      where
        last : i ≡ count
        last = omega (arith, a.few)

    module _ (more : i < count) where
      -- the line's number by its row and its column
      number : (columns : ℕ) (parity : ℕ → Word) (found : List ℕ) (r : ℕ) (row_lacks : List ℕ)
          → Piece rows columns parity found out marks (row_lacks ++ lacks₀) faulty₀ r n c count difference₀ hurt₀
          → n + i ≡ r * columns + (c + i)
      number columns parity found r row_lacks p = omega (arith, p.here)

      -- the bytes of both tables
      long : (columns : ℕ) (parity : ℕ → Word) (found : List ℕ) (r : ℕ) (row_lacks : List ℕ)
          → Piece rows columns parity found out marks (row_lacks ++ lacks₀) faulty₀ r n c count difference₀ hurt₀
          → length (row_lacks ++ lacks) ≡ (rows + columns) * 70
      long columns parity found r row_lacks p =
          joined_length row_lacks lacks₀ row_lacks lacks refl a.same ∙ p.room.lack_bytes

      pub adding-place : SomePiece rows out marks lacks₀ faulty₀ n c count difference₀ hurt₀
          → Place rows out marks lacks faulty hurt (n + i) (c + i)
      adding-place some =
          record {
            line = omega (arith, below, p.room.rect.out_bytes);
            mark = omega (arith, below, p.room.rect.mark_bytes);
            small = omega (arith, below, mul-le-mul_right columns rows_high, columns_high);
            group = omega (arith, here, rows_high, columns_high);
            lack = table-line (length lacks) columns (c + i) (a.same ∙ some.6) here;
            own_few =
                own-few rows columns parity found (row_lacks ++ lacks) faulty r (c + i) (n + i) difference hurt p.listed here
                (number columns parity found r row_lacks p) rows_high columns_high p.bytes (long columns parity found r row_lacks p)
                (a.store columns parity found r row_lacks some.5 p);
            column_few =
                column-few rows columns parity found (row_lacks ++ lacks) faulty r (c + i) (n + i) difference hurt p.listed here
                (number columns parity found r row_lacks p) rows_high columns_high p.bytes (long columns parity found r row_lacks p)
                (a.store columns parity found r row_lacks some.5 p);
          }
        where
          columns : ℕ
          columns = some.0

          parity : ℕ → Word
          parity = some.1

          found : List ℕ
          found = some.2

          r : ℕ
          r = some.3

          row_lacks : List ℕ
          row_lacks = some.4

          p : Piece rows columns parity found out marks (row_lacks ++ lacks₀) faulty₀ r n c count difference₀ hurt₀
          p = some.7

          rows_high : rows ≤ 512
          rows_high = p.room.rect.rows_high

          columns_high : columns ≤ 512
          columns_high = p.room.rect.columns_high

          here : c + i < columns
          here = omega (arith, p.inside)

          below : n + i < rows * columns
          below = omega (arith, number columns parity found r row_lacks p, line-inside rows columns (omega (arith, here)) r (c + i) p.listed here)

      -- a line is added
      module _ (line lacks' difference' : List ℕ) (line-is : line ≡ bytes_at out (n + i)) (lacks-long : length lacks' ≡ length lacks)
          (lacks-is : lacks' ≡ put_bytes lacks (c + i) (xor_bytes (bytes_at lacks (c + i)) line))
          (difference-is : difference' ≡ xor_bytes difference line) where
        turn : (faulty' : List ℕ) (hurt' : ℕ) (f : Bool) → eqb (get_or marks (n + i) 0) 4 ≡ f → length faulty' ≡ length faulty
            → (rows + (c + i) < 1024 → get_or faulty' (rows + (c + i)) 0 ≡ get_or faulty (rows + (c + i)) 0 + one-if f)
            → ((k : ℕ) → (k ≡ rows + (c + i) → ⊥) → get_or faulty' k 0 ≡ get_or faulty k 0) → hurt' ≡ hurt + one-if f
            → Adding rows out marks lacks₀ faulty₀ n c count difference₀ hurt₀ lacks' faulty' difference' hurt' (i + 1)
        turn faulty' hurt' f m e g q v =
            record {
              few = omega arith;
              same = lacks-long ∙ a.same;
              counts = e ∙ a.counts;
              store = λ columns parity found r row_lacks l p.
                  let h : n + i < n + count = omega arith in
                  let here : c + i < columns = omega (arith, p.inside) in
                  subst (λ (k : ℕ). RowOpen rows columns parity found (row_lacks ++ lacks') faulty' r k difference' hurt') (next n i)
                  (turned rows columns parity found (row_lacks ++ lacks) faulty r (c + i) (n + i) difference hurt p.listed here
                  (number columns parity found r row_lacks p) p.room.rect.rows_high p.room.rect.columns_high p.bytes
                  (long columns parity found r row_lacks p) (a.store columns parity found r row_lacks l p) line
                  (get_or marks (n + i) 0) (line-is ∙ begun-line found out marks (n + count) p.begun (n + i) h)
                  (begun-mark found out marks (n + count) p.begun (n + i) h) f m (row_lacks ++ lacks') faulty' difference' hurt'
                  (ap (λ (x : List ℕ). row_lacks ++ x) lacks-is ∙ second-added row_lacks lacks rows l (c + i) line)
                  (g (omega (arith, p.room.rect.rows_high, p.room.rect.columns_high))) q difference-is v);
            }
          where
            next : (n i : ℕ) → suc (n + i) ≡ n + (i + 1)
            next n i = omega arith

        -- a faulty line is counted
        pub adding-faulty : (faulty' : List ℕ) (hurt' : ℕ) → get_or marks (n + i) 0 ≡ 4
            → faulty' ≡ set faulty (rows + (c + i)) (get_or faulty (rows + (c + i)) 0 + 1) → hurt' ≡ hurt + 1
            → Adding rows out marks lacks₀ faulty₀ n c count difference₀ hurt₀ lacks' faulty' difference' hurt' (i + 1)
        adding-faulty faulty' hurt' m e v =
            turn faulty' hurt' true (eq-eqb (get_or marks (n + i) 0) 4 m) (ap length e ∙ length-set faulty (rows + (c + i)) (get_or faulty (rows + (c + i)) 0 + 1))
            (λ h.
            ap (λ (l : List ℕ). get_or l (rows + (c + i)) 0) e
            ∙ get_or-set_same faulty (rows + (c + i)) (get_or faulty (rows + (c + i)) 0 + 1) 0 (omega (arith, a.counts)))
            (λ k d. ap (λ (l : List ℕ). get_or l k 0) e ∙ get_or-set_other faulty (rows + (c + i)) k (get_or faulty (rows + (c + i)) 0 + 1) 0 d) v

        pub adding_other : (faulty' : List ℕ) (hurt' : ℕ) → (get_or marks (n + i) 0 ≡ 4 → ⊥) → faulty' ≡ faulty → hurt' ≡ hurt
            → Adding rows out marks lacks₀ faulty₀ n c count difference₀ hurt₀ lacks' faulty' difference' hurt' (i + 1)
        adding_other faulty' hurt' m e v =
            turn faulty' hurt' false (ne_eqb (get_or marks (n + i) 0) 4 m) (ap length e)
            (λ h. ap (λ (l : List ℕ). get_or l (rows + (c + i)) 0) e ∙ same (get_or faulty (rows + (c + i)) 0)) (λ k d. ap (λ (l : List ℕ). get_or l k 0) e)
            (v ∙ same hurt)
          where
            same : (x : ℕ) → x ≡ x + 0
            same x = omega arith
