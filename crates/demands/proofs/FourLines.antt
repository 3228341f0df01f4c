-- Demand 3: undamaged rectangles with equal tables are equal or differ in four lines: in a row, in both its columns.
use mathlib.Core.Path.{◌≡◌, refl, sym, ap, ap₂, subst, ◌∙◌}
use mathlib.Core.Logic.{◌⊎◌, inl, inr}
use mathlib.Core.Bool.{Bool, true, false, true≢false}
use mathlib.Core.List.{List, [], ◌∷◌}
use Prim.Native.Nat.{ℕ, ◌*◌, ◌/◌, ◌%◌, ◌≤◌, ◌<◌}
use native.Mathlib.Omega.{arith}
use lib.Dec.{T, lit≤}
use lib.ListN.{length}
use lib.Seq.{ext_get_or}
use Rattle.gf2.specs.Word.{Word, same, distance}
use Rattle.gf2.proofs.Same.{same_refl, same-equal}
use Rattle.linecode.specs.Code.{up_from}
use Rattle.scheme.specs.Layer.{Promises}
use Rattle.scheme.specs.Visit.{Group}
use Rattle.scheme.specs.Demand3.{◌∈◌, RisingGroups, word_at}
use Rattle.scheme.specs.Demand3 as Scheme
use Rattle.scheme.proofs.NotAlike.{another-differs, eight-bits}
use Rattle.rectangle.specs.Store.{line_layer, places_at, row, column, row_group, column_group, groups}
use Rattle.rectangle.specs.Refusals.{every}
use Rattle.demands.specs.Demands.{Rectangle, count, Written, EqualTables, Alike, FourLinesApart, EqualOrFourLines}
use Rattle.rectangle.proofs.Members.{up_from-bounds}
use Rattle.rectangle.proofs.Tests.{below-every, some-fails}
use Rattle.rectangle.proofs.Buffer.{length-lines_in, lines_in-at, lines_in-equal}
use Rattle.rectangle.proofs.Groups.{in_row, row_number, row_inside, row_below, in-column, column-number, column-inside, column-below, same_line, row_listed, column-listed, rising-groups}
use Rattle.demands.proofs.Written.{words_of, some-columns, store-written}
use Rattle.demands.proofs.Order.{received}
use Rattle.demands.proofs.Demand3.{same-sides, same_lines}

-- ---- looking alike
tables-sym : {r s : Rectangle} → EqualTables r s → EqualTables s r
tables-sym t = record { row_table = sym t.row_table; column_table = sym t.column_table }

tables-trans : {r s t : Rectangle} → EqualTables r s → EqualTables s t → EqualTables r t
tables-trans e f = record { row_table = e.row_table ∙ f.row_table; column_table = e.column_table ∙ f.column_table }

alike-sym : {r s : Rectangle} → Alike r s → Alike s r
alike-sym a =
    record { rows = sym a.rows; columns = sym a.columns; lines = sym a.lines; tables = tables-sym a.tables }

alike-trans : {r s t : Rectangle} → Alike r s → Alike s t → Alike r t
alike-trans a b =
    record {
      rows = a.rows ∙ b.rows;
      columns = a.columns ∙ b.columns;
      lines = a.lines ∙ b.lines;
      tables = tables-trans a.tables b.tables;
    }

alike-count : {r s : Rectangle} → Alike r s → count r ≡ count s
alike-count a = ap₂ ◌*◌ a.rows a.columns

alike-line : {r s : Rectangle} → Alike r s → (n : ℕ) → n < count r → places_at r.lines n ≡ places_at s.lines n
alike-line {r} {s} a n h =
    sym (lines_in-at (count r) r.lines n h)
    ∙ ap (λ (ws : List Word). word_at ws n) a.lines
    ∙ lines_in-at (count s) s.lines n (subst (λ (k : ℕ). n < k) (alike-count a) h)

-- what is apart stays so where others look like it
apart-alike : {one two w v : Rectangle} → Alike one w → Alike two v → count one ≡ count two → FourLinesApart w v
    → FourLinesApart one two
apart-alike {one} {two} {w} {v} a b e f =
    record {
      differing = f.differing;
      distinct = f.distinct;
      four = f.four;
      differ = λ n i.
          let h : n < count one = subst (λ (k : ℕ). n < k) (sym (alike-count a)) (f.differ n i).0 in
          (h, λ same. (f.differ n i).1 (sym (alike-line a n h) ∙ same ∙ alike-line b n (inside n h)));
      eight = λ n h differ.
          subst (λ (k : ℕ). 8 ≤ k) (sym (ap₂ distance (alike-line a n h) (alike-line b n (inside n h))))
          (f.eight n (subst (λ (k : ℕ). n < k) (alike-count a) h)
          (λ same. differ (alike-line a n h ∙ same ∙ sym (alike-line b n (inside n h)))));
    }
  where
    inside : (n : ℕ) → n < count one → n < count two
    inside n h = subst (λ (k : ℕ). n < k) e h

module _ (promises : Promises line_layer) where
  module _ (one : Rectangle) (w : Written one) (lines row_table column_table : List ℕ)
      (v : Written (received one lines row_table column_table))
      (equal : EqualTables one (received one lines row_table column_table)) where
    two : Rectangle
    two = received one lines row_table column_table

    some : 0 < one.columns
    some = some-columns promises one w

    gs : List Group
    gs = groups one.rows one.columns one.row_table one.column_table

    rising : RisingGroups gs
    unfolding gs
    rising = rising-groups one.rows one.columns some one.row_table one.column_table

    first-written : Scheme.Written line_layer gs (words_of one)
    unfolding gs
    first-written = store-written promises one w one.row_table one.column_table (λ r h. refl) (λ c h. refl)

    second-written : Scheme.Written line_layer gs (words_of two)
    unfolding gs two
    second-written =
        store-written promises two v one.row_table one.column_table
        (lines_in-equal one.rows one.row_table row_table equal.row_table)
        (lines_in-equal one.columns one.column_table column_table equal.column_table)

    same_length : length (words_of one) ≡ length (words_of two)
    unfolding two
    same_length = length-lines_in (count one) one.lines ∙ sym (length-lines_in (count one) lines)

    -- line n differs
    Differs : ℕ → Type 0
    Differs n = word_at (words_of one) n ≡ word_at (words_of two) n → ⊥

    -- where a line differs, so does another of its row, and another of its column
    row-differs : (n : ℕ) → n < count one → Differs n
        → (m : ℕ) × (m ∈ row one.columns (n / one.columns)) × (m ≡ n → ⊥) × Differs m
    unfolding gs Differs
    row-differs n h d =
        another-differs line_layer promises gs rising (words_of one) (words_of two) first-written second-written same_length
        (row_group one.columns one.row_table (n / one.columns))
        (row_listed one.rows one.columns some one.row_table one.column_table _
        (row_below one.rows one.columns some n h)) n (in_row one.rows one.columns some n) d

    column-differs : (n : ℕ) → n < count one → Differs n
        → (m : ℕ) × (m ∈ column one.rows one.columns (n % one.columns)) × (m ≡ n → ⊥) × Differs m
    unfolding gs Differs
    column-differs n h d =
        another-differs line_layer promises gs rising (words_of one) (words_of two) first-written second-written same_length
        (column_group one.rows one.columns one.column_table (n % one.columns))
        (column-listed one.rows one.columns some one.row_table one.column_table _
        (column-below one.rows one.columns some n)) n (in-column one.rows one.columns some n h) d

    -- a line differs where its places do
    places-differ : (n : ℕ) → n < count one → (places_at one.lines n ≡ places_at lines n → ⊥) → Differs n
    unfolding two Differs
    places-differ n h d e = d (sym (lines_in-at (count one) one.lines n h) ∙ e ∙ lines_in-at (count one) lines n h)

    differ-places : (n : ℕ) → n < count one → Differs n → places_at one.lines n ≡ places_at lines n → ⊥
    unfolding two Differs
    differ-places n h d e = d (lines_in-at (count one) one.lines n h ∙ e ∙ sym (lines_in-at (count one) lines n h))

    eight-apart : (n : ℕ) → n < count one → Differs n → 8 ≤ distance (places_at one.lines n) (places_at lines n)
    unfolding two Differs
    eight-apart n h d =
        subst (λ (k : ℕ). 8 ≤ k) (ap₂ distance (lines_in-at (count one) one.lines n h) (lines_in-at (count one) lines n h))
        (eight-bits line_layer promises gs rising (words_of one) (words_of two) first-written second-written same_length n d)

    four-lines : (n : ℕ) → n < count one → Differs n → FourLinesApart one (received one lines row_table column_table)
    four-lines n h d =
        record {
          differing = n ∷ m ∷ p ∷ q ∷ [];
          distinct = (n-apart, (m-apart, (p-apart, ((λ i. i), tt))));
          four = lit≤ tt;
          differ = λ k i. ((all k i).0, differ-places k (all k i).0 (all k i).1);
          eight = λ k i e. eight-apart k i (places-differ k i e);
        }
      where
        c : ℕ
        c = one.columns

        beside : (m : ℕ) × (m ∈ row c (n / c)) × (m ≡ n → ⊥) × Differs m
        beside = row-differs n h d

        m : ℕ
        m = beside.0

        m-inside : m < count one
        m-inside = row_inside one.rows c some (n / c) m (row_below one.rows c some n h) beside.1

        m-row : m / c ≡ n / c
        m-row = row_number one.rows c some (n / c) m beside.1

        m-column : m % c ≡ n % c → ⊥
        m-column e = beside.2 (same_line one.rows c some m n m-row e)

        -- another line of a line's column, in another row
        below : (k : ℕ) → k < count one → Differs k
            → (j : ℕ) × (j < count one) × (j % c ≡ k % c) × (j / c ≡ k / c → ⊥) × Differs j
        below k i e =
            let o = column-differs k i e in
            let column-is : o.0 % c ≡ k % c =
            column-number one.rows c some (k % c) o.0 (column-below one.rows c some k) o.1 in (
              o.0,
              column-inside one.rows c some (k % c) o.0 (column-below one.rows c some k) o.1,
              column-is,
              (λ f. o.2 (same_line one.rows c some o.0 k f column-is)),
              o.3,
            )

        under-n : (j : ℕ) × (j < count one) × (j % c ≡ n % c) × (j / c ≡ n / c → ⊥) × Differs j
        under-n = below n h d

        p : ℕ
        p = under-n.0

        under-m : (j : ℕ) × (j < count one) × (j % c ≡ m % c) × (j / c ≡ m / c → ⊥) × Differs j
        under-m = below m m-inside beside.3

        q : ℕ
        q = under-m.0

        n-apart : n ∈ (m ∷ p ∷ q ∷ []) → ⊥
        n-apart (inl e) = beside.2 (sym e)
        n-apart (inr (inl e)) = under-n.3 (ap (λ (k : ℕ). k / c) (sym e))
        n-apart (inr (inr (inl e))) = m-column (sym (ap (λ (k : ℕ). k % c) e ∙ under-m.2))
        n-apart (inr (inr (inr i))) = i

        m-apart : m ∈ (p ∷ q ∷ []) → ⊥
        m-apart (inl e) = under-n.3 (ap (λ (k : ℕ). k / c) (sym e) ∙ m-row)
        m-apart (inr (inl e)) = under-m.3 (ap (λ (k : ℕ). k / c) (sym e))
        m-apart (inr (inr i)) = i

        p-apart : p ∈ (q ∷ []) → ⊥
        p-apart (inl e) = m-column (sym under-m.2 ∙ ap (λ (k : ℕ). k % c) (sym e) ∙ under-n.2)
        p-apart (inr i) = i

        all : (k : ℕ) → k ∈ (n ∷ m ∷ p ∷ q ∷ []) → (k < count one) × Differs k
        all k (inl e) = rw e (h, d)
        all k (inr (inl e)) = rw e (m-inside, beside.3)
        all k (inr (inr (inl e))) = rw e (under-n.1, under-n.4)
        all k (inr (inr (inr (inl e)))) = rw e (under-m.1, under-m.4)
        all k (inr (inr (inr (inr i)))) = absurd i

    -- all lines are the same, or some line differs
    equal-or-four : (one ≡ received one lines row_table column_table) ⊎ FourLinesApart one (received one lines row_table column_table)
    unfolding two Differs
    equal-or-four = go (every test (up_from 0 (count one))) refl
      where
        test : ℕ → Bool
        test n = same (word_at (words_of one) n) (word_at (words_of two) n)

        same_word : (n : ℕ) → test n ≡ true → word_at (words_of one) n ≡ word_at (words_of two) n
        same_word n e = same-equal _ _ (subst T (sym e) tt)

        go : (b : Bool) → every test (up_from 0 (count one)) ≡ b
            → (one ≡ received one lines row_table column_table) ⊎ FourLinesApart one (received one lines row_table column_table)
        go true e =
            inl
            (same_lines one w lines row_table column_table v
            (ext_get_or [] (words_of one) (words_of two) same_length
            (λ n i.
            same_word n (below-every test (count one) e n (omega (arith, length-lines_in (count one) one.lines))))))
        go false e =
            let f = some-fails test (up_from 0 (count one)) e in
            inr
            (four-lines f.0 (omega (arith, (up_from-bounds 0 (count one) f.0 f.1).1))
            (λ s. true≢false (sym (same_refl (word_at (words_of one) f.0)) ∙ ap (same (word_at (words_of one) f.0)) s ∙ f.2)))

  -- two rectangles written
  written-equal-or-four : (one two : Rectangle) → Written one → Written two → one.rows ≡ two.rows → one.columns ≡ two.columns
      → EqualTables one two → (one ≡ two) ⊎ FourLinesApart one two
  written-equal-or-four one two w v e f equal =
      subst (λ (x : Rectangle). Written x → EqualTables one x → (one ≡ x) ⊎ FourLinesApart one x)
      (sym (same-sides one two (sym e) (sym f)))
      (λ v' equal'. equal-or-four one w two.lines two.row_table two.column_table v' equal') v equal

  -- two undamaged ones, by the places of those written
  pub equal_or_four_lines : EqualOrFourLines
  equal_or_four_lines one two u v e f equal =
      go
      (written-equal-or-four u.written v.written u.whole v.whole (sym u.alike.rows ∙ e ∙ v.alike.rows)
      (sym u.alike.columns ∙ f ∙ v.alike.columns)
      (tables-trans (tables-sym u.alike.tables) (tables-trans equal v.alike.tables)))
    where
      go : (u.written ≡ v.written) ⊎ FourLinesApart u.written v.written → Alike one two ⊎ FourLinesApart one two
      go (inl same) = inl (alike-trans (subst (Alike one) same u.alike) (alike-sym v.alike))
      go (inr apart) = inr (apart-alike u.alike v.alike (ap₂ ◌*◌ e f) apart)
