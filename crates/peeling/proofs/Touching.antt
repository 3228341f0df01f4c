-- One line becomes faulty or is no longer: its row's number and its column's change with it, and no other.
use mathlib.Core.Path.{◌≡◌, refl, sym, ap, subst, ◌∙◌}
use mathlib.Core.Logic.{◌⊎◌, inl, inr}
use mathlib.Core.Bool.{Bool, true, false}
use mathlib.Core.List.{List}
use Prim.Native.Nat.{ℕ, ◌+◌, ◌-◌, ◌*◌, ◌/◌, ◌%◌, ◌<◌}
use native.Mathlib.Decide.{ℕ_discrete}
use native.Mathlib.Omega.{arith}
use borrow.Author.Tests.{eq-eqb}
use lib.Dec.{eqb}
use lib.ListN.{length, get_or, set, length-set}
use lib.Seq.{get_or-set_same, get_or-set_other}
use Rattle.scheme.specs.Visit.{select}
use Rattle.scheme.specs.Demand3.{◌∈◌}
use Rattle.scheme.proofs.Lists.{selects, select-ext, some-there}
use Rattle.rectangle.proofs.Groups.{row_below, column-below}
use Rattle.groups.specs.Lent.{members_of}
use Rattle.groups.proofs.Beside.{one-if, count-changed}
use Rattle.groups.proofs.Numbers.{members-rising, home-row, home-column, homes}
use Rattle.peeling.specs.Lent.{CountedBy, marked_faulty, Sides, Counted}

module _ (rows columns : ℕ) (faulty : List ℕ) (sides : Sides rows columns faulty) where
  pub some-columns : 0 < columns
  some-columns = omega (arith, sides.columns_low)

  module _ (n : ℕ) (inside : n < rows * columns) where
    pub row_listed : n / columns < rows
    row_listed = row_below rows columns some-columns n inside

    pub column-listed : n % columns < columns
    column-listed = column-below rows columns some-columns n

    -- a faulty line's groups have one
    pub counted-there : (test : ℕ → Bool) → CountedBy rows columns test faulty → test n ≡ true
        → (0 < get_or faulty (n / columns) 0) × (0 < get_or faulty (rows + n % columns) 0)
    counted-there test counted e = (
      some (n / columns) (omega (arith, row_listed)) (home-row rows columns some-columns n inside),
      some (rows + n % columns) (omega (arith, column-listed)) (home-column rows columns some-columns n inside),
    )
      where
        some : (k : ℕ) → k < rows + columns → n ∈ members_of rows columns k → 0 < get_or faulty k 0
        some k h i =
            omega (arith, counted k h, some-there n (select test (members_of rows columns k)) (selects test (members_of rows columns k) n i e))

    -- the tests differ for line n alone: what becomes of the number of a group that holds it, and of one that does not
    module _ (before after : ℕ → Bool) (others : (m : ℕ) → (m ≡ n → ⊥) → after m ≡ before m) (k : ℕ) (h : k < rows + columns) where
      pub here : n ∈ members_of rows columns k → (old new : ℕ) → old ≡ length (select before (members_of rows columns k))
          → new + one-if (before n) ≡ old + one-if (after n) → new ≡ length (select after (members_of rows columns k))
      here i old new e f =
          omega (
            arith,
            count-changed before after n (members_of rows columns k) (members-rising rows columns some-columns k h) i others,
          )

      pub elsewhere : (k ≡ n / columns → ⊥) → (k ≡ rows + n % columns → ⊥) → (old : ℕ)
          → old ≡ length (select before (members_of rows columns k)) → old ≡ length (select after (members_of rows columns k))
      elsewhere p q old e =
          e
          ∙ ap length
          (sym
          (select-ext after before (members_of rows columns k)
          (λ m i. others m (λ e. absent (subst (λ (j : ℕ). j ∈ members_of rows columns k) e i)))))
        where
          absent : n ∈ members_of rows columns k → ⊥
          absent i = either (homes rows columns some-columns n k h i)
            where
              either : (k ≡ n / columns) ⊎ (k ≡ rows + n % columns) → ⊥
              either (inl x) = p x
              either (inr x) = q x

    module _ (before after : ℕ → Bool) (others : (m : ℕ) → (m ≡ n → ⊥) → after m ≡ before m) (counted : CountedBy rows columns before faulty) where
      -- with both numbers changed as the line's own test does, all are right again
      pub touched : (r c a b : ℕ) → r ≡ n / columns → c ≡ n % columns
          → a + one-if (before n) ≡ get_or faulty r 0 + one-if (after n)
          → b + one-if (before n) ≡ get_or faulty (rows + c) 0 + one-if (after n)
          → CountedBy rows columns after (set (set faulty r a) (rows + c) b)
      touched r c a b er ec ea eb k h = go (ℕ_discrete k (rows + c)) (ℕ_discrete k r)
        where
          in_rows : r < rows + columns
          in_rows = omega (arith, row_listed)

          in-columns : rows + c < rows + columns
          in-columns = omega (arith, column-listed)

          go : Dec (k ≡ rows + c) → Dec (k ≡ r)
              → get_or (set (set faulty r a) (rows + c) b) k 0 ≡ length (select after (members_of rows columns k))
          go (yes p) q =
              subst (λ (j : ℕ). get_or (set (set faulty r a) (rows + c) b) j 0 ≡ length (select after (members_of rows columns j))) (sym p)
              (get_or-set_same (set faulty r a) (rows + c) b 0
              (omega (arith, length-set faulty r a, sides.counts, sides.rows_high, sides.columns_high, column-listed))
              ∙ here before after others (rows + c) in-columns
              (subst (λ (j : ℕ). n ∈ members_of rows columns (rows + j)) (sym ec) (home-column rows columns some-columns n inside))
              (get_or faulty (rows + c) 0) b (counted (rows + c) in-columns) eb)
          go (no d) (yes q) =
              get_or-set_other (set faulty r a) (rows + c) k b 0 d
              ∙ subst (λ (j : ℕ). get_or (set faulty r a) j 0 ≡ length (select after (members_of rows columns j))) (sym q)
              (get_or-set_same faulty r a 0 (omega (arith, sides.counts, sides.rows_high))
              ∙ here before after others r in_rows
              (subst (λ (j : ℕ). n ∈ members_of rows columns j) (sym er) (home-row rows columns some-columns n inside)) (get_or faulty r 0) a
              (counted r in_rows) ea)
          go (no d) (no q) =
              get_or-set_other (set faulty r a) (rows + c) k b 0 d
              ∙ get_or-set_other faulty r k a 0 q
              ∙ elsewhere before after others k h (λ e. q (e ∙ sym er)) (λ e. d (e ∙ ap (λ (x : ℕ). rows + x) (sym ec))) (get_or faulty k 0)
              (counted k h)

-- the sides stay with as many numbers
pub same-sides : (rows columns : ℕ) (faulty faulty' : List ℕ) → length faulty' ≡ length faulty → Sides rows columns faulty
    → Sides rows columns faulty'
same-sides rows columns faulty faulty' e s =
    record {
      rows_low = s.rows_low;
      rows_high = s.rows_high;
      columns_low = s.columns_low;
      columns_high = s.columns_high;
      counts = e ∙ s.counts;
    }

-- ---- line n is rebuilt
module _ (rows columns : ℕ) (marks faulty : List ℕ) (counted : Counted rows columns marks faulty) (n : ℕ) (inside : n < rows * columns)
    (bad : get_or marks n 0 ≡ 4) where
  was : marked_faulty marks n ≡ true
  was = eq-eqb _ 4 bad

  is : marked_faulty (set marks n 3) n ≡ false
  is = rw (get_or-set_same marks n 3 0 (omega (arith, counted.mark_bytes)))

  one_less : (a b : ℕ) → 0 < b → a ≡ b - 1 → a + one-if (marked_faulty marks n) ≡ b + one-if (marked_faulty (set marks n 3) n)
  one_less a b p e = rw (was, is) (omega arith)

  groups-counted : (0 < get_or faulty (n / columns) 0) × (0 < get_or faulty (rows + n % columns) 0)
  groups-counted = counted-there rows columns faulty counted.sides n inside (marked_faulty marks) counted.each was

  pub row-counted : (r : ℕ) → r ≡ n / columns → 0 < get_or faulty r 0
  row-counted r e = rw e groups-counted.0

  -- the column has it still when the row has one less
  column-same : (r c a : ℕ) → r ≡ n / columns → get_or (set faulty r a) (rows + c) 0 ≡ get_or faulty (rows + c) 0
  column-same r c a er =
      get_or-set_other faulty r (rows + c) a 0
      (λ (e : rows + c ≡ r). omega (arith, row_listed rows columns faulty counted.sides n inside))

  pub column-counted : (r c a : ℕ) (mid : List ℕ) → r ≡ n / columns → c ≡ n % columns → mid ≡ set faulty r a → 0 < get_or mid (rows + c) 0
  column-counted r c a mid er ec em = rw (em, column-same r c a er, ec) groups-counted.1

  -- first its row has one less, then its column
  pub line-rebuilt : (r c : ℕ) (mid last : List ℕ) → r ≡ n / columns → c ≡ n % columns → mid ≡ set faulty r (get_or faulty r 0 - 1)
      → last ≡ set mid (rows + c) (get_or mid (rows + c) 0 - 1) → length last ≡ length faulty → Counted rows columns (set marks n 3) last
  line-rebuilt r c mid last er ec em el same =
      record {
        sides = same-sides rows columns faulty last same counted.sides;
        mark_bytes = length-set marks n 3 ∙ counted.mark_bytes;
        each =
            subst (CountedBy rows columns (marked_faulty (set marks n 3)))
            (sym (el ∙ ap (λ (l : List ℕ). set l (rows + c) (get_or l (rows + c) 0 - 1)) em))
            (touched rows columns faulty counted.sides n inside (marked_faulty marks) (marked_faulty (set marks n 3))
            (λ m d. ap (λ (x : ℕ). eqb x 4) (get_or-set_other marks n m 3 0 d)) counted.each r c _ _ er ec
            (one_less _ _ (row-counted r er) refl)
            (one_less _ _ (rw ec groups-counted.1) (ap (λ (x : ℕ). x - 1) (column-same r c _ er))));
      }
