-- The faulty lines are counted row by row, each line in its column too.
use mathlib.Core.Path.{◌≡◌, refl, sym, ap, subst, ◌∙◌}
use mathlib.Core.Logic.{inl, inr}
use mathlib.Core.Bool.{Bool, true, false, cond, ◌&&◌}
use mathlib.Core.List.{List, [], ◌∷◌}
use Prim.Native.Nat.{ℕ, suc, ◌+◌, ◌*◌, ◌≤◌, ◌<◌}
use native.Mathlib.Nat.{suc-mul}
use native.Mathlib.Decide.{ℕ_discrete}
use native.Mathlib.Omega.{arith}
use borrow.Author.Tests.{lt-ltb, le-ltb, ltb-true, ltb-false}
use lib.Dec.{eqb, ltb}
use lib.ListN.{length, get_or, set, replicate, get_or-replicate, length-set}
use lib.Seq.{get_or-set_same, get_or-set_other}
use Rattle.scheme.specs.Visit.{select}
use Rattle.scheme.specs.Demand3.{◌∈◌}
use Rattle.scheme.proofs.Lists.{select-ext, select-few}
use Rattle.rectangle.specs.Store.{row, column}
use Rattle.rectangle.proofs.Groups.{row_number, column-number, line-inside}
use Rattle.rectangle.proofs.Stride.{in-stride, stride-index}
use Rattle.groups.specs.Lent.{members_of}
use Rattle.groups.proofs.Beside.{one-if}
use Rattle.groups.proofs.Numbers.{row_of, column-of, members-few, members-inside}
use Rattle.peeling.specs.Lent.{CountedBy, marked_faulty, faulty_before, Sides, Counted, one_if_faulty}
use Rattle.peeling.proofs.Touching.{some-columns, here, elsewhere, same-sides}

none-selected : (test : ℕ → Bool) (l : List ℕ) → ((m : ℕ) → m ∈ l → test m ≡ false) → select test l ≡ []
none-selected test [] h = refl
none-selected test (m ∷ l) h = rw (h m (inl refl)) (none-selected test l (λ k i. h k (inr i)))

-- before the first line none is counted
pub none-counted : (rows columns : ℕ) (marks faulty : List ℕ) → Sides rows columns faulty → faulty ≡ replicate 1024 0
    → CountedBy rows columns (faulty_before marks 0) faulty
none-counted rows columns marks faulty sides none k h =
    ap (λ (l : List ℕ). get_or l k 0) none
    ∙ get_or-replicate 1024 k 0 0 (omega (arith, sides.rows_high, sides.columns_high))
    ∙ ap length (sym (none-selected (faulty_before marks 0) (members_of rows columns k) (λ m i. rw (le-ltb m 0 (omega arith)))))

-- after the last all are
pub all-counted : (rows columns : ℕ) (marks faulty : List ℕ) → Sides rows columns faulty → length marks ≡ rows * columns
    → CountedBy rows columns (faulty_before marks (rows * columns)) faulty → Counted rows columns marks faulty
all-counted rows columns marks faulty sides e counted =
    record {
      sides = sides;
      mark_bytes = e;
      each = λ k h.
          counted k h
          ∙ ap length
          (select-ext (faulty_before marks (rows * columns)) (marked_faulty marks) (members_of rows columns k)
          (λ m i.
          ap (λ (b : Bool). b && marked_faulty marks m)
          (lt-ltb m (rows * columns) (members-inside rows columns (some-columns rows columns faulty sides) m k h i))));
    }

-- ---- line n comes next: what the tests before and after say of it, and of the others
module _ (marks : List ℕ) (n : ℕ) where
  others : (m : ℕ) → (m ≡ n → ⊥) → faulty_before marks (n + 1) m ≡ faulty_before marks n m
  others m d = ap (λ (b : Bool). b && marked_faulty marks m) (go (ltb m n) refl)
    where
      go : (b : Bool) → ltb m n ≡ b → ltb m (n + 1) ≡ ltb m n
      go true e = rw e (lt-ltb m (n + 1) (let h : m < n = ltb-true m n e in omega arith))
      go false e = rw e (le-ltb m (n + 1) (let h : n ≤ m = ltb-false m n e in omega arith))

  -- so a number that grows by what the line counts is right again
  grown : (old new : ℕ) → new ≡ old + one_if_faulty (get_or marks n 0) → new + one-if (faulty_before marks n n) ≡ old + one-if (faulty_before marks (n + 1) n)
  grown old new e = rw (le-ltb n n (omega arith), lt-ltb n (n + 1) (omega arith)) (go (marked_faulty marks n) e)
    where
      go : (b : Bool) → new ≡ old + cond b 1 0 → new + 0 ≡ old + one-if b
      go true f = omega arith
      go false f = omega arith

-- it counts 1 at most
pub one-small : (mark more : ℕ) → more ≡ one_if_faulty mark → more ≤ 1
one-small mark more = go (eqb mark 4)
  where
    go : (b : Bool) → more ≡ cond b 1 0 → more ≤ 1
    go true e = omega arith
    go false e = omega arith

-- ---- row r is open: c of its lines are counted, its own number is not in the list yet
pub record RowOpen (rows columns : ℕ) (marks : List ℕ) (r : ℕ) (faulty : List ℕ) (found c : ℕ) : Type 0 where
  pub few : c ≤ columns
  pub sides : Sides rows columns faulty
  pub rest : (k : ℕ) → k < rows + columns → (k ≡ r → ⊥)
      → get_or faulty k 0 ≡ length (select (faulty_before marks (r * columns + c)) (members_of rows columns k))
  pub own : found ≡ length (select (faulty_before marks (r * columns + c)) (members_of rows columns r))

module _ (rows columns : ℕ) (marks : List ℕ) (r : ℕ) (r-in : r < rows) where
  -- none of the row's lines stands among those before it
  pub row-start : (faulty : List ℕ) → Sides rows columns faulty → CountedBy rows columns (faulty_before marks (r * columns)) faulty
      → RowOpen rows columns marks r faulty 0 0
  unfolding row
  row-start faulty sides counted =
      record {
        few = omega arith;
        sides = sides;
        rest = λ k h d. subst (λ (n : ℕ). get_or faulty k 0 ≡ length (select (faulty_before marks n) (members_of rows columns k))) (same columns) (counted k h);
        own = sym (ap length (none-selected (faulty_before marks (r * columns + 0)) (members_of rows columns r) (λ m i. before m (subst (λ (l : List ℕ). m ∈ l) (row_of rows columns r r-in) i))));
      }
    where
      same : (columns : ℕ) → r * columns ≡ r * columns + 0
      same columns = omega arith

      before : (m : ℕ) → m ∈ row columns r → faulty_before marks (r * columns + 0) m ≡ false
      before m i =
          let at = stride-index (r * columns) 1 columns m i in
          ap (λ (b : Bool). b && marked_faulty marks m) (le-ltb m (r * columns + 0) (omega (arith, at.2)))

  module _ (faulty : List ℕ) (found c : ℕ) (o : RowOpen rows columns marks r faulty found c) where
    -- its number is small, and so is each column's
    pub row-few : found ≤ 512
    row-few =
        omega (
          arith,
          o.own,
          select-few (faulty_before marks (r * columns + c)) (members_of rows columns r),
          members-few rows columns o.sides.rows_high o.sides.columns_high r (omega arith),
        )

    module _ (c-in : c < columns) where
      pub inside : r * columns + c < rows * columns
      inside = line-inside rows columns (omega arith) r c r-in c-in

      pub column-few : get_or faulty (rows + c) 0 ≤ 512
      column-few =
          omega (
            arith,
            o.rest (rows + c) (omega arith) (λ (e : rows + c ≡ r). omega arith),
            select-few (faulty_before marks (r * columns + c)) (members_of rows columns (rows + c)),
            members-few rows columns o.sides.rows_high o.sides.columns_high (rows + c) (omega arith),
          )

      in-its-row : (r * columns + c) ∈ row columns r
      unfolding row
      in-its-row =
          let e : r * columns + c * 1 ≡ r * columns + c = omega arith in
          subst (λ (m : ℕ). m ∈ row columns r) e (in-stride (r * columns) 1 columns c c-in)

      in-its-column : (r * columns + c) ∈ column rows columns c
      unfolding column
      in-its-column =
          let e : c + r * columns ≡ r * columns + c = omega arith in
          subst (λ (m : ℕ). m ∈ column rows columns c) e (in-stride c columns rows r r-in)

      -- the next line is counted in both
      pub row_next : (faulty' : List ℕ) (more : ℕ) → more ≡ one_if_faulty (get_or marks (r * columns + c) 0)
          → faulty' ≡ set faulty (rows + c) (get_or faulty (rows + c) 0 + more) → RowOpen rows columns marks r faulty' (found + more) (c + 1)
      row_next faulty' more em ef =
          record {
            few = omega arith;
            sides = same-sides rows columns faulty faulty' (ap length ef ∙ length-set faulty (rows + c) _) o.sides;
            rest = λ k h d.
                subst (λ (m : ℕ). get_or faulty' k 0 ≡ length (select (faulty_before marks m) (members_of rows columns k))) (next columns)
                (ap (λ (l : List ℕ). get_or l k 0) ef ∙ each k h d (ℕ_discrete k (rows + c)));
            own =
                subst (λ (m : ℕ). found + more ≡ length (select (faulty_before marks m) (members_of rows columns r))) (next columns)
                (here rows columns faulty o.sides (r * columns + c) inside _ _ (others marks (r * columns + c)) r (omega arith)
                (subst (λ (l : List ℕ). (r * columns + c) ∈ l) (sym (row_of rows columns r r-in)) in-its-row) found (found + more) o.own
                (grown marks (r * columns + c) found (found + more) (ap (λ (x : ℕ). found + x) em)));
          }
        where
          next : (columns : ℕ) → r * columns + c + 1 ≡ r * columns + (c + 1)
          next columns = omega arith

          each : (k : ℕ) → k < rows + columns → (k ≡ r → ⊥) → Dec (k ≡ rows + c)
              → get_or (set faulty (rows + c) (get_or faulty (rows + c) 0 + more)) k 0
              ≡ length (select (faulty_before marks (r * columns + c + 1)) (members_of rows columns k))
          each k h d (yes e) =
              subst (λ (j : ℕ). get_or (set faulty (rows + c) (get_or faulty (rows + c) 0 + more)) j 0 ≡ length (select (faulty_before marks (r * columns + c + 1)) (members_of rows columns j))) (sym e)
              (get_or-set_same faulty (rows + c) _ 0 (omega (arith, o.sides.counts, o.sides.rows_high, o.sides.columns_high))
              ∙ here rows columns faulty o.sides (r * columns + c) inside _ _ (others marks (r * columns + c)) (rows + c) (omega arith)
              (subst (λ (l : List ℕ). (r * columns + c) ∈ l) (sym (column-of rows columns c)) in-its-column) (get_or faulty (rows + c) 0) _
              (o.rest (rows + c) (omega arith) (λ (y : rows + c ≡ r). omega arith))
              (grown marks (r * columns + c) (get_or faulty (rows + c) 0) _ (ap (λ (x : ℕ). get_or faulty (rows + c) 0 + x) em)))
          each k h d (no e) =
              get_or-set_other faulty (rows + c) k _ 0 e
              ∙ elsewhere rows columns faulty o.sides (r * columns + c) inside _ _ (others marks (r * columns + c)) k h
              (λ y. d (y ∙ row_number rows columns (omega arith) r (r * columns + c) in-its-row))
              (λ y. e (y ∙ ap (λ (z : ℕ). rows + z) (column-number rows columns (omega arith) c (r * columns + c) c-in in-its-column)))
              (get_or faulty k 0) (o.rest k h d)

    -- all its lines are counted, and its number stands in the list
    pub row-end : columns ≤ c → (faulty' : List ℕ) → faulty' ≡ set faulty r found
        → CountedBy rows columns (faulty_before marks (suc r * columns)) faulty'
    row-end all faulty' e k h =
        subst (λ (m : ℕ). get_or faulty' k 0 ≡ length (select (faulty_before marks m) (members_of rows columns k))) last
        (ap (λ (l : List ℕ). get_or l k 0) e ∙ each (ℕ_discrete k r))
      where
        last : r * columns + c ≡ suc r * columns
        last = let same : c ≡ columns = omega (arith, o.few) in ap (λ (x : ℕ). r * columns + x) same ∙ sym (suc-mul r columns)

        each : Dec (k ≡ r) → get_or (set faulty r found) k 0 ≡ length (select (faulty_before marks (r * columns + c)) (members_of rows columns k))
        each (yes p) =
            subst (λ (j : ℕ). get_or (set faulty r found) j 0 ≡ length (select (faulty_before marks (r * columns + c)) (members_of rows columns j))) (sym p)
            (get_or-set_same faulty r found 0 (omega (arith, o.sides.counts, o.sides.rows_high)) ∙ o.own)
        each (no d) = get_or-set_other faulty r k found 0 d ∙ o.rest k h d
