-- A table filled line by line and the marks beside it, for groups of any direction: what the differences start from, and the parity lines
-- as they are handed over.
use mathlib.Core.Path.{◌≡◌, refl, sym, ap, ◌∙◌}
use mathlib.Core.Bool.{Bool, true, false, cond, ◌&&◌, and-eq-true_iff}
use mathlib.Core.List.{List, map, map-map}
use Prim.Native.Nat.{ℕ, ◌+◌, ◌*◌, ◌≤◌, ◌<◌}
use native.Mathlib.Decide.{ℕ_discrete}
use native.Mathlib.Omega.{arith}
use lib.Dec.{eqb}
use lib.ListN.{length, get_or, set, replicate, length-set}
use lib.Seq.{get_or-set_same, get_or-set_other, take_all}
use Rattle.gf2.specs.Word.{Word, zeros}
use Rattle.linecode.specs.Places.{line_places, line_of}
use Rattle.linecode.specs.Code.{up_from}
use Rattle.linecode.specs.declared.alone.Reading.{Reading}
use Rattle.scheme.specs.Visit.{Group, State, line_at, sum}
use Rattle.scheme.specs.Repair.{faulty_count}
use Rattle.scheme.specs.Parity.{read_parity, unusable, parity_after}
use Rattle.rectangle.specs.Store.{line_layer, bytes_at, buffer_of, in_bytes, put_bytes, row_group, column_group}
use Rattle.rectangle.specs.Repair.{table_after}
use Rattle.rectangle.proofs.Buffer.{table_of}
use Rattle.rectangle.proofs.Spare.{zero-line}
use Rattle.groups.proofs.Added.{put-length, put_same, put_other}
use Rattle.parity.specs.Lent.{ParitiesIn, start_of}

-- ---- r lines of so many are written
pub record Filled (line : ℕ → Word) (total : ℕ) (table₀ table : List ℕ) (r : ℕ) : Type 0 where
  pub few : r ≤ total
  pub whole : length table ≡ total * 70
  pub filled : (k : ℕ) → k < r → bytes_at table k ≡ line_of (line k)
  pub left : (k : ℕ) → r ≤ k → k < total → bytes_at table k ≡ bytes_at table₀ k

module _ (line : ℕ → Word) (total : ℕ) (table₀ : List ℕ) where
  module _ (table : List ℕ) (r : ℕ) (f : Filled line total table₀ table r) where
    -- one line more, in any table that has it and agrees elsewhere
    more : (after : List ℕ) → r < total → length after ≡ total * 70 → bytes_at after r ≡ line_of (line r)
        → ((k : ℕ) → k < total → (k ≡ r → ⊥) → bytes_at after k ≡ bytes_at table k) → Filled line total table₀ after (r + 1)
    more after h whole here other =
        record {
          few = omega arith;
          whole = whole;
          filled = λ k less. go k less (ℕ_discrete k r);
          left = λ k l i. other k i (λ (e : k ≡ r). omega arith) ∙ f.left k (omega arith) i;
        }
      where
        go : (k : ℕ) → k < r + 1 → Dec (k ≡ r) → bytes_at after k ≡ line_of (line k)
        go k less (yes e) = ap (bytes_at after) e ∙ here ∙ ap (λ (i : ℕ). line_of (line i)) (sym e)
        go k less (no d) = let lower : k < r = omega arith in other k (omega arith) d ∙ f.filled k lower

    pub filled_put : (bytes after : List ℕ) → r < total → after ≡ put_bytes table r bytes → bytes ≡ line_of (line r)
        → Filled line total table₀ after (r + 1)
    filled_put bytes after h e b =
        more after h (ap length e ∙ put-length total table f.whole r h bytes (line r) b)
        (ap (λ (t : List ℕ). bytes_at t r) e ∙ put_same total table f.whole r h bytes (line r) b)
        (λ k i d. ap (λ (t : List ℕ). bytes_at t k) e ∙ put_other total table f.whole r h bytes (line r) b k i d)

    pub filled-kept : (after : List ℕ) → r < total → after ≡ table → bytes_at table₀ r ≡ line_of (line r) → Filled line total table₀ after (r + 1)
    filled-kept after h e b =
        more after h (ap length e ∙ f.whole) (ap (λ (t : List ℕ). bytes_at t r) e ∙ f.left r (omega arith) h ∙ b)
        (λ k i d. ap (λ (t : List ℕ). bytes_at t k) e)

    pub filled-end : total ≤ r → (k : ℕ) → k < total → bytes_at table k ≡ line_of (line k)
    filled-end h k i = f.filled k (omega arith)

    pub filled-table : total ≤ r → table ≡ buffer_of (map line (up_from 0 total))
    filled-table h = sym (take_all (total * 70) table (omega (arith, f.whole))) ∙ table_of line table total (filled-end h)

-- ---- r marks are kept, from number b on
pub record Marked (mark : ℕ → ℕ) (b : ℕ) (marks₀ marks : List ℕ) (r : ℕ) : Type 0 where
  pub long : length marks ≡ 1024
  pub kept : (k : ℕ) → k < r → get_or marks (b + k) 0 ≡ mark k
  pub before : (k : ℕ) → k < b → get_or marks k 0 ≡ get_or marks₀ k 0

pub marked_next : (mark : ℕ → ℕ) (b : ℕ) (marks₀ marks : List ℕ) (r : ℕ) → Marked mark b marks₀ marks r → (n m : ℕ) (after : List ℕ) → n ≡ b + r
    → n < 1024 → after ≡ set marks n m → m ≡ mark r → Marked mark b marks₀ after (r + 1)
marked_next mark b marks₀ marks r f n m after n-is h e m-is =
    record {
      long = ap length e ∙ length-set marks n m ∙ f.long;
      kept = λ k less. go k less (ℕ_discrete k r);
      before = λ k less. other k (λ (x : k ≡ n). omega arith) ∙ f.before k less;
    }
  where
    other : (k : ℕ) → (k ≡ n → ⊥) → get_or after k 0 ≡ get_or marks k 0
    other k d = ap (λ (l : List ℕ). get_or l k 0) e ∙ get_or-set_other marks n k m 0 d

    go : (k : ℕ) → k < r + 1 → Dec (k ≡ r) → get_or after (b + k) 0 ≡ mark k
    go k less (yes x) =
        let same : b + k ≡ n = omega arith in
        ap (λ (i : ℕ). get_or after i 0) same
        ∙ ap (λ (l : List ℕ). get_or l n 0) e
        ∙ get_or-set_same marks n m 0 (omega (arith, f.long))
        ∙ m-is
        ∙ ap mark (sym x)
    go k less (no d) =
        let lower : k < r = omega arith in
        other (b + k) (λ (x : b + k ≡ n). d (omega arith)) ∙ f.kept k lower

-- ---- one group's parity line, read
module _ (g : Group) (read : Reading) (read_is : read ≡ in_bytes (read_parity line_layer g)) where
  pub read-mark : read.mark ≡ (read_parity line_layer g).mark
  read-mark = ap (λ (r : Reading). r.mark) read_is

  read-line : read.line ≡ line_of (read_parity line_layer g).line
  read-line = ap (λ (r : Reading). r.line) read_is

  read-test : eqb read.mark 4 ≡ unusable line_layer g
  unfolding unusable
  read-test = ap (λ (m : ℕ). eqb m 4) read-mark

  -- what its difference starts from
  pub start-bytes : cond (eqb read.mark 4) (replicate 70 0) read.line ≡ line_of (start_of g)
  unfolding start_of
  start-bytes = rw read-test (go (unusable line_layer g))
    where
      go : (b : Bool) → cond b (replicate 70 0) read.line ≡ line_of (cond b (zeros line_places) (read_parity line_layer g).line)
      go true = sym zero-line
      go false = read-line

  -- how it is handed over
  module _ (s : State) (whole : Bool) (whole_is : whole ≡ eqb (faulty_count s) 0) where
    afresh-test : (eqb read.mark 4 && whole) ≡ (unusable line_layer g && eqb (faulty_count s) 0)
    afresh-test = rw (read-test, whole_is)

    pub handed-read : (eqb read.mark 4 && whole) ≡ false → read.line ≡ line_of (parity_after line_layer s g)
    unfolding parity_after
    handed-read e = rw (sym afresh-test ∙ e) read-line

    pub handed-afresh : (eqb read.mark 4 && whole) ≡ true → (table : List ℕ) (r : ℕ)
        → (unusable line_layer g ≡ true → bytes_at table r ≡ line_of (sum (line_at s) g.members))
        → bytes_at table r ≡ line_of (parity_after line_layer s g)
    unfolding parity_after
    handed-afresh e table r fresh =
        let both = sym afresh-test ∙ e in
        rw both (fresh ((and-eq-true_iff (unusable line_layer g) (eqb (faulty_count s) 0)).0 both).0)

-- the parity lines of the rows and of the columns stand in their tables
pub rows-in : (rows columns : ℕ) (table : List ℕ) → ParitiesIn table rows (row_group columns table)
rows-in rows columns table k h = refl

pub columns-in : (rows columns : ℕ) (table : List ℕ) → ParitiesIn table columns (column_group rows columns table)
columns-in rows columns table k h = refl

-- a table handed over line by line
pub table-after : (s : State) (g : ℕ → Group) (total : ℕ) (table : List ℕ)
    → table ≡ buffer_of (map (λ (k : ℕ). parity_after line_layer s (g k)) (up_from 0 total))
    → table ≡ table_after line_layer s (map g (up_from 0 total))
unfolding table_after
table-after s g total table e = e ∙ ap buffer_of (sym (map-map (parity_after line_layer s) g (up_from 0 total)))
