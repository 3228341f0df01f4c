-- Tests and refusals: what a test that passes tells, and that a call whose tests all pass is not refused.
use mathlib.Core.Path.{◌≡◌, sym, refl, ap, ◌∙◌}
use mathlib.Core.Logic.{inl, inr}
use mathlib.Core.Bool.{Bool, true, false, not, cond, ◌&&◌, true≢false, and-eq-true_iff}
use mathlib.Core.List.{List, [], ◌∷◌, map}
use Prim.Native.Nat.{ℕ, ◌+◌, ◌-◌, ◌*◌, ◌<◌}
use native.Mathlib.Nat.{zero-add}
use native.Mathlib.Omega.{arith}
use borrow.Author.Tests.{eqb-false, not-true}
use lib.Dec.{eqb}
use Rattle.linecode.specs.Places.{line_bytes}
use Rattle.linecode.specs.Code.{up_from}
use lib.ListN.{length}
use Rattle.scheme.specs.Demand3.{◌∈◌}
use Rattle.rectangle.specs.Refusals.{unless, every, sides_fit, holds, tables_fit, parity_refusal, ThirteenThenFourteen}
use Rattle.rectangle.specs.Refusals.{accepted_at, tables_refusal}
use Rattle.rectangle.proofs.Members.{in-up_from, up_from-bounds}
use Rattle.rectangle.proofs.Buffer.{holds-length, length-holds}

-- ---- every one of a list
every_true : {A : Type 0} (test : A → Bool) (l : List A) → ((a : A) → a ∈ l → test a ≡ true) → every test l ≡ true
every_true test [] h = refl
every_true test (a ∷ l) h = rw (h a (inl refl)) (every_true test l (λ b i. h b (inr i)))

pub every-at : {A : Type 0} (test : A → Bool) (l : List A) → every test l ≡ true → (a : A) → a ∈ l → test a ≡ true
every-at test [] e a i = absurd i
every-at test (b ∷ l) e a (inl p) = ap test p ∙ ((and-eq-true_iff (test b) (every test l)).0 e).0
every-at test (b ∷ l) e a (inr i) = every-at test l ((and-eq-true_iff (test b) (every test l)).0 e).1 a i

-- or some one fails
pub some-fails : {A : Type 0} (test : A → Bool) (l : List A) → every test l ≡ false → (a : A) × (a ∈ l) × (test a ≡ false)
some-fails test [] e = absurd (true≢false e)
some-fails test (a ∷ l) e = go (test a) refl e (some-fails test l)
  where
    go : (b : Bool) → test a ≡ b → b && every test l ≡ false → (every test l ≡ false → (c : _) × (c ∈ l) × (test c ≡ false))
        → (c : _) × (c ∈ (a ∷ l)) × (test c ≡ false)
    go false p q later = (a, inl refl, p)
    go true p q later = let f = later q in (f.0, inr f.1, f.2)

-- the same for k numbers upward
module _ (test : ℕ → Bool) (first k : ℕ) where
  pub every-from : ((i : ℕ) → i < k → test (first + i) ≡ true) → every test (up_from first k) ≡ true
  every-from h =
      every_true test (up_from first k)
      (λ n i.
      let b = up_from-bounds first k n i in
      let e : n ≡ first + (n - first) = omega (arith, b.0) in
      ap test e ∙ h (n - first) (omega (arith, b.0, b.1)))

  pub from-every : every test (up_from first k) ≡ true → (i : ℕ) → i < k → test (first + i) ≡ true
  from-every e i h = every-at test (up_from first k) e (first + i) (in-up_from first k i h)

  pub fails-from : (i : ℕ) → i < k → test (first + i) ≡ false → every test (up_from first k) ≡ false
  fails-from i h e = go (every test (up_from first k)) refl
    where
      go : (b : Bool) → every test (up_from first k) ≡ b → b ≡ false
      go true p = sym (from-every p i h) ∙ e
      go false p = refl

-- and from 0
pub every-below : (test : ℕ → Bool) (k : ℕ) → ((n : ℕ) → n < k → test n ≡ true) → every test (up_from 0 k) ≡ true
every-below test k h = every-from test 0 k (λ i j. ap test (zero-add i) ∙ h i j)

pub below-every : (test : ℕ → Bool) (k : ℕ) → every test (up_from 0 k) ≡ true → (n : ℕ) → n < k → test n ≡ true
below-every test k e n h = ap test (sym (zero-add n)) ∙ from-every test 0 k e n h

pub fails-below : (test : ℕ → Bool) (k n : ℕ) → n < k → test n ≡ false → every test (up_from 0 k) ≡ false
fails-below test k n h e = fails-from test 0 k n h (ap test (zero-add n) ∙ e)

-- ---- a refusal
-- an answer other than a test's refusal passed the test
pub passed : {n : ℕ} (b : Bool) (refusal next : ℕ) → (refusal ≡ n → ⊥) → unless b refusal next ≡ n → (b ≡ true) × (next ≡ n)
passed true refusal next d e = (refl, e)
passed false refusal next d e = absurd (d e)

-- and a test's refusal, which no later test gives, failed it
pub failed : {n : ℕ} (b : Bool) (next : ℕ) → (next ≡ n → ⊥) → unless b n next ≡ n → b ≡ false
failed true next d e = absurd (d e)
failed false next d e = refl

-- tests in their order, each with its refusal, and what is tested next: a definition's chain of `unless` computes to this
abbrev pub refusals : List (Bool × ℕ) → ℕ → ℕ
refusals [] next = next
refusals (t ∷ ts) next = unless t.0 t.1 (refusals ts next)

-- what they give is theirs, whatever is tested next, or the next test decides
pub refused-there : (ts : List (Bool × ℕ)) (r next : ℕ) → r ≡ refusals ts 0 → (r ≡ 0 → ⊥) → refusals ts next ≡ r
refused-there [] r next e d = absurd (d e)
refused-there (t ∷ ts) r next e d = go t.0 e (λ f. refused-there ts r next f d)
  where
    go : (b : Bool) → r ≡ unless b t.1 (refusals ts 0) → (r ≡ refusals ts 0 → refusals ts next ≡ r)
        → unless b t.1 (refusals ts next) ≡ r
    go true f later = later f
    go false f later = sym f

pub refused-later : (ts : List (Bool × ℕ)) (r next : ℕ) → every (λ t. not (eqb t.1 0)) ts ≡ true → r ≡ refusals ts 0 → r ≡ 0
    → refusals ts next ≡ next
refused-later [] r next n e z = refl
refused-later (t ∷ ts) r next n e z =
    let each = (and-eq-true_iff (not (eqb t.1 0)) _).0 n in
    go t.0 (eqb-false t.1 0 (not-true _ each.0)) e (λ f. refused-later ts r next each.1 f z)
  where
    go : (b : Bool) → (t.1 ≡ 0 → ⊥) → r ≡ unless b t.1 (refusals ts 0) → (r ≡ refusals ts 0 → refusals ts next ≡ next)
        → unless b t.1 (refusals ts next) ≡ next
    go true d f later = later f
    go false d f later = absurd (d (sym f ∙ z))

-- what they give is 0 or one of their refusals
pub refusal-in : (ts : List (Bool × ℕ)) → refusals ts 0 ∈ (0 ∷ map (λ t. t.1) ts)
refusal-in [] = inl refl
refusal-in (t ∷ ts) = go t.0 (refusal-in ts)
  where
    go : (b : Bool) → refusals ts 0 ∈ (0 ∷ map (λ t. t.1) ts)
        → unless b t.1 (refusals ts 0) ∈ (0 ∷ t.1 ∷ map (λ t. t.1) ts)
    go true (inl e) = inl e
    go true (inr i) = inr (inr i)
    go false later = inr (inl refl)

-- an answer that is one of a list is not a number that the list lacks
pub not-among : {a : ℕ} (n : ℕ) (answers : List ℕ) → every (λ b. not (eqb b n)) answers ≡ true → a ∈ answers → a ≡ n → ⊥
not-among {a} n answers e i = eqb-false a n (not-true _ (every-at (λ b. not (eqb b n)) answers e a i))

-- what holds of both results of a choice holds of the one that is given
pub either_way : {A : Type 0} (P : A → Type 0) (b : Bool) (x y : A) → P x → P y → P (cond b x y)
either_way P true x y p q = p
either_way P false x y p q = q

-- ---- 13, then 14, then the next test
pub thirteen_then_fourteen : ThirteenThenFourteen
thirteen_then_fourteen = record { row = λ of_column next. refl; column = λ next. refl; neither = λ next. refl }

module _ (of_rows of_columns : Bool) (next : ℕ) where
  abbrev parity_tests : List (Bool × ℕ)
  parity_tests = (of_rows, 13) ∷ (of_columns, 14) ∷ []

  -- what the two tests give is theirs, or the next test decides
  pub parity-refused : (a : ℕ) → a ≡ parity_refusal of_rows of_columns 0 → (a ≡ 0 → ⊥) → parity_refusal of_rows of_columns next ≡ a
  parity-refused a = refused-there parity_tests a next

  pub parity-passed : (a : ℕ) → a ≡ parity_refusal of_rows of_columns 0 → a ≡ 0 → parity_refusal of_rows of_columns next ≡ next
  parity-passed a = refused-later parity_tests a next refl

  -- and what each answer tells
  pub row-fails : (next ≡ 13 → ⊥) → parity_refusal of_rows of_columns next ≡ 13 → of_rows ≡ false
  row-fails other = failed of_rows _ (λ e. other (passed of_columns 14 next (λ z. omega arith) e).1)

  pub column-fails : (next ≡ 14 → ⊥) → parity_refusal of_rows of_columns next ≡ 14 → (of_rows ≡ true) × (of_columns ≡ false)
  column-fails other e =
      let row = passed of_rows 13 _ (λ z. omega arith) e in (row.0, failed of_columns next other row.1)

  pub both-pass : parity_refusal of_rows of_columns next ≡ 0 → (of_rows ≡ true) × (of_columns ≡ true)
  both-pass e =
      let row = passed of_rows 13 _ (λ z. omega arith) e in (row.0, (passed of_columns 14 next (λ z. omega arith) row.1).0)

-- ---- making tables
-- both tables have the lengths that refusal 6 asks for
pub tables-lengths : (rows columns : ℕ) (row_table column_table : List ℕ) → tables_fit rows columns row_table column_table ≡ true
    → (length row_table ≡ rows * line_bytes) × (length column_table ≡ columns * line_bytes)
unfolding tables_fit
tables-lengths rows columns row_table column_table e =
    let p = (and-eq-true_iff (holds rows row_table) (holds columns column_table)).0 e in
    (holds-length rows row_table p.0, holds-length columns column_table p.1)

pub lengths-tables : (rows columns : ℕ) (row_table column_table : List ℕ) → length row_table ≡ rows * line_bytes
    → length column_table ≡ columns * line_bytes → tables_fit rows columns row_table column_table ≡ true
unfolding tables_fit
lengths-tables rows columns row_table column_table e f =
    rw (length-holds rows row_table e, length-holds columns column_table f)

-- making tables is refused for nothing else than its four tests
pub record TablesAsked (rows columns : ℕ) (lines row_table column_table : List ℕ) : Type 0 where
  pub sides : sides_fit rows columns ≡ true
  pub line_bytes : holds (rows * columns) lines ≡ true
  pub table_bytes : tables_fit rows columns row_table column_table ≡ true
  pub accepted : (n : ℕ) → n < rows * columns → accepted_at lines n ≡ true

module _ (rows columns : ℕ) (lines row_table column_table : List ℕ) where
  pub tables-pass : TablesAsked rows columns lines row_table column_table → tables_refusal rows columns lines row_table column_table ≡ 0
  unfolding tables_refusal
  tables-pass a =
      rw (a.sides, a.line_bytes, a.table_bytes, every-below (accepted_at lines) (rows * columns) a.accepted)

  pub tables-passed : tables_refusal rows columns lines row_table column_table ≡ 0
      → TablesAsked rows columns lines row_table column_table
  unfolding tables_refusal
  tables-passed e =
      let two = passed (sides_fit rows columns) 2 _ (λ z. omega arith) e in
      let five = passed (holds (rows * columns) lines) 5 _ (λ z. omega arith) two.1 in
      let six = passed (tables_fit rows columns row_table column_table) 6 _ (λ z. omega arith) five.1 in
      let ten = passed (every (accepted_at lines) (up_from 0 (rows * columns))) 10 _ (λ z. omega arith) six.1 in
      record {
        sides = two.0;
        line_bytes = five.0;
        table_bytes = six.0;
        accepted = below-every (accepted_at lines) (rows * columns) ten.0;
      }
