-- The words of demand 3 can be met: in a 2 by 2 rectangle written let lines 0 and 2 be damaged at places 0 and 1, lines 1 and 3 at
-- places 2 and 3, the parity line of row 0 at place 0, and that of column 1 at places 0 and 1, so that this column is unusable; then
-- line 0 can only be mended by trial, and after it all others.
use mathlib.Core.Path.{◌≡◌, refl, sym, ap, ap₂, ◌∙◌}
use mathlib.Core.Logic.{inl, inr}
use mathlib.Core.Bool.{Bool, true, false}
use mathlib.Core.List.{List, [], ◌∷◌}
use Prim.Native.Nat.{ℕ, zero, suc, ◌/◌, ◌%◌, ◌≤◌, ◌<◌}
use native.Mathlib.Nat.{zero-add}
use native.Mathlib.Omega.{arith}
use lib.Dec.{lit<}
use lib.ListN.{length, get_or, replicate}
use Rattle.gf2.specs.Word.{Word, ◌⊕◌, weight, distance, flip}
use Rattle.gf2.proofs.Xor.{bit-self}
use Rattle.gf2.proofs.Weight.{distance_self, length-flip}
use Rattle.linecode.specs.Places.{line_places, data_bytes}
use Rattle.linecode.specs.Code.{up_from}
use Rattle.scheme.specs.Layer.{CorrectLine, Promises}
use Rattle.scheme.specs.Visit.{is_faulty, sum}
use Rattle.scheme.specs.Parity.{unusable}
use Rattle.scheme.specs.Demand3.{◌∈◌, word_at}
use Rattle.rectangle.specs.Store.{line_layer, places_at, lines_in, buffer_of, column, column_group}
use Rattle.rectangle.specs.Refusals.{side_fits, sides_fit}
use Rattle.rectangle.specs.Change.{new_line}
use Rattle.rectangle.specs.Repair.{Buffers}
use Rattle.demands.specs.Demands.{Rectangle, repair_of, Room, Written, Distinct, damage, damaged_at, row_damage, column_damage, Alone, Paired, WithinBounds, DamagedSo, Returned, HypothesisMet}
use Rattle.rectangle.proofs.Members.{in-up_from, up_from-bounds}
use Rattle.rectangle.proofs.Spare.{places_is}
use Rattle.rectangle.proofs.Buffer.{Sized, places_at-buffer_of, lines_in-buffer_of, length-buffer_of, length-holds, lines_in-equal}
use Rattle.rectangle.proofs.Tests.{lengths-tables}
use Rattle.rectangle.proofs.LineLayer.{write-correct, blank-hurt}
use Rattle.demands.proofs.Written.{rectangle_of, rows_written, columns-written, correct-written}
use Rattle.demands.proofs.Order.{received}
use Rattle.demands.proofs.Kept.{kept, exact_return}

-- ---- two places turned over are two damaged bits
first_two : (x : Word) → 2 ≤ length x → distance x (flip 1 (flip 0 x)) ≡ 2
first_two [] h = let z : ⊥ = omega arith in absurd z
first_two (a ∷ []) h = let z : ⊥ = omega arith in absurd z
first_two (false ∷ false ∷ x) h = ap (λ (n : ℕ). suc (suc n)) (distance_self x)
first_two (false ∷ true ∷ x) h = ap (λ (n : ℕ). suc (suc n)) (distance_self x)
first_two (true ∷ false ∷ x) h = ap (λ (n : ℕ). suc (suc n)) (distance_self x)
first_two (true ∷ true ∷ x) h = ap (λ (n : ℕ). suc (suc n)) (distance_self x)

first_one : (x : Word) → 1 ≤ length x → distance x (flip 0 x) ≡ 1
first_one [] h = let z : ⊥ = omega arith in absurd z
first_one (false ∷ x) h = ap suc (distance_self x)
first_one (true ∷ x) h = ap suc (distance_self x)

next-two : (x : Word) → 4 ≤ length x → distance x (flip 3 (flip 2 x)) ≡ 2
next-two [] h = let z : ⊥ = omega arith in absurd z
next-two (a ∷ []) h = let z : ⊥ = omega arith in absurd z
next-two (a ∷ b ∷ x) h =
    ap₂ (λ (c d : Bool). weight (c ∷ d ∷ (x ⊕ flip 1 (flip 0 x)))) (bit-self a) (bit-self b) ∙ first_two x (omega arith)

hurt-first : (x : Word) → 2 ≤ length x → get_or (x ⊕ flip 1 (flip 0 x)) 0 false ≡ true
hurt-first [] h = let z : ⊥ = omega arith in absurd z
hurt-first (false ∷ x) h = refl
hurt-first (true ∷ x) h = refl

unhurt-first : (x : Word) → get_or (x ⊕ flip 3 (flip 2 x)) 0 false ≡ false
unhurt-first [] = refl
unhurt-first (a ∷ x) = bit-self a

below_two : (P : ℕ → Type 0) → P 0 → P 1 → (k : ℕ) → k < 2 → P k
below_two P p q zero h = p
below_two P p q (suc zero) h = q
below_two P p q (suc (suc k)) h = let z : ⊥ = omega arith in absurd z

-- a table of two parity lines
two-lines : (x y : Word) → length x ≡ line_places → length y ≡ line_places
    → (places_at (buffer_of (x ∷ y ∷ [])) 0 ≡ x) × (places_at (buffer_of (x ∷ y ∷ [])) 1 ≡ y)
two-lines x y e f =
    (places_at-buffer_of (x ∷ y ∷ []) sized 0 (lit< tt), places_at-buffer_of (x ∷ y ∷ []) sized 1 (lit< tt))
  where
    sized : Sized (x ∷ y ∷ [])
    sized = below_two (λ n. length (word_at (x ∷ y ∷ []) n) ≡ line_places) e f

-- numbers counted upward
up_from-distinct : (n k : ℕ) → Distinct (up_from n k)
up_from-distinct n zero = tt
up_from-distinct n (suc k) = ((λ i. omega (arith, (up_from-bounds (suc n) k n i).0)), up_from-distinct (suc n) k)

-- ---- any 2 by 2 rectangle written whose column 1 is unusable when it is hurt so, as it is received
module _ (promises : Promises line_layer) (a b c d : Word)
    (correct : (n : ℕ) → n < 4 → CorrectLine line_layer n (word_at (a ∷ b ∷ c ∷ d ∷ []) n))
    (unread : (address : ℕ) → is_faulty (line_layer.read address (flip 1 (flip 0 (b ⊕ (d ⊕ []))))) ≡ true) where
  ws : List Word
  ws = a ∷ b ∷ c ∷ d ∷ []

  rs : List Word
  rs = flip 1 (flip 0 a) ∷ flip 3 (flip 2 b) ∷ flip 1 (flip 0 c) ∷ flip 3 (flip 2 d) ∷ []

  stored : Rectangle
  stored = rectangle_of 2 2 (buffer_of ws)

  whole : Written stored
  unfolding stored ws sides_fit side_fits
  whole = correct-written promises 2 2 ws refl refl correct

  -- the parity lines written
  abbrev row_at : ℕ → Word
  row_at k = places_at stored.row_table k

  abbrev column_at : ℕ → Word
  column_at k = places_at stored.column_table k

  -- and as they are received
  abbrev found_rows : List Word
  found_rows = flip 0 (row_at 0) ∷ row_at 1 ∷ []

  abbrev found_columns : List Word
  found_columns = column_at 0 ∷ flip 1 (flip 0 (column_at 1)) ∷ []

  found : Rectangle
  found = received stored (buffer_of rs) (buffer_of found_rows) (buffer_of found_columns)

  sized : Sized ws
  unfolding ws
  sized n h = promises.sized (line_layer.address n) (word_at ws n) (correct n h)

  sized-received : Sized rs
  unfolding rs ws
  sized-received zero h = length-flip 1 (flip 0 a) ∙ length-flip 0 a ∙ sized 0 h
  sized-received (suc zero) h = length-flip 3 (flip 2 b) ∙ length-flip 2 b ∙ sized 1 h
  sized-received (suc (suc zero)) h = length-flip 1 (flip 0 c) ∙ length-flip 0 c ∙ sized 2 h
  sized-received (suc (suc (suc zero))) h = length-flip 3 (flip 2 d) ∙ length-flip 2 d ∙ sized 3 h
  sized-received (suc (suc (suc (suc n)))) h = let z : ⊥ = omega arith in absurd z

  long : (n : ℕ) → n < 4 → 4 ≤ length (word_at ws n)
  unfolding ws
  long n h = omega (arith, sized n h, places_is)

  -- the damage of each line
  damage-is : (n : ℕ) → n < 4 → damage stored found n ≡ distance (word_at ws n) (word_at rs n)
  unfolding stored found ws rs rectangle_of
  damage-is n h = ap₂ distance (places_at-buffer_of ws sized n h) (places_at-buffer_of rs sized-received n h)

  place_is : (n : ℕ) → n < 4 → damaged_at stored found n 0 ≡ get_or (word_at ws n ⊕ word_at rs n) 0 false
  unfolding stored found ws rs rectangle_of
  place_is n h =
      ap₂ (λ (x y : Word). get_or (x ⊕ y) 0 false) (places_at-buffer_of ws sized n h) (places_at-buffer_of rs sized-received n h)

  two-bits : (n : ℕ) → n < 4 → damage stored found n ≡ 2
  unfolding ws rs
  two-bits zero h = damage-is 0 h ∙ first_two a (omega (arith, long 0 h))
  two-bits (suc zero) h = damage-is 1 h ∙ next-two b (long 1 h)
  two-bits (suc (suc zero)) h = damage-is 2 h ∙ first_two c (omega (arith, long 2 h))
  two-bits (suc (suc (suc zero))) h = damage-is 3 h ∙ next-two d (long 3 h)
  two-bits (suc (suc (suc (suc n)))) h = let z : ⊥ = omega arith in absurd z

  -- the damage of each parity line
  long-row : (k : ℕ) → k < 2 → length (row_at k) ≡ line_places
  unfolding stored rectangle_of
  long-row k h = promises.sized _ _ ((rows_written promises stored whole).correct k h)

  long-column : (k : ℕ) → k < 2 → length (column_at k) ≡ line_places
  unfolding stored rectangle_of
  long-column k h = promises.sized _ _ ((columns-written promises stored whole).correct k h)

  rows_are : (places_at found.row_table 0 ≡ flip 0 (row_at 0)) × (places_at found.row_table 1 ≡ row_at 1)
  unfolding found
  rows_are =
      two-lines (flip 0 (row_at 0)) (row_at 1) (length-flip 0 (row_at 0) ∙ long-row 0 (lit< tt)) (long-row 1 (lit< tt))

  columns-are : (places_at found.column_table 0 ≡ column_at 0) × (places_at found.column_table 1 ≡ flip 1 (flip 0 (column_at 1)))
  unfolding found
  columns-are =
      two-lines (column_at 0) (flip 1 (flip 0 (column_at 1))) (long-column 0 (lit< tt))
      (length-flip 1 (flip 0 (column_at 1)) ∙ length-flip 0 (column_at 1) ∙ long-column 1 (lit< tt))

  row-damage : (row_damage stored found 0 ≡ 1) × (row_damage stored found 1 ≡ 0)
  row-damage = (
    ap (distance (row_at 0)) rows_are.0 ∙ first_one (row_at 0) (omega (arith, long-row 0 (lit< tt), places_is)),
    ap (distance (row_at 1)) rows_are.1 ∙ distance_self (row_at 1),
  )

  column-damage : (column_damage stored found 0 ≡ 0) × (column_damage stored found 1 ≡ 2)
  column-damage = (
    ap (distance (column_at 0)) columns-are.0 ∙ distance_self (column_at 0),
    ap (distance (column_at 1)) columns-are.1 ∙ first_two (column_at 1) (omega (arith, long-column 1 (lit< tt), places_is)),
  )

  -- column 1 as written is the sum of lines 1 and 3, and as received it is unusable
  column-is : column_at 1 ≡ b ⊕ (d ⊕ [])
  unfolding stored rectangle_of ws column
  column-is =
      (columns-written promises stored whole).sums 1 (lit< tt)
      ∙ ap (λ (l : List Word). sum (word_at l) (1 ∷ 3 ∷ [])) (lines_in-buffer_of ws sized)

  faulty : unusable line_layer (column_group found.rows found.columns found.column_table 1) ≡ true
  unfolding unusable
  faulty = rw (columns-are.1, column-is) (unread _)

  -- line 0 first, by trial beside line 1 in row 0
  first : Paired stored found (λ m. m / 2) 0 (1 ∷ 2 ∷ 3 ∷ [])
  unfolding ws rs
  first =
      record {
        two = two-bits 0 (lit< tt);
        other = 1;
        left = inl refl;
        together = refl;
        no_third = third;
        four = omega (arith, two-bits 1 (lit< tt));
        place = 0;
        hurt = place_is 0 (lit< tt) ∙ hurt-first a (omega (arith, long 0 (lit< tt)));
        unhurt = place_is 1 (lit< tt) ∙ unhurt-first b;
      }
    where
      third : (m : ℕ) → m ∈ (1 ∷ 2 ∷ 3 ∷ []) → m / 2 ≡ 0 / 2 → m ≡ 1
      third m (inl e) f = e
      third m (inr (inl e)) f = let z : ⊥ = omega (arith, rw e at f) in absurd z
      third m (inr (inr (inl e))) f = let z : ⊥ = omega (arith, rw e at f) in absurd z
      third m (inr (inr (inr i))) f = absurd i

  -- then line 1 is the only one left in row 0, line 2 in column 0, and line 3 everywhere
  last-in-row : Alone stored found (λ m. m / 2) 1 (2 ∷ 3 ∷ [])
  last-in-row m (inl e) f = omega (arith, rw e at f)
  last-in-row m (inr (inl e)) f = omega (arith, rw e at f)
  last-in-row m (inr (inr i)) f = i

  last-in-column : Alone stored found (λ m. m % 2) 2 (3 ∷ [])
  last-in-column m (inl e) f = omega (arith, rw e at f)
  last-in-column m (inr i) f = i

  bounds : WithinBounds stored found
  unfolding stored found rs rectangle_of
  bounds =
      record {
        shape = record {
          rows = refl;
          columns = refl;
          line_bytes = length-holds 4 (buffer_of rs) (length-buffer_of rs);
          table_bytes = lengths-tables 2 2 _ _ (length-buffer_of found_rows) (length-buffer_of found_columns);
        };
        five = λ n h. omega (arith, two-bits n h);
        row_five = below_two _ (omega (arith, row-damage.0)) (omega (arith, row-damage.1));
        column_five = below_two _ (omega (arith, column-damage.0)) (omega (arith, column-damage.1));
      }

  damaged : DamagedSo stored found
  unfolding stored found rectangle_of
  damaged =
      record {
        bounds = bounds;
        ordered = record {
          order = 0 ∷ 1 ∷ 2 ∷ 3 ∷ [];
          once = up_from-distinct 0 4;
          each = λ n h k. listed n h;
          no_other = λ n i. (inside n i, omega (arith, two-bits n (inside n i)));
          -- column 1 does not count
          turns = (
            inl (omega (arith, row-damage.0), inr first),
            (
              inl (omega (arith, row-damage.0), inl last-in-row),
              (
                inr (omega (arith, column-damage.0), inl last-in-column),
                (inl (omega (arith, row-damage.1), inl (λ m i e. i)), tt),
              ),
            ),
          );
        };
      }
    where
      listed : (n : ℕ) → n < 4 → n ∈ (0 ∷ 1 ∷ 2 ∷ 3 ∷ [])
      listed n h = rw zero-add at (in-up_from 0 4 n h)

      inside : (n : ℕ) → n ∈ (0 ∷ 1 ∷ 2 ∷ 3 ∷ []) → n < 4
      inside n i = (up_from-bounds 0 4 n i).1

  differ : lines_in 4 stored.lines ≡ lines_in 4 found.lines → ⊥
  differ e =
      let same = lines_in-equal 4 stored.lines found.lines e 0 (lit< tt) in
      let line = places_at stored.lines 0 in
      let none : damage stored found 0 ≡ 0 = ap (distance line) (sym same) ∙ distance_self line in
      omega (arith, two-bits 0 (lit< tt))

  met : HypothesisMet
  unfolding stored found rectangle_of damaged
  met =
      record {
        written = stored;
        received = found;
        whole = whole;
        damaged = damaged;
        differ = differ;
        first = 0;
        later = 1 ∷ 2 ∷ 3 ∷ [];
        order = refl;
        trial = first;
        not_in_row = λ alone. alone 1 (inl refl) refl;
        not_in_column = λ alone. alone 2 (inr (inl refl)) refl;
        hurt = row-damage.0;
        lost = 1;
        inside = lit< tt;
        faulty = faulty;
      }

-- ---- such a rectangle of four lines of zero data, written with the line code's own promises
abbrev zero_line : ℕ → Word
zero_line n = new_line n (replicate 64 0)

zero-lines : (n : ℕ) → n < 4 → CorrectLine line_layer n (word_at (zero_line 0 ∷ zero_line 1 ∷ zero_line 2 ∷ zero_line 3 ∷ []) n)
unfolding data_bytes
zero-lines zero h = write-correct 0 _ refl
zero-lines (suc zero) h = write-correct 1 _ refl
zero-lines (suc (suc zero)) h = write-correct 2 _ refl
zero-lines (suc (suc (suc zero))) h = write-correct 3 _ refl
zero-lines (suc (suc (suc (suc n)))) h = let z : ⊥ = omega arith in absurd z

pub hypothesis_met : HypothesisMet
hypothesis_met =
    met kept (zero_line 0) (zero_line 1) (zero_line 2) (zero_line 3) zero-lines (λ address. blank-hurt address 1 3)

-- so repair returns it, lines and tables
pub example-returned : (b : Buffers) → Room hypothesis_met.received b
    → Returned hypothesis_met.written (repair_of hypothesis_met.received b)
example-returned = exact_return _ _ hypothesis_met.whole hypothesis_met.damaged
