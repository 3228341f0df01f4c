-- What repair starts from, and what it hands over.
use mathlib.Core.Path.{◌≡◌, refl, sym, ap, ap₂, ◌∙◌, subst}
use mathlib.Core.Logic.{inl, inr}
use mathlib.Core.Bool.{Bool, true, false, not, cond}
use mathlib.Core.List.{List, [], ◌∷◌, ◌++◌}
use Prim.Native.Nat.{ℕ, zero, suc, ◌+◌, ◌*◌, ◌≤◌, ◌<◌}
use native.Mathlib.Nat.{zero-add}
use native.Mathlib.Omega.{arith}
use lib.Dec.{eqb}
use lib.ListN.{length, get_or, replicate, length-replicate, get_or-replicate}
use Rattle.gf2.specs.Word.{Word, ◌⊕◌, zeros}
use Rattle.gf2.proofs.Xor.{xor_comm, length-xor-same}
use Rattle.gf2.proofs.Crc.{zeros-xor}
use Rattle.linecode.specs.Places.{line_places, line_of}
use Rattle.scheme.specs.Layer.{read_line}
use Rattle.scheme.specs.Visit.{Group, State, line_at, faulty_of, sum}
use Rattle.scheme.specs.Repair.{Repaired, read_all, faulty_count, agrees, passes_from, repair, lines_of, marks_of, answer}
use Rattle.scheme.specs.Parity.{read_parity, unusable}
use Rattle.scheme.specs.Demand3.{◌∈◌}
use Rattle.scheme.proofs.Width.{read-width}
use Rattle.rectangle.specs.Store.{line_layer, places_at, bytes_at, lines_in, buffer_of, stride, row_group, column_group, row_groups, column_groups}
use Rattle.rectangle.specs.Repair.{used_groups, repaired_by, table_after, handed_over, StoreRepaired}
use Rattle.rectangle.proofs.Spare.{bytes-is}
use Rattle.rectangle.proofs.Buffer.{length-places_at}
use Rattle.linecode.specs.declared.alone.Reading.{Reading}
use Rattle.rectangle.proofs.LineLayer.{kept, parity-read}
use Rattle.groups.specs.Lent.{Beside, Tracked, Carried, Rectangular, Room, Numbered, members_of, group_of}
use Rattle.groups.proofs.Numbers.{by_number, any-numbered, members-inside}
use Rattle.groups.proofs.Held.{held-count}
use Rattle.groups.proofs.Joined.{first-at, second_at}
use Rattle.parity.specs.Lent.{Started, MarksOf, Fresh, start_of}
use denote.Enum.Bare.{sameb}
use Rattle.rectangle.specs.declared.answers.Outcome.{Outcome}
use Rattle.rectangle.specs.declared.answers.Outcome.TheVariants.{Done, Left, Differs}
use Rattle.rectangle.specs.contracts.answers.Outcome.{the_type}
use Rattle.rectangle.specs.Answers.{outcome_number}
use Rattle.repair.specs.Lent.{RanPasses, Finished, all_groups}
use Rattle.groups.proofs.Found.{found_group, found-row, found-column, found-members}
use Rattle.repair.proofs.Groups.{starts_from, starts-zero, all-groups}

-- ---- no line is read yet
no-sum : (ns : List ℕ) → sum (line_at []) ns ≡ []
no-sum [] = refl
no-sum (n ∷ ns) = no-sum ns

no-faulty : (ns : List ℕ) → length (faulty_of [] ns) ≡ 0
no-faulty [] = refl
no-faulty (n ∷ ns) = no-faulty ns

pub zero-marks-long : length (replicate {A = ℕ} 1024 0) ≡ 1024
zero-marks-long = length-replicate {A = ℕ} 1024 0

-- what a difference starts from has all places
start-long : (g : Group) → length g.parity ≡ line_places → length (start_of g) ≡ line_places
unfolding start_of
start-long g e = go (unusable line_layer g)
  where
    go : (b : Bool) → length (cond b (zeros line_places) (read_parity line_layer g).line) ≡ line_places
    go true = length-replicate line_places false
    go false = read-width line_layer kept _ g.parity e

-- ---- both tables are read: all differences start, and all marks are kept
module _ (rows columns : ℕ) (rt ct rl cl pm₀ pm₁ pm : List ℕ) (row_bytes : length rt ≡ rows * 70) (column_bytes : length ct ≡ columns * 70)
    (rows_high : rows ≤ 512) (columns_high : columns ≤ 512) (long : length rl ≡ rows * 70)
    (of_rows : Started (row_group columns rt) 0 rows rl pm₀ pm₁) (of_columns : Started (column_group rows columns ct) rows columns cl pm₁ pm) where
  pub started : Tracked rows columns (starts_from rows columns rt ct) (rl ++ cl) (replicate 1024 0) []
  started =
      by_number rows columns
      (λ k. Beside (group_of rows columns (starts_from rows columns rt ct) k) [] (bytes_at (rl ++ cl) k) (get_or (replicate 1024 0) k 0))
      (λ r h.
      first r (omega arith) (row_group columns rt r) (found-row rows columns rt ct r h)
      (length-places_at rows rt (row_bytes ∙ ap (λ (i : ℕ). rows * i) (sym bytes-is)) r h)
      (first-at rl cl rows long r h ∙ of_rows.starts r h))
      (λ c h.
      first (rows + c) (omega arith) (column_group rows columns ct c) (found-column rows columns rt ct c)
      (length-places_at columns ct (column_bytes ∙ ap (λ (i : ℕ). columns * i) (sym bytes-is)) c h)
      (second_at rl cl rows long c ∙ of_columns.starts c h))
    where
      first : (k : ℕ) → k < 1024 → (g : Group) → found_group rows columns rt ct k ≡ g → length g.parity ≡ line_places
          → bytes_at (rl ++ cl) k ≡ line_of (start_of g)
          → Beside (group_of rows columns (starts_from rows columns rt ct) k) [] (bytes_at (rl ++ cl) k) (get_or (replicate 1024 0) k 0)
      first k h g p wide e =
          record {
            wide = ap length start ∙ start-long g wide;
            long = ap length whole ∙ start-long g wide;
            lack = e ∙ ap line_of (sym whole);
            number = get_or-replicate 1024 k 0 0 h ∙ sym (no-faulty (members_of rows columns k));
          }
        where
          start : starts_from rows columns rt ct k ≡ start_of g
          start = ap start_of p

          whole : sum (line_at []) (members_of rows columns k) ⊕ starts_from rows columns rt ct k ≡ start_of g
          whole = ap₂ ◌⊕◌ (no-sum (members_of rows columns k)) start

  pub marked : (k : ℕ) → k < rows + columns → get_or pm k 0 ≡ (read_parity line_layer (found_group rows columns rt ct k)).mark
  marked =
      by_number rows columns (λ k. get_or pm k 0 ≡ (read_parity line_layer (found_group rows columns rt ct k)).mark)
      (λ r h.
      of_columns.before r h
      ∙ ap (λ (i : ℕ). get_or pm₁ i 0) (sym (zero-add r))
      ∙ of_rows.marked r h
      ∙ ap (λ (g : Group). (read_parity line_layer g).mark) (sym (found-row rows columns rt ct r h)))
      (λ c h. of_columns.marked c h ∙ ap (λ (g : Group). (read_parity line_layer g).mark) (sym (found-column rows columns rt ct c)))

  -- each table's marks, by its bytes
  pub row-marks : MarksOf rt 0 rows pm
  unfolding places_at
  row-marks r h =
      ap (λ (i : ℕ). get_or pm i 0) (zero-add r)
      ∙ of_columns.before r h
      ∙ ap (λ (i : ℕ). get_or pm₁ i 0) (sym (zero-add r))
      ∙ of_rows.marked r h
      ∙ sym (ap (λ (r : Reading). r.mark) (parity-read (row_group columns rt r) (bytes_at rt r) refl))

  pub column-marks : MarksOf ct rows columns pm
  unfolding places_at
  column-marks c h =
      of_columns.marked c h ∙ sym (ap (λ (r : Reading). r.mark) (parity-read (column_group rows columns ct c) (bytes_at ct c) refl))

-- ---- buffers as long as they were
pub same-rect : (rows columns : ℕ) (out marks out' marks' : List ℕ) → Rectangular rows columns out marks → length out' ≡ length out
    → length marks' ≡ length marks → Rectangular rows columns out' marks'
same-rect rows columns out marks out' marks' r e f =
    record {
      rows_low = r.rows_low;
      rows_high = r.rows_high;
      columns_low = r.columns_low;
      columns_high = r.columns_high;
      out_bytes = e ∙ r.out_bytes;
      mark_bytes = f ∙ r.mark_bytes;
    }

pub room_for : (rows columns : ℕ) (out marks out' marks' lacks faulty : List ℕ) → Rectangular rows columns out marks → length out' ≡ length out
    → length marks' ≡ length marks → length lacks ≡ (rows + columns) * 70 → length faulty ≡ 1024 → Room rows columns out' marks' lacks faulty
room_for rows columns out marks out' marks' lacks faulty r e f g h =
    record { rect = same-rect rows columns out marks out' marks' r e f; lack_bytes = g; counts = h }

-- ---- what the steps leave
pub finished : (rows columns : ℕ) (pm : List ℕ) (parity : ℕ → Word) (found out₁ marks₁ lacks₁ faulty₁ out marks lacks faulty : List ℕ) (answered passed : ℕ)
    → Carried rows columns parity out₁ marks₁ lacks₁ faulty₁ (read_all (read_line line_layer) 0 (lines_in (rows * columns) found))
    → RanPasses rows columns pm out₁ marks₁ lacks₁ faulty₁ out marks lacks faulty passed → length marks ≡ rows * columns
    → ((parity : ℕ → Word) (s : State) → length s ≡ rows * columns → Tracked rows columns parity lacks faulty s
    → answered ≡ answer (all_groups rows columns pm parity) s)
    → Finished rows columns pm parity found out marks lacks answered passed
finished rows columns pm parity found out₁ marks₁ lacks₁ faulty₁ out marks lacks faulty answered passed h r m a =
    record {
      cells = t;
      ran = same (passes_from (read_line line_layer) (all_groups rows columns pm parity) s) passed (r.passes parity s h);
      held = last.held;
      answers = a parity t (sym (held-count out marks t last.held) ∙ m) last.beside;
      differences = λ k i. (last.beside k i).lack;
    }
  where
    s : State
    s = read_all (read_line line_layer) 0 (lines_in (rows * columns) found)

    t : State
    t = (passes_from (read_line line_layer) (all_groups rows columns pm parity) s).cells

    last : Carried rows columns parity out marks lacks faulty t
    last = r.cells parity s h

    same : (x : Repaired) (n : ℕ) → n ≡ x.passes → x ≡ record { cells = x.cells; passes = n }
    same x n e = ap (λ (k : ℕ). record { cells = x.cells; passes = k }) (sym e)

-- ---- unusable groups: in the end their differences are the sums of their lines
sum-long : (f : ℕ → Word) (n : ℕ) (ns : List ℕ) → ((m : ℕ) → m ∈ (n ∷ ns) → length (f m) ≡ line_places) → length (sum f (n ∷ ns)) ≡ line_places
sum-long f n [] h = ap length (xor_comm (f n) []) ∙ h n (inl refl)
sum-long f n (m ∷ ns) h =
    length-xor-same (f n) (sum f (m ∷ ns)) (h n (inl refl) ∙ sym (sum-long f m ns (λ k i. h k (inr i)))) ∙ h n (inl refl)

module _ (rows columns : ℕ) (out marks : List ℕ) (rect : Rectangular rows columns out marks) where
  members-long : (f : ℕ → Word) → ((n : ℕ) → n < rows * columns → length (f n) ≡ line_places) → (k : ℕ) → k < rows + columns
      → length (sum f (members_of rows columns k)) ≡ line_places
  members-long f h k i = go (any-numbered rows columns rect.rows_low rect.rows_high rect.columns_low rect.columns_high k i)
    where
      each : (m : ℕ) → m ∈ members_of rows columns k → length (f m) ≡ line_places
      each m j = h m (members-inside rows columns (omega (arith, rect.columns_low)) m k i j)

      some : (first step count : ℕ) → 0 < count → stride first step count ≡ members_of rows columns k
          → length (sum f (stride first step count)) ≡ line_places
      some first step zero l e = let z : ⊥ = omega arith in absurd z
      some first step (suc count) l e =
          sum-long f first (stride (first + step) step count) (λ m j. each m (subst (λ (ns : List ℕ). m ∈ ns) e j))

      go : (first : ℕ) × (step : ℕ) × (count : ℕ) × Numbered rows columns k first step count
          → length (sum f (members_of rows columns k)) ≡ line_places
      go q = subst (λ (ns : List ℕ). length (sum f ns) ≡ line_places) q.3.lines (some q.0 q.1 q.2 q.3.inside.some q.3.lines)

  module _ (rt ct pm found lacks : List ℕ) (answered passed : ℕ)
      (f : Finished rows columns pm (starts_from rows columns rt ct) found out marks lacks answered passed) where
    unusable-sum : (k : ℕ) → k < rows + columns → unusable line_layer (found_group rows columns rt ct k) ≡ true
        → bytes_at lacks k ≡ line_of (sum (line_at f.cells) (found_group rows columns rt ct k).members)
    unusable-sum k i e =
        f.differences k i
        ∙ ap (λ (w : Word). line_of (sum (line_at f.cells) (members_of rows columns k) ⊕ w)) (starts-zero (found_group rows columns rt ct k) e)
        ∙ ap line_of
        (xor_comm (sum (line_at f.cells) (members_of rows columns k)) (zeros line_places)
        ∙ zeros-xor line_places (sum (line_at f.cells) (members_of rows columns k)) (members-long (line_at f.cells) wide k i))
        ∙ ap (λ (ns : List ℕ). line_of (sum (line_at f.cells) ns)) (found-members rows columns rt ct k)
      where
        wide : (n : ℕ) → n < rows * columns → length (line_at f.cells n) ≡ line_places
        wide n h = f.held.wide n (omega (arith, held-count out marks f.cells f.held, rect.mark_bytes))

    -- in their own tables
    module _ (rl cl : List ℕ) (both : lacks ≡ rl ++ cl) (long : length rl ≡ rows * 70) where
      pub fresh-rows : Fresh (row_group columns rt) rows rl f.cells
      fresh-rows r h e =
          sym (ap (λ (l : List ℕ). bytes_at l r) both ∙ first-at rl cl rows long r h)
          ∙ unusable-sum r (omega arith) (ap (unusable line_layer) (found-row rows columns rt ct r h) ∙ e)
          ∙ ap (λ (g : Group). line_of (sum (line_at f.cells) g.members)) (found-row rows columns rt ct r h)

      pub fresh-columns : Fresh (column_group rows columns ct) columns cl f.cells
      fresh-columns c h e =
          sym (ap (λ (l : List ℕ). bytes_at l (rows + c)) both ∙ second_at rl cl rows long c)
          ∙ unusable-sum (rows + c) (omega arith) (ap (unusable line_layer) (found-column rows columns rt ct c) ∙ e)
          ∙ ap (λ (g : Group). line_of (sum (line_at f.cells) g.members)) (found-column rows columns rt ct c)

    -- the answer tells whether lines are left faulty
    pub none_left : not (eqb answered 11) ≡ eqb (faulty_count f.cells) 0
    unfolding answer
    none_left = ap (λ (n : ℕ). not (eqb n 11)) f.answers ∙ go (eqb (faulty_count f.cells) 0) (agrees (all_groups rows columns pm (starts_from rows columns rt ct)) f.cells)
      where
        go : (none agree : Bool) → not (eqb (cond none (cond agree 0 12) 11) 11) ≡ none
        go true true = refl
        go true false = refl
        go false agree = refl

    -- ---- what repair hands over
    module _ (marked : (k : ℕ) → k < rows + columns → get_or pm k 0 ≡ (read_parity line_layer (found_group rows columns rt ct k)).mark) where
      pub handed : (ro co : List ℕ) → ro ≡ table_after line_layer f.cells (row_groups rows columns rt)
          → co ≡ table_after line_layer f.cells (column_groups rows columns ct)
          → ◌≡◌ {A = StoreRepaired}
          (record { answer = answered; passes = passed; lines = out; marks = marks; row_table = ro; column_table = co })
          (handed_over line_layer rows columns rt ct (repaired_by line_layer rows columns found rt ct))
      unfolding repaired_by handed_over repair
      handed ro co e g =
          all-five answered _ out _ marks _ ro _ co _ (f.answers ∙ ap (λ (gs : List Group). answer gs f.cells) used) f.held.lines f.held.marked e g
          ∙ ap Hands (sym f.ran ∙ ap (λ (gs : List Group). passes_from (read_line line_layer) gs s) used)
        where
          s : State
          s = read_all (read_line line_layer) 0 (lines_in (rows * columns) found)

          used : all_groups rows columns pm (starts_from rows columns rt ct) ≡ used_groups line_layer rows columns rt ct
          used = all-groups rows columns rt ct pm marked

          Hands : Repaired → StoreRepaired
          Hands r =
              record {
                answer = answer (used_groups line_layer rows columns rt ct) r.cells;
                passes = r.passes;
                lines = buffer_of (lines_of r.cells);
                marks = marks_of r.cells;
                row_table = table_after line_layer r.cells (row_groups rows columns rt);
                column_table = table_after line_layer r.cells (column_groups rows columns ct);
              }

          all-five : (a a' : ℕ) (b b' c c' d d' x x' : List ℕ) → a ≡ a' → b ≡ b' → c ≡ c' → d ≡ d' → x ≡ x'
              → ◌≡◌ {A = StoreRepaired} (record { answer = a; passes = passed; lines = b; marks = c; row_table = d; column_table = x })
              (record { answer = a'; passes = passed; lines = b'; marks = c'; row_table = d'; column_table = x' })
          all-five a a' b b' c c' d d' x x' i j k l m = cc

-- whether lines are left faulty, by the outcome
pub left-test : (outcome : Outcome) → not (sameb the_type outcome Left) ≡ not (eqb (outcome_number outcome) 11)
left-test Done = refl
left-test Left = refl
left-test Differs = refl
