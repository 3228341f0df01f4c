-- A read of one line keeps its promises.
use mathlib.Core.Path.{◌≡◌, refl, sym, ap, ap₂, ◌∙◌}
use mathlib.Core.Logic.{◌⊎◌, inl, inr, ◌↔◌}
use mathlib.Core.Bool.{Bool, true, false, cond, ◌&&◌, and-eq-true_iff}
use mathlib.Core.List.{List, [], ◌∷◌}
use Prim.Native.Nat.{ℕ, ◌*◌, ◌/◌, ◌<◌}
use native.Mathlib.Omega.{arith}
use borrow.Author.Tests.{eqb-true, eqb-false, ne_eqb}
use lib.Dec.{eqb, ltb}
use lib.ListN.{length, get_or}
use Rattle.linecode.specs.Places.{line_bytes, places, line_of}
use Rattle.scheme.specs.Layer.{Cell, CorrectLine}
use Rattle.scheme.specs.Visit.{cell_at, is_faulty}
use Rattle.scheme.specs.Demand3.{◌∈◌}
use Rattle.rectangle.specs.Store.{line_layer, bytes_at, places_at, alone_at, in_bytes}
use Rattle.rectangle.specs.Refusals.{sides_fit, holds, tables_fit, repair_refusal, repair_refusals}
use Rattle.rectangle.specs.Repair.{Buffers, hands_over, handed_over}
use Rattle.rectangle.proofs.Members.{in_left, in_right}
use Rattle.rectangle.proofs.Spare.{bytes-is}
use Rattle.rectangle.proofs.Tests.{passed, refusal-in, not-among, either_way}
use Rattle.rectangle.proofs.Refusing.{sizes-then}
use Rattle.rectangle.proofs.Runs.{zero_or_not, answer-hands-over, repair-refusals}
use Rattle.demands.specs.Demands.{Rectangle, count, Room, repair_of, groups_of, steps_on, Written, WithinBounds, DamagedSo}
use Rattle.demands.proofs.Refused as Repairs
use Rattle.demands.proofs.Left.{eleven_is_left}
use Rattle.demands.proofs.Sound.{given_correct}
use Rattle.demands.proofs.Kept.{faulty_as_found, no_wrong_line, exact_return}
use Rattle.local_decoding.specs.Lookup.{after_row, last_step, one_refusal, one_answers, given_by, read_one}
use Rattle.local_decoding.specs.Promises.{read_in, Done, line_with, AsRepairGives, OneAsRepair, StepTells, StepsTell, OneRefused, OneSafe}
use Rattle.local_decoding.proofs.Refusing.{OnePass, one_passes, nothing-refused, one-refused as one-refused-as}
use Rattle.local_decoding.proofs.Cells.{alone-final, alone-visited, row-final, repaired-line, repaired-mark-or, repaired-mark}

-- two numbers that differ
never : {A : Type 0} {x y : ℕ} → eqb x y ≡ false → x ≡ y → A
never {x} {y} p e = absurd (eqb-false x y p e)

-- its answer tells whether the line is faulty
eleven : (mark : ℕ) → (◌≡◌ {A = ℕ} (cond (eqb mark 4) 11 0) 11) ↔ (mark ≡ 4)
eleven mark = go (eqb mark 4) refl
  where
    go : (b : Bool) → eqb mark 4 ≡ b → (◌≡◌ {A = ℕ} (cond b 11 0) 11) ↔ (mark ≡ 4)
    go true e = (λ z. eqb-true mark 4 e, λ z. refl)
    go false e = (λ z. omega arith, λ z. absurd (eqb-false mark 4 e z))

-- the refusals, 0 among them
abbrev own_refusals : List ℕ
own_refusals = 0 ∷ 2 ∷ 5 ∷ 6 ∷ 7 ∷ 8 ∷ []

module _ (r : Rectangle) (n : ℕ) (work : Buffers) (line : List ℕ) where
  refusal : ℕ
  refusal = one_refusal r.rows r.columns r.lines r.row_table r.column_table n work line

  -- ---- what is refused
  -- where nothing is: what its tests ask for
  abbrev Asked : Type 0
  Asked = OnePass r.rows r.columns r.lines r.row_table r.column_table n work line

  asked : refusal ≡ 0 → Asked
  unfolding refusal
  asked e = one_passes r.rows r.columns r.lines r.row_table r.column_table n work line e

  granted : Asked → refusal ≡ 0
  unfolding refusal
  granted a =
      sym (nothing-refused r.rows r.columns r.lines r.row_table r.column_table n work line _ refl a.of_repair
      a.line_bytes a.inside)

  not-refused : Asked → Repairs.refusal r work ≡ 0
  unfolding Repairs.refusal
  not-refused a = a.of_repair

  own-refusal : refusal ∈ own_refusals
  unfolding refusal one_refusal Repairs.refusal
  own-refusal = go (zero_or_not (Repairs.refusal r work))
    where
      later : (m : ℕ) → m ∈ (0 ∷ 7 ∷ 8 ∷ []) → m ∈ own_refusals
      later m (inl z) = inl z
      later m (inr i) = in_right (0 ∷ 2 ∷ 5 ∷ 6 ∷ []) (7 ∷ 8 ∷ []) m i

      go : (Repairs.refusal r work ≡ 0) ⊎ (Repairs.refusal r work ≡ 0 → ⊥) → refusal ∈ own_refusals
      go (inl z) = rw z (later _ (refusal-in ((eqb (length line) line_bytes, 7) ∷ (ltb n (count r), 8) ∷ [])))
      go (inr d) =
          rw (ne_eqb (Repairs.refusal r work) 0 d)
          (in_left repair_refusals (8 ∷ []) _
          (repair-refusals r.rows r.columns r.lines r.row_table r.column_table work.lines work.marks work.row_table
          work.column_table))

  -- ---- the choice of the entry point
  step : ℕ
  step = last_step r.rows r.columns r.lines r.row_table n

  runs : Asked → read_in r n work line ≡ given_by (repair_of r work) n step work
  unfolding read_in read_one repair_of refusal step
  runs a = rw (granted a)

  refused : (refusal ≡ 0 → ⊥) → read_in r n work line ≡ record { answer = refusal; step = 0; mark = 0; line = line; work = work }
  unfolding read_in refusal
  refused d = sym (one-refused-as r.rows r.columns r.lines r.row_table r.column_table n work line refusal refl d)

  done-asked : Done (read_in r n work line) → Asked
  done-asked done = go (zero_or_not refusal) done
    where
      go : (refusal ≡ 0) ⊎ (refusal ≡ 0 → ⊥) → Done (read_in r n work line) → Asked
      go (inl z) e = asked z
      go (inr d) (inl e) = absurd (d (rw (refused d) at e))
      go (inr d) (inr e) = absurd (not-among 11 own_refusals refl own-refusal (rw (refused d) at e))

  -- where repair hands over, only the line and its number are left to ask for
  fits : hands_over (repair_of r work).answer ≡ true → length line ≡ line_bytes → n < count r → Asked
  unfolding Repairs.refusal
  fits over bytes number = record { of_repair = Repairs.not-refused r work over; line_bytes = bytes ∙ bytes-is; inside = number }

  -- ---- a read that is not refused
  module _ (a : Asked) where
    hands : hands_over (repair_of r work).answer ≡ true
    unfolding handed_over
    hands = rw (Repairs.runs r work (not-refused a)) (answer-hands-over (groups_of r) (steps_on r).cells)

    room : Room r work
    unfolding repair_refusal
    room =
        let next = (sizes-then r.rows r.columns r.lines r.row_table r.column_table _ a.of_repair).1 in
        let six = passed (tables_fit r.rows r.columns work.row_table work.column_table) 6 _ (λ z. omega arith) next in
        let seven = passed (holds (count r) work.lines && eqb (length work.marks) (count r)) 7 0 (λ z. omega arith) six.1 in
        let both = (and-eq-true_iff (holds (count r) work.lines) (eqb (length work.marks) (count r))).0 seven.0 in
        record { line_bytes = both.0; marks = eqb-true _ _ both.1; table_bytes = six.0 }

    faulty : ((read_in r n work line).answer ≡ 11) ↔ (get_or (repair_of r work).marks n 0 ≡ 4)
    faulty = rw (runs a) (eleven (get_or (repair_of r work).marks n 0))

    done : Done (read_in r n work line)
    done =
        rw (runs a)
        (either_way (λ (m : ℕ). (m ≡ 0) ⊎ (m ≡ 11)) (eqb (get_or (repair_of r work).marks n 0) 4) 11 0 (inr refl) (inl refl))

    as-repair : AsRepairGives r n work (read_in r n work line)
    as-repair =
        rw (runs a)
        (record {
          repaired = hands;
          line = refl;
          mark = refl;
          eleven = eleven (get_or (repair_of r work).marks n 0);
          cleared = refl;
        })

    -- ---- its line and mark by the steps
    alone : Cell
    alone = alone_at r.lines n

    visited : Cell
    visited = cell_at (after_row r.rows r.columns r.lines r.row_table (n / r.columns)) n

    module _ (c : Cell) (final : cell_at (steps_on r).cells n ≡ c) where
      mark-final : get_or (repair_of r work).marks n 0 ≡ c.mark
      unfolding repair_of
      mark-final =
          repaired-mark r.rows r.columns r.lines r.row_table r.column_table work a.of_repair n a.inside
          ∙ ap (λ (d : Cell). d.mark) final

      line-final : bytes_at (repair_of r work).lines n ≡ line_of c.line
      unfolding repair_of
      line-final =
          repaired-line r.rows r.columns r.lines r.row_table r.column_table work a.of_repair n a.inside
          ∙ ap (λ (d : Cell). line_of d.line) final

      given-final : (k : ℕ) → line_with (given_by (repair_of r work) n k work) ≡ in_bytes c
      given-final k = rw (mark-final, line-final)

      not-eleven : is_faulty c ≡ false → ◌≡◌ {A = ℕ} (cond (eqb (get_or (repair_of r work).marks n 0) 4) 11 0) 11 → ⊥
      not-eleven p e = eqb-false c.mark 4 p (sym mark-final ∙ (eleven _).0 e)

    fit : sides_fit r.rows r.columns ≡ true
    fit = (Repairs.sizes r work hands).sides

    by_itself : is_faulty alone ≡ false → cell_at (steps_on r).cells n ≡ alone
    unfolding alone
    by_itself p =
        alone-final r.rows r.columns r.lines r.row_table r.column_table fit n a.inside (eqb-false _ 4 p)

    by_row_lem : is_faulty visited ≡ false → cell_at (steps_on r).cells n ≡ visited
    unfolding visited
    by_row_lem p = row-final r.rows r.columns r.lines r.row_table r.column_table fit n a.inside (eqb-false _ 4 p)

    -- a line that reads alone is as it was after the visit
    still-visited : is_faulty alone ≡ false → visited ≡ alone
    unfolding visited alone
    still-visited p =
        alone-visited r.rows r.columns r.lines r.row_table r.column_table fit n a.inside (eqb-false _ 4 p)

    step-tells : StepTells r n (read_in r n work line)
    unfolding step last_step alone visited
    step-tells = rw (runs a) (go (is_faulty alone) (is_faulty visited) refl refl)
      where
        go : (x y : Bool) → is_faulty alone ≡ x → is_faulty visited ≡ y
            → StepTells r n (given_by (repair_of r work) n (cond x (cond y 3 2) 1) work)
        go false y p q =
            record {
              steps = (omega arith, omega arith);
              one = (λ e. eqb-false _ 4 p, λ d. refl);
              alone = λ e. given-final alone (by_itself p) 1;
              by_row = never refl;
              three = (never refl, λ e. absurd (eqb-false _ 4 p (sym (ap (λ (c : Cell). c.mark) (still-visited p)) ∙ e)));
              whole = λ e. absurd (not-eleven alone (by_itself p) p e);
            }
        go true false p q =
            record {
              steps = (omega arith, omega arith);
              one = (never refl, λ d. absurd (d (eqb-true _ 4 p)));
              alone = never refl;
              by_row = λ e. given-final visited (by_row_lem q) 2;
              three = (never refl, λ e. absurd (eqb-false _ 4 q e));
              whole = λ e. absurd (not-eleven visited (by_row_lem q) q e);
            }
        go true true p q =
            record {
              steps = (omega arith, omega arith);
              one = (never refl, λ d. absurd (d (eqb-true _ 4 p)));
              alone = never refl;
              by_row = never refl;
              three = (λ e. eqb-true _ 4 q, λ e. refl);
              whole = λ e. refl;
            }

    -- ---- a line given with answer 0
    not-faulty : (read_in r n work line).answer ≡ 0 → (d : ℕ) → get_or (repair_of r work).marks n d ≡ 4 → ⊥
    unfolding repair_of
    not-faulty e d m =
        let or =
        repaired-mark-or r.rows r.columns r.lines r.row_table r.column_table work a.of_repair n a.inside in
        let z : (read_in r n work line).answer ≡ 11 = faulty.1 (or 0 ∙ sym (or d) ∙ m) in
        omega arith

    correct : (read_in r n work line).answer ≡ 0 → CorrectLine line_layer n (places (read_in r n work line).line)
    unfolding places_at
    correct e = rw (runs a) (given_correct r work hands n a.inside (not-faulty e 4))

    as-found : (read_in r n work line).answer ≡ 11 → (read_in r n work line).line ≡ line_of (places_at r.lines n)
    as-found e = rw (runs a) (faulty_as_found r work hands n a.inside (faulty.0 e))

pub one-as-repair : OneAsRepair
one-as-repair r n work line d = as-repair r n work line (done-asked r n work line d)

pub steps-tell : StepsTell
steps-tell r n work line d = step-tells r n work line (done-asked r n work line d)

pub one-refused : OneRefused
one-refused = record { answers = answers; nothing = nothing; only = only; asked = asks }
  where
    answers : (r : Rectangle) (n : ℕ) (work : Buffers) (line : List ℕ) → (read_in r n work line).answer ∈ one_answers
    answers r n work line = go (zero_or_not (refusal r n work line))
      where
        own : (m : ℕ) → (m ≡ 0) ⊎ (m ≡ 11) → m ∈ one_answers
        own m (inl e) = inl e
        own m (inr e) = in_right own_refusals (11 ∷ []) m (inl e)

        go : (refusal r n work line ≡ 0) ⊎ (refusal r n work line ≡ 0 → ⊥) → (read_in r n work line).answer ∈ one_answers
        go (inl z) = own _ (done r n work line (asked r n work line z))
        go (inr d) = rw (refused r n work line d) (in_left own_refusals (11 ∷ []) _ (own-refusal r n work line))

    nothing : (r : Rectangle) (n : ℕ) (work : Buffers) (line : List ℕ) → (Done (read_in r n work line) → ⊥)
        → read_in r n work line ≡ record { answer = (read_in r n work line).answer; step = 0; mark = 0; line = line; work = work }
    nothing r n work line not = rw (refused r n work line (λ z. not (done r n work line (asked r n work line z))))

    only : (r : Rectangle) (n : ℕ) (work : Buffers) (line : List ℕ) → hands_over (repair_of r work).answer ≡ true
        → length line ≡ line_bytes → n < count r → Done (read_in r n work line)
    only r n work line over bytes number =
        done r n work line (fits r n work line over bytes number)

    asks : (r : Rectangle) (n : ℕ) (work : Buffers) (line : List ℕ) → Done (read_in r n work line)
        → (hands_over (repair_of r work).answer ≡ true) × (length line ≡ line_bytes) × (n < count r)
    asks r n work line d =
        let a = done-asked r n work line d in
        (hands r n work line a, a.line_bytes ∙ sym bytes-is, a.inside)

pub one-safe : OneSafe
unfolding hands_over
one-safe =
    record {
      correct = λ r n work line e. correct r n work line (done-asked r n work line (inl e)) e;
      as_found = λ r n work line e. as-found r n work line (done-asked r n work line (inr e)) e;
      not_wrong = not-wrong;
      returned = returned;
    }
  where
    same_count : (written received : Rectangle) → WithinBounds written received → count received ≡ count written
    same_count written received bounds = ap₂ ◌*◌ bounds.shape.rows bounds.shape.columns

    not-wrong : (written received : Rectangle) → Written written → WithinBounds written received → (n : ℕ) (work : Buffers) (line : List ℕ)
        → (read_in received n work line).answer ≡ 0 → (read_in received n work line).line ≡ bytes_at written.lines n
    not-wrong written received w bounds n work line e =
        let a = done-asked received n work line (inl e) in
        rw (runs received n work line a)
        ((no_wrong_line written received w bounds work (room received n work line a)).as_written n
        (omega (arith, a.inside, same_count written received bounds))
        (not-faulty received n work line a e 0))

    returned : (written received : Rectangle) → Written written → DamagedSo written received → (n : ℕ) (work : Buffers) (line : List ℕ)
        → Room received work → length line ≡ line_bytes → n < count written
        → ((read_in received n work line).answer ≡ 0) × ((read_in received n work line).line ≡ bytes_at written.lines n)
    returned written received w damaged n work line roomy bytes number =
        let given = exact_return written received w damaged work roomy in
        let over : hands_over (repair_of received work).answer ≡ true = ap hands_over given.answer in
        let a : Asked received n work line =
        fits received n work line over bytes (omega (arith, number, same_count written received damaged.bounds)) in (
          whole a (done received n work line a) ((eleven_is_left received work over).none (λ z. omega (arith, z, given.answer)) n),
          rw (runs received n work line a) (ap (λ (l : List ℕ). bytes_at l n) given.lines),
        )
      where
        whole : (a : Asked received n work line) → Done (read_in received n work line)
            → (get_or (repair_of received work).marks n 0 ≡ 4 → ⊥) → (read_in received n work line).answer ≡ 0
        whole a (inl e) d = e
        whole a (inr e) d = absurd (d ((faulty received n work line a).0 e))
