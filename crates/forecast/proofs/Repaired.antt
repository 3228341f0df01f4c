-- What the forecast tells of repair: it bounds what repair leaves faulty, and where no trial took it is repair.
use mathlib.Core.Path.{◌≡◌, refl, sym, ap, ap₂, ◌∙◌}
use mathlib.Core.Logic.{◌⊎◌, ◌↔◌, inl, inr}
use mathlib.Core.Bool.{true, false, not}
use mathlib.Core.List.{List, [], ◌∷◌, ◌++◌, map, map-map, map-append}
use Prim.Native.Nat.{ℕ, zero, suc, ◌≤◌, ◌<◌}
use native.Mathlib.Decide.{dec_lt}
use native.Mathlib.Omega.{arith}
use borrow.Author.Tests.{eqb-false, ne_eqb, not-true}
use lib.Dec.{eqb}
use lib.ListN.{length, get_or, length-map, get_or-map, get_or-eq_default}
use lib.Seq.{ext_get_or}
use Rattle.linecode.specs.Code.{up_from}
use Rattle.scheme.specs.Layer.{Cell, read_line}
use Rattle.scheme.specs.Visit.{Group, State, cell_at}
use Rattle.scheme.specs.Repair.{read_all, marks_of, repair}
use Rattle.scheme.specs.Parity.{unusable, as_read}
use Rattle.scheme.specs.Demand3.{◌∈◌}
use Rattle.scheme.specs.Forecast.{flagged, foreseen, SameLines, FaultyWithin, Bounds, NoneByTrial, as_forecast, SameMarks, Exact}
use Rattle.scheme.proofs.Stays.{read_all-length}
use Rattle.scheme.proofs.Marking.{mark-at}
use Rattle.scheme.proofs.Used.{usable}
use Rattle.scheme.proofs.Within.{forecast-bounds}
use Rattle.scheme.proofs.Untried.{forecast-exact}
use Rattle.rectangle.specs.Store.{line_layer, places_at, lines_in, alone_at, row, column, groups}
use Rattle.rectangle.specs.Refusals.{accepted_at}
use Rattle.rectangle.specs.Repair.{Buffers, used_groups, repaired_by, hands_over, handed_over}
use Rattle.rectangle.proofs.LineLayer.{kept}
use Rattle.rectangle.proofs.Alone.{first-at}
use Rattle.rectangle.proofs.Buffer.{length-lines_in}
use Rattle.demands.specs.Demands.{Rectangle, count, repair_of, groups_of, steps_on}
use Rattle.demands.proofs.Refused.{handed, sizes}
use Rattle.forecast.specs.Forecast.{bare_groups, foreseen_in}
use Rattle.forecast.specs.Promises.{NamesFaulty, forecast_for, RepairWithinForecast, FaultySo, ForecastIsRepair, untried_on, ForecastIsUntried}
use Rattle.forecast.proofs.Answers.{given, fitting}
use Rattle.forecast.proofs.Gives.{byte-faulty, byte_at, within-marks}

-- ---- the same lines
-- usable groups keep their lines as they are read
read-members : (gs : List Group) → ((g : Group) → g ∈ gs → unusable line_layer g ≡ false) → SameLines (map (as_read line_layer) gs) gs
read-members [] h = refl
read-members (g ∷ gs) h =
    ap₂ (λ (l : List ℕ) (ls : List (List ℕ)). l ∷ ls) (ap (λ (g : Group). g.members) (usable line_layer g (h g (inl refl))))
    (read-members gs (λ f i. h f (inr i)))

-- the lines of all groups, whatever the tables are
members : (rows columns : ℕ) (row_table column_table : List ℕ)
    → map (λ (g : Group). g.members) (groups rows columns row_table column_table)
    ≡ map (row columns) (up_from 0 rows) ++ map (column rows columns) (up_from 0 columns)
unfolding groups
members rows columns row_table column_table = simp (map-append, map-map)

-- ---- the same marks
-- an accepted reading's mark is 0, 1 read as 0
low-mark : (mark : ℕ) → mark ≤ 1 → as_forecast mark ≡ 0
low-mark zero low = refl
low-mark (suc zero) low = refl
low-mark (suc (suc m)) low = let z : ⊥ = omega arith in absurd z

-- a byte that is 0 exactly for an accepted reading stands for that reading's mark
byte-mark : (byte mark : ℕ) → (byte ≡ 0) ↔ (not (eqb mark 4) ≡ true) → (mark ≤ 1) ⊎ (mark ≡ 4) → as_forecast mark ≡ (flagged byte).mark
byte-mark byte mark so (inl low) =
    low-mark mark low ∙ ap (λ b. (flagged b).mark) (sym (so.1 (ap not (ne_eqb mark 4 (λ e. omega arith)))))
byte-mark byte mark so (inr four) =
    ap as_forecast four ∙ sym ((byte-faulty byte).1 (λ z. eqb-false mark 4 (not-true _ (so.0 z)) four))

module _ (r : Rectangle) where
  -- the first reading of all lines
  unfoldable first : State
  first = read_all (read_line line_layer) 0 (lines_in (count r) r.lines)

  first-length : length first ≡ count r
  unfolding first
  first-length = read_all-length _ 0 (lines_in (count r) r.lines) ∙ length-lines_in (count r) r.lines

  first_alone : (n : ℕ) → n < count r → cell_at first n ≡ alone_at r.lines n
  unfolding first
  first_alone = first-at (count r) r.lines

  module _ (pattern : List ℕ) (so : NamesFaulty r pattern) where
    same_lines : SameLines (groups_of r) (bare_groups r.rows r.columns)
    unfolding used_groups bare_groups
    same_lines =
        read-members (groups r.rows r.columns r.row_table r.column_table) so.usable
        ∙ members r.rows r.columns r.row_table r.column_table ∙ sym (members r.rows r.columns [] [])

    -- a faulty line is named: past the last none is
    named-faulty : FaultyWithin first (map flagged pattern)
    unfolding accepted_at
    named-faulty n e =
        ap (λ (c : Cell). c.mark) (get_or-map flagged pattern n 0)
        ∙ (byte-faulty (get_or pattern n 0)).1
        (λ z. eqb-false _ 4 (not-true _ (so.named n inside z)) (ap (λ (c : Cell). c.mark) (sym (first_alone n inside)) ∙ e))
      where
        inside : n < count r
        inside = go (dec_lt n (length first))
          where
            go : Dec (n < length first) → n < count r
            go (yes h) = omega (arith, first-length)
            go (no d) =
                let past : length first ≤ n = omega arith in
                let z : ⊥ = omega (arith, e, ap (λ (c : Cell). c.mark) (get_or-eq_default first (record { line = []; mark = 0 }) {n = n} past)) in
                absurd z

    bounded : Bounds (steps_on r).cells (foreseen_in r.rows r.columns pattern).cells
    unfolding repaired_by repair foreseen_in foreseen first
    bounded = forecast-bounds (read_line line_layer) _ _ same_lines first (map flagged pattern) named-faulty

  module _ (pattern : List ℕ) (so : FaultySo r pattern) where
    same-mark : (n : ℕ) → n < count r → as_forecast (cell_at first n).mark ≡ (flagged (get_or pattern n 0)).mark
    unfolding alone_at accepted_at
    same-mark n h =
        ap (λ (c : Cell). as_forecast c.mark) (first_alone n h)
        ∙ byte-mark (get_or pattern n 0) _ (so.names.named n h, so.no_other n h) (kept.marks n (places_at r.lines n))

    same-marks : SameMarks first (map flagged pattern)
    same-marks =
        ext_get_or 0 _ _ lengths
        (λ n h.
        get_or-map as_forecast (marks_of first) n 0 ∙ ap as_forecast (mark-at first n)
        ∙ same-mark n (omega (arith, first-lengths)) ∙ sym (byte_at pattern n))
      where
        first-lengths : length (map as_forecast (marks_of first)) ≡ count r
        first-lengths = length-map (marks_of first) as_forecast ∙ length-map first (λ (c : Cell). c.mark) ∙ first-length

        lengths : length (map as_forecast (marks_of first)) ≡ length (marks_of (map flagged pattern))
        lengths =
            first-lengths ∙ sym so.names.each ∙ sym (length-map pattern flagged)
            ∙ sym (length-map (map flagged pattern) (λ (c : Cell). c.mark))

    exact : NoneByTrial (steps_on r).cells → Exact (steps_on r) (foreseen_in r.rows r.columns pattern)
    unfolding repaired_by repair foreseen_in foreseen first
    exact = forecast-exact.by_passes (read_line line_layer) _ _ (same_lines pattern so.names) first (map flagged pattern) same-marks

    untried : Exact (untried_on r) (foreseen_in r.rows r.columns pattern)
    unfolding untried_on foreseen_in foreseen first
    untried = forecast-exact.untried _ _ (same_lines pattern so.names) first (map flagged pattern) same-marks

-- and no forecast for such a rectangle is refused
answered : (r : Rectangle) (b : Buffers) (pattern marks : List ℕ) → NamesFaulty r pattern → length marks ≡ count r
    → hands_over (repair_of r b).answer ≡ true → (forecast_for r pattern marks).answer ≡ 0
answered r b pattern marks so e over = fitting r.rows r.columns pattern marks (sizes r b over).sides so.each e

pub repair-within-forecast : RepairWithinForecast
unfolding handed_over
repair-within-forecast r b pattern marks so e over =
    rw (handed r b over, given r.rows r.columns pattern marks (answered r b pattern marks so e over))
    (within-marks _ _ (bounded r pattern so))

pub forecast-is-repair : ForecastIsRepair
unfolding handed_over
forecast-is-repair r b pattern marks so e over untried =
    let same = exact r pattern so
    (λ n two. untried n (ap (λ repaired. get_or repaired.marks n 0) (handed r b over) ∙ mark-at (steps_on r).cells n ∙ two)) in
    rw (handed r b over, given r.rows r.columns pattern marks (answered r b pattern marks so.names e over))
    (record { marks = same.marks; passes = same.passes })

pub forecast-is-untried : ForecastIsUntried
forecast-is-untried r pattern marks so e =
    let same = untried r pattern so in
    rw (given r.rows r.columns pattern marks e) (record { marks = same.marks; passes = same.passes })
