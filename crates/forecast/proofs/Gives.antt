-- What a forecast gives: its marks and passes, its end, and that only zeros count and more faults leave more.
use mathlib.Core.Path.{◌≡◌, refl, sym, ap, ◌∙◌}
use mathlib.Core.Logic.{◌⊎◌, ◌↔◌, inl, inr}
use mathlib.Core.Bool.{Bool, true, false, not, cond, true≢false}
use mathlib.Core.List.{List, [], map}
use Prim.Native.Nat.{ℕ, zero, suc, ◌<◌}
use native.Mathlib.Omega.{arith}
use borrow.Author.Tests.{eqb-true, ne_eqb}
use lib.Dec.{eqb}
use lib.ListN.{length, get_or, length-map, get_or-map}
use lib.Seq.{ext_get_or}
use Rattle.scheme.specs.Layer.{Cell}
use Rattle.scheme.specs.Visit.{Group, State, cell_at, is_faulty, faulty_of}
use Rattle.scheme.specs.Repair.{faulty_count, passes_from, marks_of}
use Rattle.scheme.specs.Demand3.{◌∈◌}
use Rattle.scheme.specs.Forecast as Scheme
use Rattle.scheme.specs.Forecast.{never, flagged, foreseen, FaultyWithin, Bounds, Ends}
use Rattle.scheme.proofs.Lists.{select-ext, count_map}
use Rattle.scheme.proofs.Grows.{grows-length}
use Rattle.scheme.proofs.Passes.{passes-grow, passes_none, passes-bound}
use Rattle.scheme.proofs.Every.{every-passes}
use Rattle.scheme.proofs.Marking.{mark-at}
use Rattle.scheme.proofs.Within.{forecast-bounds, forecast-ends}
use Rattle.rectangle.specs.Store.{row, column, row_group, column_group}
use Rattle.rectangle.proofs.Groups.{sides, row_listed, column-listed, by-groups}
use Rattle.forecast.specs.Forecast.{bare_groups, foreseen_in, one_for_each, forecast_refusal, forecast}
use Rattle.forecast.specs.Promises.{faulty_bytes, ForecastGives, OnlyZerosCount, faulty_marks, WithinMarks, MoreFaultsLeaveMore, faulty_in, StoppingSet, ForecastLeavesLargest}
use Rattle.forecast.proofs.Answers.{given, fits}

-- ---- a byte and its line, and a store's marks
-- a line is faulty exactly if its byte is not 0
pub byte-faulty : (byte : ℕ) → ((flagged byte).mark ≡ 4) ↔ (byte ≡ 0 → ⊥)
byte-faulty zero = (λ e z. omega arith, λ d. absurd (d refl))
byte-faulty (suc b) = (λ e z. omega arith, λ d. rw (ne_eqb (suc b) 0 d))

pub byte_at : (pattern : List ℕ) (n : ℕ) → get_or (marks_of (map flagged pattern)) n 0 ≡ (flagged (get_or pattern n 0)).mark
byte_at pattern n = mark-at (map flagged pattern) n ∙ ap (λ (c : Cell). c.mark) (get_or-map flagged pattern n 0)

-- the marks 4 are the faulty lines, and the bytes other than 0 too
marks-count : (s : State) → faulty_marks (marks_of s) ≡ faulty_count s
unfolding faulty_marks
marks-count s = count_map (λ c. c.mark) (λ mark. eqb mark 4) s

bytes_count : (pattern : List ℕ) → faulty_count (map flagged pattern) ≡ faulty_bytes pattern
unfolding faulty_bytes
bytes_count pattern =
    count_map flagged is_faulty pattern ∙ ap length (select-ext _ _ pattern (λ byte i. same (eqb byte 0)))
  where
    same : (b : Bool) → eqb (cond b 0 4) 4 ≡ not b
    same true = refl
    same false = refl

-- ---- each line's mark
-- a byte and the mark that its line is given: 0 and 0, or any other and 3 or 4
data Told (byte mark : ℕ) : Type 0 where
  kept : byte ≡ 0 → mark ≡ 0 → Told byte mark
  other : (byte ≡ 0 → ⊥) → (mark ≡ 3) ⊎ (mark ≡ 4) → Told byte mark

told-whole : {byte mark : ℕ} → Told byte mark → (mark ≡ 0) ↔ (byte ≡ 0)
told-whole (kept b m) = (λ e. b, λ e. m)
told-whole (other d (inl m)) = (λ e. omega arith, λ e. absurd (d e))
told-whole (other d (inr m)) = (λ e. omega arith, λ e. absurd (d e))

told-other : {byte mark : ℕ} → Told byte mark → (byte ≡ 0 → ⊥) → (mark ≡ 3) ⊎ (mark ≡ 4)
told-other (kept b m) d = absurd (d b)
told-other (other d m) e = m

-- so they are before the passes, and so they stay where a faulty line is rebuilt
told-first : (byte : ℕ) → Told byte (flagged byte).mark
told-first zero = kept refl refl
told-first (suc b) = let d : suc b ≡ 0 → ⊥ = λ e. omega arith in other d (inr ((byte-faulty (suc b)).1 d))

told-rebuilt : {byte mark : ℕ} → mark ≡ 4 → Told byte mark → Told byte 3
told-rebuilt e (kept b m) = let z : ⊥ = omega arith in absurd z
told-rebuilt e (other d m) = other d (inl refl)

told : (gs : List Group) (pattern : List ℕ) (n : ℕ) → Told (get_or pattern n 0) (cell_at (foreseen gs pattern).cells n).mark
unfolding foreseen
told gs pattern =
    every-passes (λ n c. Told (get_or pattern n 0) c.mark) never (λ n p c faulty h accepted. absurd (true≢false accepted)) gs
    (λ g i s every n listed faulty rest. told-rebuilt (eqb-true _ 4 faulty) (every n)) (map flagged pattern)
    (λ n. rw (get_or-map flagged pattern n 0) (told-first (get_or pattern n 0)))

pub forecast-gives : ForecastGives
unfolding foreseen_in foreseen
forecast-gives rows columns pattern marks e =
    rw (given rows columns pattern marks e)
    (record {
      each = length-map left (λ (c : Cell). c.mark) ∙ grows-length (passes-grow never gs first) ∙ length-map pattern flagged
          ∙ (fits rows columns pattern marks e).1;
      whole = λ n. rw (mark-at left n) (told-whole (told gs pattern n));
      others = λ n. rw (mark-at left n) (told-other (told gs pattern n));
      none = rw (← bytes_count pattern) (passes_none never gs first);
      most = rw (← bytes_count pattern) (passes-bound never gs first);
    })
  where
    gs : List Group
    gs = bare_groups rows columns

    first : State
    first = map flagged pattern

    left : State
    left = (passes_from never gs first).cells

-- ---- only zeros count
flagged-same : (one two : ℕ) → (one ≡ 0) ↔ (two ≡ 0) → flagged one ≡ flagged two
flagged-same zero two so = rw (so.0 refl)
flagged-same (suc b) zero so = let z : ⊥ = omega (arith, so.1 refl) in absurd z
flagged-same (suc b) (suc c) so = rw (ne_eqb (suc b) 0 (λ e. omega arith), ne_eqb (suc c) 0 (λ e. omega arith))

pub only-zeros-count : OnlyZerosCount
unfolding forecast forecast_refusal one_for_each foreseen_in foreseen
only-zeros-count rows columns one two marks e so = rw (e, same)
  where
    same : map flagged one ≡ map flagged two
    same =
        ext_get_or (flagged 0) _ _ (length-map one flagged ∙ e ∙ sym (length-map two flagged))
        (λ n h. get_or-map flagged one n 0 ∙ flagged-same _ _ (so n) ∙ sym (get_or-map flagged two n 0))

-- ---- its end
-- a store with given marks, and that its groups hold as many faulty lines as the marks say
marked : List ℕ → State
marked marks = map (λ mark. record { line = []; mark = mark }) marks

marked-at : (marks : List ℕ) (n : ℕ) → (cell_at (marked marks) n).mark ≡ get_or marks n 0
unfolding marked
marked-at marks n = ap (λ (c : Cell). c.mark) (get_or-map (λ mark. record { line = []; mark = mark }) marks n 0)

faulty-in : (marks : List ℕ) (s : State) → ((n : ℕ) → (cell_at s n).mark ≡ get_or marks n 0) → (ms : List ℕ)
    → length (faulty_of s ms) ≡ faulty_in marks ms
faulty-in marks s same ms = ap length (select-ext _ _ ms (λ n j. ap (λ mark. eqb mark 4) (same n)))

pub forecast-leaves-largest : ForecastLeavesLargest
unfolding foreseen_in foreseen bare_groups
forecast-leaves-largest rows columns pattern marks e =
    rw (given rows columns pattern marks e)
    (record {
      stopping =
          record {
            each_row = λ k h. alone (row_group columns [] k) (row_listed rows columns some [] [] k h);
            each_column = λ k h. alone (column_group rows columns [] k) (column-listed rows columns some [] [] k h);
          };
      largest = λ part stopping within n f.
          mark-at left n
          ∙ ends.largest (marked part) (groups-stop part stopping) (parts_within part within) n (marked-at part n ∙ f);
    })
  where
    left : State
    left = (foreseen_in rows columns pattern).cells

    some : 0 < columns
    some = omega (arith, (sides rows columns (fits rows columns pattern marks e).0).columns_low)

    ends : Ends (bare_groups rows columns) (map flagged pattern) left
    ends = forecast-ends (bare_groups rows columns) (map flagged pattern)

    alone : (g : Group) → g ∈ bare_groups rows columns → faulty_in (marks_of left) g.members ≡ 1 → ⊥
    alone g i one = ends.stopping g i (faulty-in (marks_of left) left (λ n. sym (mark-at left n)) g.members ∙ one)

    groups-stop : (part : List ℕ) → StoppingSet rows columns part → Scheme.StoppingSet (bare_groups rows columns) (marked part)
    groups-stop part stopping =
        by-groups rows columns some [] [] (λ g. length (faulty_of (marked part) g.members) ≡ 1 → ⊥)
        (λ k h one. stopping.each_row k h (sym (faulty-in part (marked part) (marked-at part) (row columns k)) ∙ one))
        (λ k h one. stopping.each_column k h (sym (faulty-in part (marked part) (marked-at part) (column rows columns k)) ∙ one))

    parts_within : (part : List ℕ) → ((n : ℕ) → get_or part n 0 ≡ 4 → get_or pattern n 0 ≡ 0 → ⊥) → FaultyWithin (marked part) (map flagged pattern)
    parts_within part within n f =
        ap (λ (c : Cell). c.mark) (get_or-map flagged pattern n 0)
        ∙ (byte-faulty (get_or pattern n 0)).1 (within n (sym (marked-at part n) ∙ f))

-- ---- more faults
-- the scheme's bound, of the marks
pub within-marks : (s t : State) → Bounds s t → WithinMarks (marks_of s) (marks_of t)
within-marks s t bounds =
    record {
      only = λ n e. mark-at t n ∙ bounds.only n (sym (mark-at s n) ∙ e);
      no_more = rw (marks-count s, marks-count t) bounds.no_more;
    }

-- a pattern that names more lines, as a store
faults-within : (fewer more : List ℕ) → ((n : ℕ) → get_or more n 0 ≡ 0 → get_or fewer n 0 ≡ 0)
    → FaultyWithin (map flagged fewer) (map flagged more)
faults-within fewer more whole n =
    rw (get_or-map flagged fewer n 0, get_or-map flagged more n 0)
    (λ e. (byte-faulty (get_or more n 0)).1 (λ z. (byte-faulty (get_or fewer n 0)).0 e (whole n z)))

pub more-faults-leave-more : MoreFaultsLeaveMore
unfolding foreseen_in foreseen
more-faults-leave-more rows columns fewer more marks marks' e f whole =
    rw (given rows columns fewer marks e, given rows columns more marks' f)
    (within-marks _ _
    (forecast-bounds never (bare_groups rows columns) _ refl (map flagged fewer) (map flagged more) (faults-within fewer more whole)))
