-- Request Q-1: the marks tell what they say, and bytes, passes and answers are as before.
use mathlib.Core.Path.{◌≡◌, refl, sym, ap, ap₂, ◌∙◌, subst}
use mathlib.Core.Logic.{◌⊎◌, inl, inr}
use mathlib.Core.Bool.{true, not}
use mathlib.Core.List.{List, [], ◌∷◌, ◌++◌}
use Prim.Native.Nat.{ℕ, ◌<◌}
use borrow.Author.Tests.{ne_eqb, eqb-false, not-true}
use lib.ListN.{length, get_or, length-map}
use Rattle.gf2.specs.Word.{Word}
use Rattle.linecode.specs.Places.{line_of}
use Rattle.scheme.specs.Layer.{Cell, read_line}
use Rattle.scheme.specs.Visit.{Group, State, cell_at}
use Rattle.scheme.specs.Repair.{Repaired, lines_of, marks_of}
use Rattle.scheme.specs.Parity.{parity_after}
use Rattle.scheme.specs.Marks as Scheme
use Rattle.scheme.specs.Readings.{SameRepair}
use Rattle.scheme.proofs.Marking.{mark-at, repair-marks-tell}
use Rattle.scheme.proofs.Readings.{same-faulty, accepted_marks_decide_nothing}
use Rattle.rectangle.specs.Store.{line_layer, places_at, lines_in, buffer_of, alone_at, groups}
use Rattle.rectangle.specs.Before.{layer_before}
use Rattle.rectangle.specs.Refusals.{accepted_at}
use Rattle.rectangle.specs.Repair.{Buffers, used_groups, repaired_by, table_after, hands_over, handed_over}
use Rattle.rectangle.proofs.Buffer.{length-places_at, lines_in-at}
use Rattle.rectangle.proofs.LineLayer.{kept, marks-tell, as_before}
use Rattle.rectangle.proofs.Runs.{zero_or_not, repair-runs, repair-refused}
use Rattle.demands.specs.Demands.{Rectangle, count, repair_of, groups_of}
use Rattle.demands.specs.Marks.{MarkTells, MarksTellDamage, LinesReadAsBefore, repair_before, SameButMarks, RepairedAsBefore}
use Rattle.demands.proofs.Refused.{refusal, runs, refused, handed}
use Rattle.demands.proofs.Handed.{found, end, within, within_end, mark-handed, line-bytes, places-given}

-- ---- what the marks tell
module _ (r : Rectangle) (b : Buffers) (over : hands_over (repair_of r b).answer ≡ true) (n : ℕ) (h : n < count r) where
  w : Word
  w = places_at r.lines n

  cell : Cell
  cell = cell_at (end r) n

  tells : Scheme.MarkTells line_layer (line_layer.address n) w cell
  unfolding cell end found repaired_by w
  tells =
      subst (λ (x : Word). Scheme.MarkTells line_layer (line_layer.address n) x cell) here
      (repair-marks-tell line_layer kept marks-tell (groups_of r) (found r) n (within r n h)
      (ap length here ∙ length-places_at (count r) r.lines (line-bytes kept r b over) n h))
    where
      here : get_or (found r) n [] ≡ w
      here = lines_in-at (count r) r.lines n h

  -- accepted by its mark, and by the test
  accepted-test : ((read_line line_layer n w).mark ≡ 4 → ⊥) → accepted_at r.lines n ≡ true
  unfolding accepted_at alone_at w
  accepted-test d = ap not (ne_eqb _ 4 d)

  accepted-mark : accepted_at r.lines n ≡ true → (read_line line_layer n w).mark ≡ 4 → ⊥
  unfolding accepted_at alone_at w
  accepted-mark a = eqb-false _ 4 (not-true _ a)

  mark-is : get_or (repair_of r b).marks n 4 ≡ cell.mark
  unfolding cell end handed_over
  mark-is = rw (handed r b over) (mark-handed (end r) n (within_end r n h) 4)

  line-is : places_at (repair_of r b).lines n ≡ cell.line
  unfolding cell
  line-is = places-given kept r b over n h

  mark-tells : MarkTells r (repair_of r b) n
  unfolding w
  mark-tells =
      record {
        clean = rw mark-is tells.clean;
        rewritten = rw mark-is (
          λ e.
              let p = tells.rewritten.0 e in
              let a = accepted-test p.0 in
              (a, rw line-is p.1),
          λ q. tells.rewritten.1 (accepted-mark q.0, rw line-is at q.1),
        );
      }

pub marks_tell_damage : MarksTellDamage
marks_tell_damage = mark-tells

-- ---- as before
pub lines_read_as_before : LinesReadAsBefore
unfolding alone_at
lines_read_as_before lines n =
    let same = as_before (line_layer.address n) (places_at lines n) in (same.line, same-faulty same)

-- what the steps hand over, by two readings that agree
same-table : (gs : List Group) (s t : State) → ((g : Group) → parity_after layer_before s g ≡ parity_after line_layer t g)
    → table_after layer_before s gs ≡ table_after line_layer t gs
unfolding table_after
same-table [] s t same = refl
same-table (g ∷ gs) s t same = ap₂ (λ (w : Word) (rest : List ℕ). line_of w ++ rest) (same g) (same-table gs s t same)

module _ (r : Rectangle) where
  same-handed : (one two : Repaired)
      → SameRepair layer_before line_layer (groups r.rows r.columns r.row_table r.column_table) one two
      → SameButMarks (handed_over layer_before r.rows r.columns r.row_table r.column_table one)
      (handed_over line_layer r.rows r.columns r.row_table r.column_table two)
  unfolding handed_over used_groups
  same-handed one two same =
      record {
        answer = same.answers;
        passes = same.passes;
        lines = ap buffer_of same.lines;
        row_table = same-table _ _ _ same.parities;
        column_table = same-table _ _ _ same.parities;
        count = counted one.cells ∙ ap length same.lines ∙ sym (counted two.cells);
        marks = λ n. rw (mark-at one.cells n, mark-at two.cells n) (same.marks n).mark;
      }
    where
      counted : (s : State) → length (marks_of s) ≡ length (lines_of s)
      counted s = length-map s (λ (c : Cell). c.mark) ∙ sym (length-map s (λ (c : Cell). c.line))

  before-as-now : (b : Buffers) → SameButMarks (repair_before r b) (repair_of r b)
  unfolding repair_before refusal repaired_by used_groups
  before-as-now b = go (zero_or_not (refusal r b))
    where
      go : (refusal r b ≡ 0) ⊎ (refusal r b ≡ 0 → ⊥) → SameButMarks (repair_before r b) (repair_of r b)
      go (inl z) =
          rw (
            repair-runs r.rows r.columns r.lines r.row_table r.column_table layer_before b.lines b.marks b.row_table
                b.column_table _ z refl,
            runs r b z,
          )
          (same-handed _ _
          (accepted_marks_decide_nothing layer_before line_layer (record { address = refl; read = as_before })
          (groups r.rows r.columns r.row_table r.column_table) (lines_in (count r) r.lines)))
      go (inr d) =
          rw (
            repair-refused r.rows r.columns r.lines r.row_table r.column_table layer_before b.lines b.marks
                b.row_table b.column_table _ refl d,
            refused r b d,
          )
          (record {
            answer = refl;
            passes = refl;
            lines = refl;
            row_table = refl;
            column_table = refl;
            count = refl;
            marks = λ n. inl refl;
          })

pub repaired_as_before : RepairedAsBefore
repaired_as_before = before-as-now
