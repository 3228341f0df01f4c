-- What repair hands over is a result that a report takes in, and what it refuses is none.
use mathlib.Core.Path.{◌≡◌, refl, ◌∙◌}
use mathlib.Core.Bool.{Bool, true, false, and-false}
use Prim.Native.Nat.{◌*◌, ◌≤◌}
use native.Mathlib.Nat.{add-zero, mul-le-mul}
use native.Mathlib.Omega.{arith}
use Rattle.scheme.specs.Marks.{LineMarks}
use Rattle.rectangle.specs.Repair.{Buffers, hands_over}
use Rattle.rectangle.proofs.Area.{area}
use Rattle.rectangle.proofs.Groups.{Sides, sides}
use Rattle.rectangle.proofs.Runs.{marks-handed}
use Rattle.demands.specs.Demands.{Rectangle, count, repair_of}
use Rattle.demands.proofs.Refused.{handed, sizes}
use Rattle.tour.specs.Wear.{Result}
use Rattle.tour.specs.Adding.{is_result}
use Rattle.tour.specs.Promises.{result_of, RepairGivesResult}
use Rattle.tour.proofs.Refused.{hands-over, result-is}

module _ (r : Rectangle) (work : Buffers) where
  marks-given : hands_over (repair_of r work).answer ≡ true → LineMarks (count r) (repair_of r work).marks
  marks-given h = rw (handed r work h) (marks-handed r.rows r.columns r.lines r.row_table r.column_table)

  lines-given : hands_over (repair_of r work).answer ≡ true → (4 ≤ count r) × (count r ≤ 262144)
  lines-given h =
      let fit = (sizes r work h).sides in
      let s : Sides r.rows r.columns = sides r.rows r.columns fit in
      let least : 2 * 2 ≤ r.rows * r.columns = mul-le-mul s.rows_low s.columns_low in
      (least, area r.rows r.columns fit)

  result-given : hands_over (repair_of r work).answer ≡ true → is_result (result_of (repair_of r work)) ≡ true
  result-given h =
      let marks = marks-given h in
      let lines = lines-given h in
      result-is _
      (record {
        least = omega (arith, marks.each, lines.0);
        most = omega (arith, marks.each, lines.1);
        marks = marks.high;
        answer = hands-over _ h;
      })

-- a result's answer hands over
not-result : (store : Result) → hands_over store.answer ≡ false → is_result store ≡ false
unfolding is_result
not-result store e = simp (and-false, e)

pub repair-gives-result : RepairGivesResult
repair-gives-result r work =
    record {
      result = go (hands_over (repair_of r work).answer) refl;
      lines = λ h. add-zero _ ∙ (marks-given r work h).each;
    }
  where
    go : (b : Bool) → hands_over (repair_of r work).answer ≡ b → is_result (result_of (repair_of r work)) ≡ b
    go true h = result-given r work h
    go false h = not-result (result_of (repair_of r work)) h
