-- `repair::passes::visit_all` meets its contract: after k turns the first k groups are visited.
use mathlib.Core.Path.{◌≡◌, sym, ap, ap₂, subst, ◌∙◌}
use mathlib.Core.Bool.{not, ◌&&◌}
use mathlib.Core.List.{List, ◌++◌}
use Prim.Native.Nat.{ℕ, ◌+◌, ◌<◌}
use lib.Dec.{eqb}
use lib.ListN.{length, get_or}
use Rattle.groups.specs.Lent.{number_of, Within}
use Rattle.groups.proofs.Numbers.{which-number, which-within}
use Rattle.groups.proofs.Joined.{joined_length}
use Rattle.groups.proofs.Rooms.{same-room}
use Rattle.repair.proofs.Passing.{passing-some, passing-next, passing-idle, passing-end, repass, due, not-due}
use native.Mathlib.Omega.{arith}
use Rattle.repair.proofs.passes.visit_all.Goals as goal
use Rattle.repair.proofs.passes.visit_all.Goals.{then-needs_visit, else-needs_visit}

pub needs_visit-requires : goal.needs_visit-requires
needs_visit-requires c =
    let number : number_of c.args.sides.rows c.nth-which.result ≡ c.loop-k.k =
    ap (number_of c.args.sides.rows) c.nth-which.ensures ∙ which-number _ _ in
    let few : number_of c.args.sides.rows c.nth-which.result < 1024 =
    let small : c.loop-k.k < 1024 = omega (arith, c.loop-k-test.true, c.requires.ready.room.rect.rows_high, c.requires.ready.room.rect.columns_high) in
    subst (λ (k : ℕ). k < 1024) (sym number) small in (few, c.loop-k.invariant.0.room.counts, c.requires.marks)

pub choose-chosen-requires : goal.choose-chosen-requires
choose-chosen-requires c =
    let within = which-within c.args.sides.rows c.loop-k.k c.args.sides.columns (omega (arith, c.loop-k-test.true)) in
    subst (Within c.args.sides.rows c.args.sides.columns) (sym c.nth-which.ensures) within

pub visit_group-requires : goal.visit_group-requires
visit_group-requires c =
    record {
      ready = record {
        room = c.loop-k.invariant.0.room;
        held = passing-some _ _ _ _ _ _ _ _ _ _ _ _ c.loop-k.invariant.0 c.requires.ready.held;
        row_bytes = c.loop-k.invariant.1;
        column_bytes = c.loop-k.invariant.2;
      };
      group = c.choose-chosen.ensures.1;
    }

pub loop-k-preserved : goal.loop-k-preserved
loop-k-preserved c =
    let number : number_of c.args.sides.rows c.nth-which.result ≡ c.loop-k.k =
    ap (number_of c.args.sides.rows) c.nth-which.ensures ∙ which-number _ _ in
    let inside : c.loop-k.k < c.args.sides.rows + c.args.sides.columns = omega (arith, c.loop-k-test.true) in
    let same = ap (λ (k : ℕ). not (eqb (get_or c.loop-k.faulty k 0) 0) && not (eqb (get_or c.args.parity_marks.now k 0) 4)) number in
    elim c.if-needs_visit.branch [
      | then-needs_visit w ↦
          let kept = w.visit_group.auto in
          let last = w.visit_group.new in (
            repass _ _ _ _ _ _ _ _ _ _ _ _ _ _ _ _ w.out-is w.marks-is (ap₂ (λ (x y : List ℕ). x ++ y) w.row_lacks-is w.column_lacks-is) w.faulty-is
                (passing-next _ _ _ _ _ _ _ _ _ _ _ c.loop-k.k c.loop-k.invariant.0 _ _ _ _ _ inside
                (ap (number_of c.args.sides.rows) w.choose-chosen.ensures.0 ∙ number)
                (due (get_or c.loop-k.faulty c.loop-k.k 0) (get_or c.args.parity_marks.now c.loop-k.k 0) (sym same ∙ sym c.needs_visit.ensures ∙ w.if-needs_visit.true))
                (same-room _ _ _ _ _ _ _ _ _ _ c.loop-k.invariant.0.room kept.out kept.marks (joined_length c.loop-k.row_lacks c.loop-k.column_lacks last.row_lacks last.column_lacks kept.row_lacks kept.column_lacks) kept.faulty)
                w.visit_group.ensures),
            ap length w.row_lacks-is ∙ kept.row_lacks ∙ c.loop-k.invariant.1,
            ap length w.column_lacks-is ∙ kept.column_lacks ∙ c.loop-k.invariant.2,
          )
      | else-needs_visit w ↦ (
        repass _ _ _ _ _ _ _ _ _ _ _ _ _ _ _ _ w.out-is w.marks-is (ap₂ (λ (x y : List ℕ). x ++ y) w.row_lacks-is w.column_lacks-is) w.faulty-is
            (passing-idle _ _ _ _ _ _ _ _ _ _ _ c.loop-k.k c.loop-k.invariant.0 inside
            (not-due (get_or c.loop-k.faulty c.loop-k.k 0) (get_or c.args.parity_marks.now c.loop-k.k 0) (sym same ∙ sym c.needs_visit.ensures ∙ w.if-needs_visit.false))),
        ap length w.row_lacks-is ∙ c.loop-k.invariant.1,
        ap length w.column_lacks-is ∙ c.loop-k.invariant.2,
      )
    ]

pub returns : goal.returns
returns c = passing-end _ _ _ _ _ _ _ _ _ _ _ _ c.loop-k.invariant.0 (c.loop-k-test.false)
