-- `lookup::by_row` meets its contract.
use native.Mathlib.Omega.{arith}
use mathlib.Core.Path.{ap, ◌∙◌}
use mathlib.Core.List.{List}
use Prim.Native.Nat.{ℕ}
use lib.ListN.{get_or}
use Rattle.rectangle.specs.Store.{bytes_at}
use Rattle.groups.specs.Lent.{number_of}
use Rattle.lookup.proofs.Row.{row_listed, row-chosen, row-unusable, group-used, given_unvisited, given-visited}
use Rattle.lookup.proofs.by_row.Goals as goal
use Rattle.lookup.proofs.by_row.Goals.{then-parity-ne4, else-parity-ne4}

pub choose-requires : goal.choose-requires
choose-requires c =
    omega (arith, c.row_of-row.ensures, row_listed _ _ _ _ _ _ _ c.requires)

pub returns : goal.returns
returns c =
    let lines = row-chosen _ _ _ _ _ _ _ c.requires _ _ _ _ c.choose.ensures.1 (ap (number_of _) c.choose.ensures.0 ∙ c.row_of-row.ensures) in
    let found = c.row_parity.ensures ∙ ap (bytes_at _) c.row_of-row.ensures in
    let same = c.read_group.auto.marks ∙ c.requires.mark_bytes in
    elim c.if-parity-ne4.branch [
      | then-parity-ne4 w ↦
          ap (λ (m : List ℕ). record { line = c.line_at.result; mark = get_or m c.args.n 0 }) w.marks-is
          ∙ given-visited _ _ _ _ _ _ _ c.requires _ _ _ _ _ lines c.choose.ensures.1.numbered.inside same c.read_group.ensures _ _ _
          (group-used _ _ _ _ _ _ _ c.requires _ found c.read_line-parity.result c.read_line-parity.ensures c.choose.result.span.first c.choose.result.span.step c.choose.result.span.count lines w.if-parity-ne4.true) (w.visit_group.auto.marks ∙ same) w.visit_group.ensures _
          (c.line_at.ensures ∙ ap (λ (b : List ℕ). bytes_at b c.args.n) w.out-is)
      | else-parity-ne4 w ↦
          ap (λ (m : List ℕ). record { line = c.line_at.result; mark = get_or m c.args.n 0 }) w.marks-is
          ∙ given_unvisited _ _ _ _ _ _ _ c.requires _ _ _ _ _ lines c.choose.ensures.1.numbered.inside same c.read_group.ensures
          (row-unusable _ _ _ _ _ _ _ c.requires _ found c.read_line-parity.result c.read_line-parity.ensures w.if-parity-ne4.false) _
          (c.line_at.ensures ∙ ap (λ (b : List ℕ). bytes_at b c.args.n) w.out-is)
    ]
