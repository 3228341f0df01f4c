-- `lookup::find` meets its contract: each way out is the last step.
use native.Mathlib.Omega.{arith}
use mathlib.Core.Path.{◌∙◌}
use Rattle.rectangle.proofs.LineLayer.{read_at}
use Rattle.lookup.proofs.Refusing.{same-refusal, wanted}
use Rattle.lookup.proofs.Steps.{found-alone, found-by-row, both-failed}
use Rattle.lookup.proofs.find.Goals as goal

pub line_at-requires : goal.line_at-requires
line_at-requires c =
    let w = wanted _ _ _ _ _ _ _ _ _ c.requires.fits _ c.requires.inside in
    omega (arith, w.line_bytes, w.inside)

pub returns-then-alone-ne4 : goal.returns-then-alone-ne4
returns-then-alone-ne4 c =
    let w = wanted _ _ _ _ _ _ _ _ _ c.requires.fits _ c.requires.inside in
    found-alone _ _ _ _ _ w.sides _ w.inside c.read_line-alone.result (read_at _ _ _ _ c.line_at.ensures c.read_line-alone.ensures) c.if-alone-ne4.true

pub by_row-visited-requires : goal.by_row-visited-requires
by_row-visited-requires c = wanted _ _ _ _ _ _ _ _ _ c.requires.fits _ c.requires.inside

pub returns-then-visited-ne4 : goal.returns-then-visited-ne4
returns-then-visited-ne4 c =
    let w = wanted _ _ _ _ _ _ _ _ _ c.requires.fits _ c.requires.inside in
    found-by-row _ _ _ _ _ w.sides _ w.inside c.read_line-alone.result (read_at _ _ _ _ c.line_at.ensures c.read_line-alone.ensures) c.if-alone-ne4.false
    c.by_row-visited.result c.by_row-visited.ensures c.if-visited-ne4.true

pub by_repair-read-requires : goal.by_repair-read-requires
by_repair-read-requires c =
    record {
      fits = same-refusal _ _ _ _ _ _ _ _ _ _ _ c.by_row-visited.auto.out c.by_row-visited.auto.marks ∙ c.requires.fits;
      inside = c.requires.inside;
    }

pub returns : goal.returns
returns c =
    let w = wanted _ _ _ _ _ _ _ _ _ c.requires.fits _ c.requires.inside in (
      both-failed _ _ _ _ c.args.store.column_table.now w.sides _ w.inside c.read_line-alone.result (read_at _ _ _ _ c.line_at.ensures c.read_line-alone.ensures) c.if-alone-ne4.false
          c.by_row-visited.result c.by_row-visited.ensures c.if-visited-ne4.false,
      c.by_repair-read.ensures,
    )
