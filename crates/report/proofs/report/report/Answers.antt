-- `report::report::report` meets its contract.
use Rattle.report.proofs.Writing.{report-refused, report-last, report-whole}
use Rattle.report.proofs.report.report.Goals as goal

pub returns-then-out-ne256 : goal.returns-then-out-ne256
returns-then-out-ne256 c = report-refused c.args.c c.args.out.now c.if-out-ne256.true

pub returns-in_default : goal.returns-in_default
returns-in_default c =
    report-last c.args.c c.args.out.now c.if-out-ne256.false c.in_default.ensures _ _ c.put_line.ensures.written

pub returns : goal.returns
returns c =
    report-whole c.args.c c.args.out.now c.if-out-ne256.false c.in-Some.ensures.0 _ _ c.put_above-last.ensures.written
    c.put_above-last.ensures.short _ _ c.put_line-2.ensures.written
