-- `capi::sudoku_read_line` meets its contract: 5 and 7 by the lengths, else what reading alone gives.
use native.Mathlib.Omega.{arith}
use mathlib.Core.Path.{◌≡◌, ap, ◌∙◌}
use Rattle.linecode.specs.Entry.{reading}
use Rattle.linecode.specs.declared.alone.Reading.{Reading}
use Rattle.capi.proofs.Single.{read-refused, read-no-line, read-no-room, read-loaded, read-given, faulty-answer, accepted-answer}
use Rattle.capi.proofs.sudoku_read_line.Goals as goal

pub returns-then-line-ne70 : goal.returns-then-line-ne70
returns-then-line-ne70 c =
    rw c.into.ensures (read-refused c.args.line.now c.args.out.now 5 (read-no-line c.args.line.now c.args.out.now c.if-line-ne70.true) (λ z. omega arith))

pub returns-then-out-ne70 : goal.returns-then-out-ne70
returns-then-out-ne70 c =
    rw c.into-then-out-ne70.ensures
    (read-refused c.args.line.now c.args.out.now 7
    (read-no-room c.args.line.now c.args.out.now c.if-line-ne70.false c.if-out-ne70.true)
    (λ z. omega arith))

pub returns-then-read-eq4 : goal.returns-then-read-eq4
returns-then-read-eq4 c =
    let read_whole : c.read_line-read.result ≡ reading c.args.line.now =
    read-loaded c.args.line.now c.args.out.now c.load.result c.read_line-read.result c.if-line-ne70.false c.load.ensures c.read_line-read.ensures in
    rw c.into-then-read-eq4.ensures
    (read-given c.args.line.now c.args.out.now 10 c.store.new.out c.read_line-read.result.mark c.if-line-ne70.false
    c.if-out-ne70.false
    (c.store.ensures ∙ ap (λ (r : Reading). r.line) read_whole)
    (ap (λ (r : Reading). r.mark) read_whole)
    (faulty-answer c.read_line-read.result.mark c.if-read-eq4.true))

pub returns : goal.returns
returns c =
    let read_whole : c.read_line-read.result ≡ reading c.args.line.now =
    read-loaded c.args.line.now c.args.out.now c.load.result c.read_line-read.result c.if-line-ne70.false c.load.ensures c.read_line-read.ensures in
    read-given c.args.line.now c.args.out.now 0 c.store.new.out c.read_line-read.result.mark c.if-line-ne70.false
    c.if-out-ne70.false
    (c.store.ensures ∙ ap (λ (r : Reading). r.line) read_whole)
    (ap (λ (r : Reading). r.mark) read_whole)
    (accepted-answer c.read_line-read.result.mark c.if-read-eq4.false)
