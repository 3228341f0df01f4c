-- `rectangle::lines::GroupIndex::add_to` meets its contract.
use Rattle.rectangle.proofs.Adding.{added}
use Rattle.rectangle.proofs.lines.GroupIndex.add_to.Goals as goal

pub returns : goal.returns
returns g c =
    added c.args.table.now (g.Self.GroupIndex.number c.args.self) c.parity-parity.result c.args.line c.xor_lines-sum.result _
    c.parity-parity.ensures
    c.xor_lines-sum.ensures
    c.put_parity.ensures
