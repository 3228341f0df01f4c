-- `lookup::read_one` meets its contract.
use Rattle.std.proofs.lemmas.Result.{err_from_is_err_and}
use Rattle.rectangle.proofs.Numbers.{number-not-zero}
use Rattle.local_decoding.proofs.Refusing.{one-refused}
use Rattle.lookup.proofs.read_one.Goals as goal

pub returns-in_err-store : goal.returns-in_err-store
returns-in_err-store c =
    let p = err_from_is_err_and c.from_residual.result c.from_residual.ensures.1 in
    rw (p.1, p.2) (one-refused _ _ _ _ _ _ _ _ _ c.in_err-store.ensures.answer (number-not-zero c.in_err-store.field-0.0))
