-- The promises of the paper's order are kept.
use mathlib.Core.Path.{refl}
use Rattle.linecode.specs.Code.{syndrome, answer_to}
use Rattle.paper_order.specs.Promises.{InPaperOrder}
use Rattle.paper_order.proofs.Matching.{matches-accepted, matches-past}
use Rattle.paper_order.proofs.InOrder.{in-places, same_bytes}

pub promises : InPaperOrder
promises =
    record {
      in_places = in-places;
      in_bytes = same_bytes;
      compares = matches-accepted;
      past_protected = λ w whole h. matches-past w whole (answer_to (syndrome w)) refl h;
    }
