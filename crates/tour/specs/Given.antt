-- What adding and comparing give, in the numbers of the definitions.
use Rattle.std.specs.Prelude.{Result, Ok, Err}
use Rattle.std.specs.declared.cmp.Ordering.{Ordering}
use Rattle.rectangle.specs.Answers.{number_of}
use Rattle.rectangle.specs.declared.answers.Refusal.{Refusal}
use Rattle.tour.specs.Adding.{Added}
use Rattle.tour.specs.Share.{order_number, Compared}
use Rattle.tour.specs.declared.Wear as Declared

-- the report after an addition, which leaves it as it was where it is refused
abbrev pub added_to : Declared.Wear → Result Declared.Wear Refusal → Added
added_to w (Ok after) = record { answer = 0; wear = after }
added_to w (Err refusal) = record { answer = number_of refusal; wear = w }

-- an order, which is 0 where there is none
abbrev pub compared_as : Result Ordering Refusal → Compared
compared_as (Ok order) = record { answer = 0; order = order_number order }
compared_as (Err refusal) = record { answer = number_of refusal; order = 0 }
