-- The cases that tell follow by computation.
use mathlib.Core.Path.{refl}
use Rattle.scheme.specs.Visit.{rebuild, settle, mismatch, trial, visit}
use Rattle.scheme.specs.Repair.{passes_from, repair, answer}
use Rattle.scheme.specs.Parity.{unusable, as_read, parity_after}
use Rattle.scheme.specs.Forecast.{foreseen}
use Rattle.scheme.specs.Case.{read_zero, MismatchWorkedOutOnce, SixPlacesTried, RebuiltInTheSameVisit, ParityHandedOver, AcceptedOnesCompared, TrialsSaveMore}

pub mismatch-worked-out-once : MismatchWorkedOutOnce
unfolding read_zero repair passes_from visit trial settle rebuild mismatch
mismatch-worked-out-once = refl

pub six_places_tried : SixPlacesTried
unfolding read_zero trial mismatch
six_places_tried = record { six = refl; seven = refl }

pub rebuilt_in_the_same_visit : RebuiltInTheSameVisit
unfolding read_zero visit trial settle rebuild mismatch
rebuilt_in_the_same_visit = record { marks = refl; lines = refl }

pub parity_handed_over : ParityHandedOver
unfolding read_zero unusable parity_after
parity_handed_over = record { read = refl; afresh = refl; found = refl }

pub accepted_ones_compared : AcceptedOnesCompared
unfolding read_zero unusable as_read answer
accepted_ones_compared = record { agrees = refl; differs = refl; unusable = refl }

pub trials_save_more : TrialsSaveMore
unfolding read_zero repair foreseen passes_from visit trial settle rebuild mismatch
trials_save_more = record { repaired = refl; forecast = refl }
