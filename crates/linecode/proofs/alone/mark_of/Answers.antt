-- `linecode::alone::mark_of` meets its contract.
use Rattle.gf2.specs.Word.{number}
use Rattle.gf2.specs.Check.{column_sum}
use Prim.Native.Nat.{ℕ}
use mathlib.Core.List.{List}
use lib.ListN.{length}
use mathlib.Core.Path.{◌≡◌, sym, ap₂, ◌∙◌}
use mathlib.Core.Bool.{Bool, cond}
use borrow.Author.Tests.{eq-eqb, ne_eqb}
use lib.Dec.{eqb}
use Rattle.linecode.specs.Places.{places}
use Rattle.linecode.specs.Code.{protected, with_hamming, positions, stored_hamming}
use Rattle.linecode.specs.Reading.{mark_of}
use Rattle.linecode.proofs.Bytes.{array-length}
use Rattle.linecode.proofs.Line.{length-places}
use Rattle.linecode.proofs.ReadAlone.{mark-when}
use Rattle.linecode.proofs.alone.mark_of.Goals as goal

compared : (l : List ℕ) (sum stored : ℕ) (b : Bool) → length l ≡ 70 → sum ≡ column_sum positions (protected (places l))
    → stored ≡ number (stored_hamming (places l)) → eqb sum stored ≡ b
    → let w = places l in cond b 0 1 ≡ mark_of w (with_hamming (protected w))
compared l sum stored b whole asked held e =
    mark-when (places l) (length-places l whole) b (ap₂ eqb (sym asked) (sym held) ∙ e)

pub returns-then-stored-sum : goal.returns-then-stored-sum
returns-then-stored-sum c = compared c.args.line _ _ _ (array-length 70 c.args.line _ c.well_formed.0) c.requires c.stored.ensures (eq-eqb _ _ (sym c.if-stored-sum.true))

pub returns-else-stored-sum : goal.returns-else-stored-sum
returns-else-stored-sum c =
    compared c.args.line _ _ _ (array-length 70 c.args.line _ c.well_formed.0) c.requires c.stored.ensures (ne_eqb _ _ (λ e. c.if-stored-sum.false (sym e)))
