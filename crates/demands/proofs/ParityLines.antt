-- "Of correct lines it is itself a correct line": the parity line of a row and of a column, whatever the other lines are.
use mathlib.Core.Path.{sym, subst}
use mathlib.Core.List.{List}
use Prim.Native.Nat.{ℕ, ◌*◌}
use native.Mathlib.Omega.{arith}
use Rattle.scheme.specs.Layer.{CorrectLine, Promises}
use Rattle.rectangle.specs.Store.{line_layer, places_at, alone_at, row, column}
use Rattle.rectangle.specs.Tables.{row_parity, column_parity}
use Rattle.demands.specs.Demands.{ParityOfCorrectLines}
use Rattle.demands.proofs.Parity.{alone-correct, sum-correct}

module _ (promises : Promises line_layer) where
  -- a correct line is correct as it reads alone
  as_read : (lines : List ℕ) (n : ℕ) → CorrectLine line_layer n (places_at lines n) → CorrectLine line_layer n (alone_at lines n).line
  as_read lines n c = subst (CorrectLine line_layer n) (sym (alone-correct promises lines n c)) c

  pub parity_of_correct_lines : ParityOfCorrectLines
  unfolding row_parity column_parity row column
  parity_of_correct_lines =
      record {
        rows = λ columns lines k h c.
            sum-correct promises _ (k * columns) 1 columns (omega arith) (λ n i. as_read lines n (c n i));
        columns = λ rows columns lines k h c.
            sum-correct promises _ k columns rows (omega arith) (λ n i. as_read lines n (c n i));
      }
