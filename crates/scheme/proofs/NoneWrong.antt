-- Whatever the order, no line is mended into another: at the end, too, accepted lines are the written ones and faulty ones as received.
use mathlib.Core.Path.{◌≡◌, refl, sym, ◌∙◌}
use mathlib.Core.Logic.{◌⊎◌, inl, inr}
use mathlib.Core.Bool.{Bool, true, false}
use mathlib.Core.List.{List, [], ◌∷◌}
use Prim.Native.Nat.{ℕ}
use borrow.Author.Tests.{eqb-true, eq-eqb, ne_eqb}
use lib.Dec.{eqb}
use Rattle.gf2.specs.Word.{Word}
use Rattle.scheme.specs.Layer.{Layer, read_line, Promises}
use Rattle.scheme.specs.Visit.{Group, State, cell_at, line_at, is_faulty, sum}
use Rattle.scheme.specs.Repair.{faulty_count, repair, agrees, answer}
use Rattle.scheme.specs.Demand3.{◌∈◌, RisingGroups, word_at, Written, WithinBounds, NoneWrong}
use Rattle.scheme.proofs.Words.{is_zero-self}
use Rattle.scheme.proofs.Sums.{sum-ext}
use Rattle.scheme.proofs.Grows.{none-counted}
use Rattle.scheme.proofs.Faithful.{Faithful, right-line, right-faulty, passes-faithful, reading-faithful}

module _
    (layer : Layer) (promises : Promises layer) (gs : List Group) (rising : RisingGroups gs) (written received : List Word)
    (w : Written layer gs written) (bounds : WithinBounds written received layer) where
  end : State
  end = (repair (read_line layer) gs received).cells

  pub end-faithful : Faithful written received (repair (read_line layer) gs received).cells
  unfolding repair
  end-faithful =
      passes-faithful layer promises gs rising written received w bounds _
      (reading-faithful layer promises gs rising written received w bounds)

  -- an accepted line is the one written
  pub end_line : (n : ℕ) → is_faulty (cell_at (repair (read_line layer) gs received).cells n) ≡ false
      → line_at (repair (read_line layer) gs received).cells n ≡ word_at written n
  end_line n e = right-line written received n _ (end-faithful n) e

  -- where all are, each parity line is that of the lines
  end-agrees : ((n : ℕ) → is_faulty (cell_at end n) ≡ false) → (fs : List Group) → ((g : Group) → g ∈ fs → g ∈ gs)
      → agrees fs end ≡ true
  unfolding end
  end-agrees accepted [] i = refl
  end-agrees accepted (g ∷ fs) i =
      let own : sum (line_at end) g.members ≡ g.parity =
      sum-ext (line_at end) (word_at written) g.members (λ n j. end_line n (accepted n)) ∙ sym (w.parities g (i g (inl refl))) in
      rw (own, is_zero-self g.parity) (end-agrees accepted fs (λ h j. i h (inr j)))

  pub answers-zero : faulty_count (repair (read_line layer) gs received).cells ≡ 0
      → answer gs (repair (read_line layer) gs received).cells ≡ 0
  unfolding end answer
  answers-zero e = rw (eq-eqb (faulty_count end) 0 e, end-agrees (none-counted end e) gs (λ g i. i)) refl

  answers : (b : Bool) → eqb (faulty_count end) 0 ≡ b → (answer gs end ≡ 0) ⊎ (answer gs end ≡ 11)
  unfolding end answer
  answers true e = inl (answers-zero (eqb-true _ 0 e))
  answers false e = inr (rw e refl)

  pub none-wrong : NoneWrong gs written received (repair (read_line layer) gs received)
  unfolding end
  none-wrong =
      record {
        answers = answers _ refl;
        as_written = λ n d. end_line n (ne_eqb _ 4 d);
        as_received = λ n e. (right-faulty written received n _ (end-faithful n) (eq-eqb _ 4 e)).0;
        damaged = λ n e. (right-faulty written received n _ (end-faithful n) (eq-eqb _ 4 e)).1;
      }
