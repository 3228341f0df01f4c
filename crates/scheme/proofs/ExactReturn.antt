-- Demand 3, the exact return: where the damage can be put in an order, repair answers 0 and returns exactly the store written.
use mathlib.Core.Path.{◌≡◌, refl, sym, ap, ◌∙◌}
use mathlib.Core.Logic.{◌⊎◌, inl, inr}
use mathlib.Core.Bool.{Bool, true, false, false≢true}
use mathlib.Core.List.{List, [], ◌∷◌}
use Prim.Native.Nat.{ℕ}
use lib.ListN.{length, length-map, get_or-map}
use lib.Seq.{ext_get_or}
use Rattle.gf2.specs.Word.{Word}
use Rattle.scheme.specs.Layer.{Layer, read_line, Promises}
use Rattle.scheme.specs.Visit.{Group, State, cell_at, line_at, is_faulty, visit}
use Rattle.scheme.specs.Repair.{read_all, pass, faulty_count, repair, lines_of}
use Rattle.scheme.specs.Demand3.{◌∈◌, RisingGroups, word_at, Written, Alone, Paired, Turns, Mendable, Returned}
use Rattle.scheme.proofs.Grows.{none-counted, none_found}
use Rattle.scheme.proofs.Passes.{passes-end, idle-visits}
use Rattle.scheme.proofs.Stays.{repair-length}
use Rattle.scheme.proofs.Faithful.{Right, whole, hurt, Faithful}
use Rattle.scheme.proofs.NoneWrong.{end-faithful, end_line, answers-zero}
use Rattle.scheme.proofs.Mends.{alone-mended}
use Rattle.scheme.proofs.Pair.{pair-mended}

module _
    (layer : Layer) (promises : Promises layer) (gs : List Group) (rising : RisingGroups gs) (written received : List Word)
    (w : Written layer gs written) (order : List ℕ) (mendable : Mendable written received layer gs order) where
  -- a store in which no visit changes anything has no faulty line left in the order
  module _
      (s : State) (faithful : Faithful written received s) (idle : (g : Group) → g ∈ gs → visit (read_line layer) g s ≡ s) where
    -- a visit that would mend a line finds it accepted
    idle-mends : (g : Group) → g ∈ gs → (n : ℕ) → (is_faulty (cell_at s n) ≡ true → is_faulty (cell_at (visit (read_line layer) g s) n) ≡ false)
        → is_faulty (cell_at s n) ≡ false
    idle-mends g i n h = go (is_faulty (cell_at s n)) refl
      where
        go : (b : Bool) → is_faulty (cell_at s n) ≡ b → is_faulty (cell_at s n) ≡ false
        go false e = e
        go true e = ap (λ (t : State). is_faulty (cell_at t n)) (sym (idle g i)) ∙ h e

    module _
        (n : ℕ) (later : List ℕ) (absent : n ∈ later → ⊥)
        (left : (m : ℕ) → is_faulty (cell_at s m) ≡ true → m ∈ (n ∷ later)) where
      -- the line is mended where all other lines of the group are accepted
      lonely : (g : Group) → g ∈ gs → n ∈ g.members → ((m : ℕ) → m ∈ g.members → m ∈ later → is_faulty (cell_at s m) ≡ false)
          → is_faulty (cell_at s n) ≡ false
      lonely g i h others =
          idle-mends g i n
          (λ e. alone-mended (read_line layer) g s n h e (rising g i) (λ m j f. go m j f (left m f)))
        where
          go : (m : ℕ) → m ∈ g.members → is_faulty (cell_at s m) ≡ true → m ∈ (n ∷ later) → m ≡ n
          go m j f (inl q) = q
          go m j f (inr q) = absurd (false≢true (sym (others m j q) ∙ f))

      paired : Paired written received gs n later → is_faulty (cell_at s n) ≡ false
      paired t = go (is_faulty (cell_at s t.other)) refl
        where
          only : (k : ℕ) → k ∈ t.group.members → k ∈ (n ∷ later) → (k ≡ n) ⊎ (k ≡ t.other)
          only k j (inl q) = inl q
          only k j (inr q) = inr (t.no_third k j q)

          go : (b : Bool) → is_faulty (cell_at s t.other) ≡ b → is_faulty (cell_at s n) ≡ false
          go false e = lonely t.group t.listed t.holds (λ m j q. rw (t.no_third m j q) e)
          go true e =
              idle-mends t.group t.listed n
              (λ f.
              pair-mended layer promises gs rising written received w mendable.bounds s faithful n later t
              (λ q. absent (rw q t.left)) f e (λ k j h. only k j (left k h)))

      turn : Alone written received gs n later ⊎ Paired written received gs n later → is_faulty (cell_at s n) ≡ false
      turn (inl a) = lonely a.group a.listed a.holds (λ m j q. absurd (a.no_other m j q))
      turn (inr t) = paired t

    none_left : (later : List ℕ) → Turns written received gs later → ((m : ℕ) → is_faulty (cell_at s m) ≡ true → m ∈ later)
        → (n : ℕ) → is_faulty (cell_at s n) ≡ false
    none_left [] t left n = go (is_faulty (cell_at s n)) refl
      where
        go : (b : Bool) → is_faulty (cell_at s n) ≡ b → is_faulty (cell_at s n) ≡ false
        go false e = e
        go true e = absurd (left n e)
    none_left (k ∷ later) t left n = none_left later t.2 (λ m e. go m e (left m e)) n
      where
        go : (m : ℕ) → is_faulty (cell_at s m) ≡ true → m ∈ (k ∷ later) → m ∈ later
        go m e (inl q) =
            absurd (false≢true (sym (turn k later t.0 left t.1) ∙ ap (λ (i : ℕ). is_faulty (cell_at s i)) (sym q) ∙ e))
        go m e (inr q) = q

  end : State
  end = (repair (read_line layer) gs received).cells

  faithful-end : Faithful written received end
  unfolding end
  faithful-end = end-faithful layer promises gs rising written received w mendable.bounds

  -- every line is accepted at the end
  end-accepted : (n : ℕ) → is_faulty (cell_at end n) ≡ false
  unfolding end repair
  end-accepted = go (passes-end (read_line layer) gs (read_all (read_line layer) 0 received))
    where
      listed : (m : ℕ) → is_faulty (cell_at end m) ≡ true → Right written received m (cell_at end m) → m ∈ order
      listed m e (whole p q) = absurd (false≢true (sym p ∙ e))
      listed m e (hurt p q l d) = mendable.each m l d

      go : (faulty_count end ≡ 0) ⊎ (pass (read_line layer) gs end ≡ end) → (n : ℕ) → is_faulty (cell_at end n) ≡ false
      go (inl e) = none-counted end e
      go (inr e) =
          none_left end faithful-end (idle-visits (read_line layer) gs end e) order mendable.turns
          (λ m f. listed m f (faithful-end m))

  line-written : (n : ℕ) → line_at end n ≡ word_at written n
  unfolding end
  line-written n = end_line layer promises gs rising written received w mendable.bounds n (end-accepted n)

  end-length : length end ≡ length written
  unfolding end
  end-length = repair-length (read_line layer) gs received ∙ mendable.bounds.lines

  pub none-faulty : faulty_count (repair (read_line layer) gs received).cells ≡ 0
  unfolding end
  none-faulty = none_found end end-accepted

  pub exact-return : Returned gs written (repair (read_line layer) gs received)
  unfolding end
  exact-return =
      record {
        answers = answers-zero layer promises gs rising written received w mendable.bounds none-faulty;
        exactly = ext_get_or [] (lines_of end) written (length-map end _ ∙ end-length) (λ n h. get_or-map _ end n _ ∙ line-written n);
      }
