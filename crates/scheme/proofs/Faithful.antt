-- The invariant of demand 3: accepted lines are the written ones, faulty lines are as received and have two or more damaged bits.
use mathlib.Core.Path.{◌≡◌, refl, sym, ap, ◌∙◌}
use mathlib.Core.Logic.{◌⊎◌, inl, inr}
use mathlib.Core.Bool.{Bool, true, false, false≢true}
use mathlib.Core.List.{List, []}
use Prim.Native.Nat.{ℕ, ◌≤◌, ◌<◌}
use native.Mathlib.Nat.{zero-add}
use native.Mathlib.Omega.{arith}
use borrow.Author.Tests.{eqb-false, eq-eqb, ne_eqb, leb-true, leb-false, ltb-true, ltb-false}
use lib.Dec.{leb, ltb}
use lib.ListN.{length, get_or-eq_default}
use Rattle.gf2.specs.Word.{Word, ◌⊕◌, flip}
use Rattle.gf2.proofs.Weight.{length-flip, distance-flip}
use Rattle.scheme.specs.Layer.{Cell, Layer, read_line, ReadsAs, Promises}
use Rattle.scheme.specs.Visit.{Group, State, cell_at, line_at, is_faulty, without, sum}
use Rattle.scheme.specs.Repair.{read_all, passes_from}
use Rattle.scheme.specs.Demand3.{◌∈◌, RisingGroups, word_at, Written, damage, WithinBounds}
use Rattle.scheme.proofs.Sums.{sum-ext}
use Rattle.scheme.proofs.Written.{others-give}
use Rattle.scheme.proofs.Every.{Every, Tried, Rebuilt, every-passes}
use Rattle.scheme.proofs.Stays.{read_all-at, read_all-length}

pub data Right (written received : List Word) (n : ℕ) (c : Cell) : Type 0 where
  whole : is_faulty c ≡ false → c.line ≡ word_at written n → Right written received n c
  hurt : is_faulty c ≡ true → c.line ≡ word_at received n → n < length written → 2 ≤ damage written received n
      → Right written received n c

abbrev pub Faithful : List Word → List Word → State → Type 0
Faithful written received = Every (Right written received)

module _ (written received : List Word) where
  -- a line that is not faulty is the written one
  pub right-line : (n : ℕ) (c : Cell) → Right written received n c → is_faulty c ≡ false → c.line ≡ word_at written n
  right-line n c (whole p q) e = q
  right-line n c (hurt p q h d) e = absurd (false≢true (sym e ∙ p))

  -- a faulty one is as received, with two or more damaged bits
  pub right-faulty : (n : ℕ) (c : Cell) → Right written received n c → is_faulty c ≡ true
      → (c.line ≡ word_at received n) × (2 ≤ damage written received n)
  right-faulty n c (whole p q) e = absurd (false≢true (sym p ∙ e))
  right-faulty n c (hurt p q h d) e = (q, d)

-- an accepted reading is not faulty
pub accepted-mark : (w : Word) (c : Cell) → ReadsAs w c → is_faulty c ≡ false
accepted-mark w c r = ne_eqb c.mark 4 (λ e. let z : ⊥ = omega arith in z)

module _
    (layer : Layer) (promises : Promises layer) (gs : List Group) (rising : RisingGroups gs) (written received : List Word)
    (w : Written layer gs written) (bounds : WithinBounds written received layer) where
  -- an accepted trial of a received line gives the written one
  trial-line : (n p : ℕ) → n < length written → is_faulty (read_line layer n (flip p (word_at received n))) ≡ false
      → (read_line layer n (flip p (word_at received n))).line ≡ word_at written n
  trial-line n p h e =
      go
      (promises.detects (layer.address n) (word_at written n) (flip p (word_at received n)) (w.correct n h)
      (length-flip p (word_at received n) ∙ bounds.places n h)
      (omega (arith, distance-flip (word_at written n) (word_at received n) p, bounds.five n h)))
    where
      go : ReadsAs (word_at written n) (read_line layer n (flip p (word_at received n)))
          ⊎ ((read_line layer n (flip p (word_at received n))).mark ≡ 4)
          → (read_line layer n (flip p (word_at received n))).line ≡ word_at written n
      go (inl r) = r.gives
      go (inr q) = absurd (eqb-false _ 4 e q)

  trial-right : Tried (read_line layer) (Right written received)
  trial-right n p c e (whole f q) i = absurd (false≢true (sym f ∙ e))
  trial-right n p c e (hurt f q h d) i =
      let again : read_line layer n (flip p c.line) ≡ read_line layer n (flip p (word_at received n)) =
      ap (λ (v : Word). read_line layer n (flip p v)) q in
      whole refl (ap (λ (x : Cell). x.line) again ∙ trial-line n p h (sym (ap is_faulty again) ∙ i))

  -- a line is rebuilt right where the group's other lines are accepted
  rebuilt-right : (g : Group) → g ∈ gs → Rebuilt g (Right written received)
  rebuilt-right g i s f n h e others = go (f n)
    where
      go : Right written received n (cell_at s n)
          → Right written received n (record { line = g.parity ⊕ sum (line_at s) (without n g.members); mark = 3 })
      go (whole p q) = absurd (false≢true (sym p ∙ e))
      go (hurt p q l d) =
          whole refl
          (ap (λ (x : Word). g.parity ⊕ x)
          (sum-ext (line_at s) (word_at written) (without n g.members) (λ m j. right-line written received m _ (f m) (others m j)))
          ∙ others-give layer promises gs rising written w g i n h l)

  pub passes-faithful : (s : State) → Faithful written received s
      → Faithful written received (passes_from (read_line layer) gs s).cells
  passes-faithful = every-passes (Right written received) (read_line layer) trial-right gs rebuilt-right

  -- the first reading
  pub reading-faithful : Faithful written received (read_all (read_line layer) 0 received)
  reading-faithful n = go (ltb n (length written)) refl
    where
      found : Word
      found = word_at received n

      reading : Cell
      reading = read_line layer n found

      right : n < length written → (ReadsAs (word_at written n) reading) ⊎ (reading.mark ≡ 4)
          → Right written received n reading
      right h (inl r) = whole (accepted-mark _ _ r) r.gives
      right h (inr q) = damaged (leb (damage written received n) 1) refl
        where
          damaged : (b : Bool) → leb (damage written received n) 1 ≡ b → Right written received n reading
          damaged true e =
              let r : ReadsAs (word_at written n) reading =
              promises.corrects _ (word_at written n) found (w.correct n h) (bounds.places n h) (leb-true _ _ e) in
              whole (accepted-mark _ _ r) r.gives
          damaged false e =
              hurt (eq-eqb _ 4 q) (promises.kept _ found (bounds.places n h) q) h (leb-false _ _ e)

      go : (b : Bool) → ltb n (length written) ≡ b → Right written received n (cell_at (read_all (read_line layer) 0 received) n)
      go true e =
          let h : n < length written = ltb-true _ _ e in
          rw (read_all-at (read_line layer) 0 received n (omega (arith, bounds.lines)), zero-add)
          (right h
          (promises.detects _ (word_at written n) found (w.correct n h) (bounds.places n h)
          (omega (arith, bounds.five n h))))
      go false e =
          let past : length (read_all (read_line layer) 0 received) ≤ n =
          omega (arith, read_all-length (read_line layer) 0 received, bounds.lines, ltb-false n (length written) e) in
          rw (get_or-eq_default (read_all (read_line layer) 0 received) _ past)
          (whole refl (sym (get_or-eq_default written [] (ltb-false _ _ e))))
