-- Lines summed one after the other, from a line of zeros on.
use mathlib.Core.Path.{◌≡◌, refl, sym, ap, ap₂, ◌∙◌}
use mathlib.Core.Logic.{◌⊎◌, inl, inr}
use mathlib.Core.Bool.{false}
use mathlib.Core.List.{List, []}
use Prim.Native.Nat.{ℕ, zero, suc, ◌+◌, ◌*◌, ◌≤◌, ◌<◌}
use native.Mathlib.Numerals.{add-one}
use native.Mathlib.Omega.{arith}
use lib.ListN.{length, replicate, length-replicate}
use Rattle.gf2.specs.Word.{Word, ◌⊕◌, zeros}
use Rattle.gf2.proofs.Xor.{xor_comm, xor-zeros, length-xor-same}
use Rattle.linecode.specs.Places.{line_places, places, line_of, xor_bytes}
use Rattle.scheme.specs.Visit.{sum}
use Rattle.rectangle.specs.Store.{alone_at, stride}
use Rattle.tables.specs.Sweep.{Clean}
use Rattle.rectangle.proofs.Stride.{sum-snoc}
use Rattle.rectangle.proofs.Spare.{length-places, places-line_of, line_of-xor, none-zeros, none-line}
use Rattle.rectangle.proofs.Alone.{length-alone}

-- no line so far, or all places
Whole : Word → Type 0
Whole w = (w ≡ []) ⊎ (length w ≡ line_places)

-- a line of zeros
pub none-summed : replicate 70 0 ≡ line_of []
none-summed = sym none-line

none-places : places (line_of []) ≡ zeros line_places
none-places = ap places none-zeros ∙ places-line_of (zeros line_places) (length-replicate line_places false)

-- one line more, in bytes
one_more : (w v : Word) → Whole w → length v ≡ line_places → line_of (places (line_of w) ⊕ v) ≡ line_of (w ⊕ v)
unfolding Whole
one_more w v (inl e) f =
    ap line_of
    (ap (λ (x : Word). x ⊕ v) (ap (λ (x : Word). places (line_of x)) e ∙ none-places)
    ∙ xor_comm (zeros line_places) v
    ∙ xor-zeros line_places v (omega (arith, f))
    ∙ ap (λ (x : Word). x ⊕ v) (sym e))
one_more w v (inr e) f = ap (λ (x : Word). line_of (x ⊕ v)) (places-line_of w e)

whole-more : (w v : Word) → Whole w → length v ≡ line_places → Whole (w ⊕ v)
unfolding Whole
whole-more w v (inl e) f = inr (ap (λ (x : Word). length (x ⊕ v)) e ∙ f)
whole-more w v (inr e) f = inr (length-xor-same w v (e ∙ sym f) ∙ e)

-- ---- added byte by byte: to a line whose spare bits are 0
pub clean-more : (old : List ℕ) (v : Word) → length old ≡ 70 → Clean old → length v ≡ line_places
    → xor_bytes old (line_of v) ≡ line_of (places old ⊕ v)
clean-more old v e clean f =
    ap (λ (l : List ℕ). xor_bytes l (line_of v)) clean ∙ line_of-xor (places old) v (length-places old e ∙ sym f)

clean-whole : (w : Word) → Whole w → line_of w ≡ line_of (places (line_of w))
unfolding Whole
clean-whole w (inl e) =
    ap line_of e ∙ none-clean ∙ ap (λ (x : Word). line_of (places (line_of x))) (sym e)
  where
    none-clean : line_of [] ≡ line_of (places (line_of []))
    none-clean = none-zeros ∙ ap line_of (sym none-places)
clean-whole w (inr e) = ap line_of (sym (places-line_of w e))

-- ---- lines at equal steps, as each reads alone
module _ (buffer : List ℕ) (first step : ℕ) where
  -- the exclusive or of the first k of them
  abbrev pub summed : ℕ → Word
  summed k = sum (λ n. (alone_at buffer n).line) (stride first step k)

  whole-summed : (k : ℕ) → ((j : ℕ) → j < k → suc (first + j * step) * 70 ≤ length buffer) → Whole (summed k)
  unfolding Whole
  whole-summed zero inside = inl refl
  whole-summed (suc k) inside =
      rw (sum-snoc (λ n. (alone_at buffer n).line) first step k)
      (whole-more (summed k) (alone_at buffer (first + k * step)).line (whole-summed k (λ j h. inside j (omega arith)))
      (length-alone buffer (first + k * step) (inside k (omega arith))))

  -- their sum has spare bits 0
  pub clean-summed : (k : ℕ) (l : List ℕ) → ((j : ℕ) → j < k → suc (first + j * step) * 70 ≤ length buffer)
      → l ≡ line_of (summed k) → Clean l
  clean-summed k l inside e =
      e ∙ clean-whole (summed k) (whole-summed k inside) ∙ ap (λ (m : List ℕ). line_of (places m)) (sym e)

  -- line n is the next of them
  pub sum-turn : (k n : ℕ) (old new : List ℕ) → n ≡ first + k * step
      → ((j : ℕ) → j < suc k → suc (first + j * step) * 70 ≤ length buffer)
      → old ≡ line_of (summed k) → new ≡ line_of (places old ⊕ (alone_at buffer n).line) → new ≡ line_of (summed (k + 1))
  sum-turn k n old new at inside e f =
      f
      ∙ ap₂ (λ (l : List ℕ) (m : ℕ). line_of (places l ⊕ (alone_at buffer m).line)) e at
      ∙ one_more (summed k) (alone_at buffer (first + k * step)).line (whole-summed k (λ j h. inside j (omega arith)))
      (length-alone buffer (first + k * step) (inside k (omega arith)))
      ∙ ap line_of (sym (sum-snoc (λ n. (alone_at buffer n).line) first step k))
      ∙ ap (λ (j : ℕ). line_of (summed j)) (sym (add-one k))
