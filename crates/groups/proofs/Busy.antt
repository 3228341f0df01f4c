-- Bytes that are not 0, and the set places that they have.
use mathlib.Core.Path.{◌≡◌, refl, sym, ap, ◌∙◌}
use mathlib.Core.Bool.{Bool, true, false, not, cond}
use Rattle.std.specs.Prelude.{◌==◌, count_by}
use mathlib.Core.List.{List, [], ◌∷◌, ◌++◌, append-nil}
use Prim.Native.Nat.{ℕ, zero, suc, ◌+◌, ◌≤◌, ◌<◌}
use native.Mathlib.Nat.{suc-add, zero-add}
use native.Mathlib.Numerals.{add-one}
use native.Mathlib.Omega.{arith}
use lib.ListN.{length, take, drop, get_or, take-append-drop}
use lib.Seq.{take-suc}
use Rattle.gf2.specs.Word.{Word, digits, number, weight}
use Rattle.gf2.proofs.Digits.{number_small}
use Rattle.linecode.specs.Places.{bits_of, places}
use Rattle.std.proofs.lemmas.List.Sums.{sum_by-cons}
use borrow.Author.Tests.{eqb-false}
use Rattle.linecode.proofs.Bytes.{Bytes, bytes_take, bits_of-append}
use Rattle.promises.proofs.LineLayout.{layout}
use Rattle.scheme.specs.Visit.{set_places}
use Rattle.scheme.proofs.Words.{length-set_places}

weight-append : (x y : Word) → weight (x ++ y) ≡ weight x + weight y
weight-append [] y = sym (zero-add (weight y))
weight-append (false ∷ x) y = weight-append x y
weight-append (true ∷ x) y = ap suc (weight-append x y) ∙ sym (suc-add (weight x) (weight y))

-- a byte more
pub next-weight : (line : List ℕ) (i : ℕ) → i < length line
    → weight (bits_of (take (i + 1) line)) ≡ weight (bits_of (take i line)) + weight (digits 8 (get_or line i 0))
next-weight line i h =
    ap (λ (k : ℕ). weight (bits_of (take k line))) (add-one i)
    ∙ ap (λ (l : List ℕ). weight (bits_of l)) (take-suc line i 0 h)
    ∙ ap weight (bits_of-append (take i line) (get_or line i 0 ∷ []))
    ∙ weight-append (bits_of (take i line)) (bits_of (get_or line i 0 ∷ []))
    ∙ ap (λ (w : Word). weight (bits_of (take i line)) + weight w) (append-nil (digits 8 (get_or line i 0)))

light-zero : (w : Word) → weight w ≡ 0 → number w ≡ 0
light-zero [] e = refl
light-zero (false ∷ w) e = let h = light-zero w e in omega arith
light-zero (true ∷ w) e = let z : ⊥ = omega arith in absurd z

busy-byte : (b : ℕ) → b < 256 → (b ≡ 0 → ⊥) → 0 < weight (digits 8 b)
busy-byte b h d = go (weight (digits 8 b)) refl
  where
    go : (k : ℕ) → weight (digits 8 b) ≡ k → 0 < weight (digits 8 b)
    go zero e = absurd (d (sym (number_small 8 b h) ∙ light-zero (digits 8 b) e))
    go (suc k) e = omega arith

pub busy-weight : (l : List ℕ) → Bytes l → count_by (λ b. not (b == 0)) l ≤ weight (bits_of l)
busy-weight [] h = omega arith
busy-weight (b ∷ l) h =
    let rest = busy-weight l h.1 in
    omega (arith, sum_by-cons (λ x. cond (not (x == 0)) 1 0) b l, weight-append (digits 8 b) (bits_of l), one (b == 0) refl)
  where
    one : (t : Bool) → b == 0 ≡ t → cond (not t) 1 0 ≤ weight (digits 8 b)
    one true e = omega arith
    one false e = busy-byte b h.0 (eqb-false b 0 e)

-- so in a line's first bytes, whose eight bits are all places
pub busy-places : (line : List ℕ) → length line ≡ 70 → Bytes line → count_by (λ b. not (b == 0)) (take 67 line) ≤ length (set_places 0 (places line))
busy-places line whole bytes =
    let parts =
    length-set_places 0 (places line)
    ∙ ap weight (sym (take-append-drop 536 (places line)))
    ∙ weight-append (take 536 (places line)) (drop 536 (places line))
    ∙ ap (λ (w : Word). weight w + weight (drop 536 (places line))) (layout.front line whole) in
    omega (arith, busy-weight (take 67 line) (bytes_take 67 line bytes), parts)
