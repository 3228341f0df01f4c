-- The loop over a line's 64 data bytes, eight at a turn.
use mathlib.Core.Path.{◌≡◌, refl, sym, ap, ap₂, ◌∙◌, subst}
use mathlib.Core.List.{List, [], ◌∷◌, ◌++◌}
use Prim.Native.Nat.{ℕ, zero, suc, ◌+◌, ◌%◌, ◌^◌, ◌≤◌, ◌<◌}
use native.Mathlib.Nat.{add-suc}
use native.Mathlib.Numerals.{add-one}
use native.Mathlib.Omega.{arith}
use lib.Bits.{bit_xor}
use lib.ListN.{length, take, drop, get_or, replicate}
use lib.Seq.{drop-cons, take-add}
use Rattle.register.specs.Slices.{after}
use Rattle.register.proofs.Slicing.{after-lt, after_none, after-append}
use Rattle.single.proofs.Compiled.{after-parts}

-- n bytes of a line from byte i + k on
abbrev pub bytes_from : List ℕ → ℕ → ℕ → ℕ → List ℕ
bytes_from l i k zero = []
bytes_from l i k (suc n) = get_or l (i + k) 0 ∷ bytes_from l i (suc k) n

abbrev pub eight_at : List ℕ → ℕ → List ℕ
eight_at l i = get_or l i 0 ∷ bytes_from l i 1 7

bytes-taken : (l : List ℕ) (i k n : ℕ) → i + (k + n) ≤ length l → take n (drop (i + k) l) ≡ bytes_from l i k n
bytes-taken l i k zero h = refl
bytes-taken l i k (suc n) h =
    ap (take (suc n)) (drop-cons l (i + k) 0 (omega arith))
    ∙ ap (λ (xs : List ℕ). get_or l (i + k) 0 ∷ xs)
    (ap (λ (j : ℕ). take n (drop j l)) (sym (add-suc i k)) ∙ bytes-taken l i (suc k) n (omega arith))

eight-more : (l : List ℕ) (i : ℕ) → i + 8 ≤ length l → after 0 (take (i + 8) l) ≡ after (after 0 (take i l)) (eight_at l i)
eight-more l i h =
    ap (after 0) (take-add i 8 l ∙ ap (λ (xs : List ℕ). take i l ++ xs) next)
    ∙ after-append 0 (take i l) (eight_at l i)
  where
    next : take 8 (drop i l) ≡ eight_at l i
    next =
        ap (take 8) (drop-cons l i 0 (omega arith))
        ∙ ap (λ (xs : List ℕ). get_or l i 0 ∷ xs) (ap (λ (j : ℕ). take 7 (drop j l)) (sym (add-one i)) ∙ bytes-taken l i 1 7 (omega arith))

-- After whole sixteens of bytes the register holds what they leave. Half way through the next it is empty, and kept is what the bytes so far
-- leave after eight more that are 0.
pub record Fed (l : List ℕ) (kept r i : ℕ) : Type 0 where
  pub in-data : i ≤ 64
  pub whole-steps : i % 8 ≡ 0
  pub small : r < 2 ^ 31
  pub whole : i % 16 ≡ 0 → r ≡ after 0 (take i l)
  pub half : (i % 16 ≡ 0 → ⊥) → (r ≡ 0) × (kept ≡ after (after 0 (take i l)) (replicate 8 0))

pub fed-start : (l : List ℕ) → Fed l 0 0 0
fed-start l =
    record {
      in-data = omega arith;
      whole-steps = refl;
      small = omega arith;
      whole = λ e. sym (after_none 0);
      half = λ h. absurd (h refl);
    }

second-whole : (i : ℕ) → i % 8 ≡ 0 → (i % 16 ≡ 0 → ⊥) → (i + 8) % 16 ≡ 0
second-whole i e h =
    let of-sixteen : i % 16 % 8 ≡ 0 = omega arith in
    let eight : i % 16 ≡ 8 = omega arith in
    omega arith

module _ (l : List ℕ) (kept r i : ℕ) (long : 64 ≤ length l) (h : i < 64) (f : Fed l kept r i) where
  more : after 0 (take (i + 8) l) ≡ after (after 0 (take i l)) (eight_at l i)
  more = eight-more l i (omega arith)

  pub fed-first : (k s : ℕ) → i % 16 ≡ 0 → s ≡ 0 → k ≡ after (after r (eight_at l i)) (replicate 8 0) → Fed l k s (i + 8)
  fed-first k s e z q =
      record {
        in-data = omega arith;
        whole-steps = omega arith;
        small = omega arith;
        whole = λ w. let never : ⊥ = omega arith in absurd never;
        half = λ w. (z, q ∙ ap (λ (m : ℕ). after m (replicate 8 0)) (ap (λ (m : ℕ). after m (eight_at l i)) (f.whole e) ∙ sym more));
      }

  pub fed-second : (k s n : ℕ) → (i % 16 ≡ 0 → ⊥) → s ≡ bit_xor kept n → n ≡ after r (eight_at l i) → Fed l k s (i + 8)
  fed-second k s n e z q =
      record {
        in-data = omega arith;
        whole-steps = omega arith;
        small = subst (λ (m : ℕ). m < 2 ^ 31) (sym same) (after-lt 0 (take (i + 8) l) (omega arith));
        whole = λ w. same;
        half = λ w. absurd (w (second-whole i f.whole-steps e));
      }
    where
      same : s ≡ after 0 (take (i + 8) l)
      same =
          z
          ∙ ap₂ bit_xor (f.half e).1 (q ∙ ap (λ (m : ℕ). after m (eight_at l i)) (f.half e).0)
          ∙ after-parts (after 0 (take i l)) (eight_at l i) (after-lt 0 (take i l) (omega arith)) refl
          ∙ sym more

pub fed-end : (l : List ℕ) (kept r i : ℕ) → 64 ≤ i → Fed l kept r i → r ≡ after 0 (take 64 l)
fed-end l kept r i h f =
    let all : i ≡ 64 = omega (arith, f.in-data) in
    f.whole (ap (λ (k : ℕ). k % 16) all) ∙ ap (λ (k : ℕ). after 0 (take k l)) all
