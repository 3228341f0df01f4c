-- Decimal digits are read back as the number, and none is a zero too many.
use mathlib.Core.Path.{◌≡◌, refl, sym, ap, ◌∙◌, subst}
use mathlib.Core.Bool.{Bool, true, false}
use mathlib.Core.List.{List, [], ◌∷◌, ◌++◌}
use Prim.Native.Nat.{ℕ, zero, suc, ◌+◌, ◌-◌, ◌*◌, ◌/◌, ◌%◌, ◌≤◌, ◌<◌}
use native.Mathlib.Omega.{arith}
use native.Mathlib.Decide.{dec_le}
use borrow.Author.Tests.{ltb-true, ltb-false}
use lib.Dec.{ltb}
use lib.ListN.{length, get_or, length-append, get_or-append}
use lib.Seq.{get_or_at}
use Rattle.report.specs.Report.{digit, decimal}
use Rattle.report.specs.Promises.{read_decimal, DecimalWithoutZeros}
use Rattle.report.proofs.Decimal.{decimal-small, decimal-more}

read-snoc : (m : ℕ) (x : List ℕ) (d : ℕ) → read_decimal m (x ++ (d ∷ [])) ≡ 10 * read_decimal m x + (d - 48)
read-snoc m [] d = refl
read-snoc m (a ∷ x) d = read-snoc (10 * m + (a - 48)) x d

-- what a list of digits has to do with a number
record Digits (n : ℕ) (l : List ℕ) : Type 0 where
  digits : (i : ℕ) → i < length l → (48 ≤ get_or l i 0) × (get_or l i 0 ≤ 57)
  number : read_decimal 0 l ≡ n
  no_zero : 1 ≤ n → get_or l 0 0 ≡ 48 → ⊥
  some : 1 ≤ length l

one-digit : (n : ℕ) → n < 10 → Digits n (digit n ∷ [])
one-digit n h =
    record {
      digits = at;
      number = omega arith;
      no_zero = λ k e. omega arith;
      some = omega arith;
    }
  where
    at : (i : ℕ) → i < 1 → (48 ≤ get_or (digit n ∷ []) i 0) × (get_or (digit n ∷ []) i 0 ≤ 57)
    at zero k = (omega arith, omega arith)
    at (suc i) k = let z : ⊥ = omega arith in absurd z

more-digits : (n : ℕ) (l : List ℕ) → 10 ≤ n → Digits (n / 10) l → Digits n (l ++ (digit (n % 10) ∷ []))
more-digits n l h d =
    record {
      digits = at;
      number = read-snoc 0 l (digit (n % 10)) ∙ omega (arith, d.number);
      no_zero = λ k e. d.no_zero (omega arith) (sym (get_or-append l (digit (n % 10) ∷ []) 0 0 d.some) ∙ e);
      some = omega (arith, length-append l (digit (n % 10) ∷ []), d.some);
    }
  where
    at : (i : ℕ) → i < length (l ++ (digit (n % 10) ∷ []))
        → (48 ≤ get_or (l ++ (digit (n % 10) ∷ [])) i 0) × (get_or (l ++ (digit (n % 10) ∷ [])) i 0 ≤ 57)
    at i k = go (dec_le (length l) i)
      where
        go : Dec (length l ≤ i) → (48 ≤ get_or (l ++ (digit (n % 10) ∷ [])) i 0) × (get_or (l ++ (digit (n % 10) ∷ [])) i 0 ≤ 57)
        go (yes p) =
            let here : length l ≡ i = omega (arith, length-append l (digit (n % 10) ∷ [])) in
            let e = get_or_at l (digit (n % 10)) [] 0 i here in
            (omega arith, omega arith)
        go (no p) =
            let e = get_or-append l (digit (n % 10) ∷ []) 0 i (omega arith) in
            let b = d.digits i (omega arith) in
            (omega arith, omega arith)

all_digits : (k n : ℕ) → n ≤ k → Digits n (decimal n)
all_digits zero n h = subst (Digits n) (sym (decimal-small n (omega arith))) (one-digit n (omega arith))
all_digits (suc k) n h = go (ltb n 10) refl (λ more. all_digits k (n / 10) (omega arith))
  where
    go : (b : Bool) → ltb n 10 ≡ b → (10 ≤ n → Digits (n / 10) (decimal (n / 10))) → Digits n (decimal n)
    go true e higher = subst (Digits n) (sym (decimal-small n (ltb-true n 10 e))) (one-digit n (ltb-true n 10 e))
    go false e higher =
        let more = ltb-false n 10 e in
        subst (Digits n) (sym (decimal-more n more)) (more-digits n (decimal (n / 10)) more (higher more))

pub decimal-without-zeros : DecimalWithoutZeros
decimal-without-zeros n =
    let d = all_digits n n (omega arith) in
    record { digits = d.digits; number = d.number; no_zero = d.no_zero; short = λ h. ap length (decimal-small n h) }
