-- The roots of the generator. Document 01: its factors are those of the binary BCH code of length 1023 with roots a^0 to a^6, a being a
-- root of x^10+x^3+1. The field's 1024 elements are the remainders by x^10+x^3+1, highest coefficient first; their sum is exclusive or.
use Rattle.std.specs.Prelude.{◌≡◌, true, [], ◌∷◌, reverse, ℕ, suc, ◌*◌, ◌≤◌, ◌<◌, take}
use Rattle.gf2.specs.Word.{Word, ◌⊕◌, zeros}
use Rattle.gf2.specs.Polynomial.{◌·◌, powers, remainder}
use Rattle.gf2.specs.Generator.{generator_polynomial}

-- x^10+x^3+1; coefficients from x^0 upward
unfoldable pub field_polynomial : Word
field_polynomial = powers (10 ∷ 3 ∷ 0 ∷ [])

-- a^n: the remainder of x^n
unfoldable pub root_power : ℕ → Word
unfolding field_polynomial
root_power n = remainder (reverse (take 10 field_polynomial)) (true ∷ zeros n)

-- a polynomial's value at a^j, its lowest exponent being e: the sum of a^(j·e) over its exponents e
abbrev pub value_at : ℕ → ℕ → Word → Word
value_at j e [] = zeros 10
value_at j e (c ∷ p) = c · root_power (j * e) ⊕ value_at j (suc e) p

-- a^j is a root of a polynomial
abbrev pub RootAt : ℕ → Word → Type 0
RootAt j p = value_at j 0 p ≡ zeros 10

-- the order of a is n: a^n is 1, and no smaller positive power is
abbrev pub HasOrder : ℕ → Type 0
HasOrder n = (root_power n ≡ root_power 0) × ((k : ℕ) → 0 < k → k < n → root_power k ≡ root_power 0 → ⊥)

-- a is a root of x^10+x^3+1
abbrev pub RootOfItsPolynomial : Type 0
RootOfItsPolynomial = RootAt 1 field_polynomial

-- the length of the code is the order of a
abbrev pub OrderIs1023 : Type 0
OrderIs1023 = HasOrder 1023

-- a^0 to a^6 are roots of the generator
abbrev pub RootsOfTheGenerator : Type 0
RootsOfTheGenerator = (j : ℕ) → j ≤ 6 → RootAt j generator_polynomial
