-- The generator of document 01: that of the binary BCH code of length 1023 with roots a^0 to a^6.
use Rattle.std.specs.Prelude.{◌≡◌, true, [], ◌∷◌, reverse, take, drop}
use Rattle.gf2.specs.Word.{Word, number}
use Rattle.gf2.specs.Polynomial.{powers, product}

-- (x+1) times x^10+x^3+1, x^10+x^3+x^2+x+1 and x^10+x^8+x^3+x^2+1; coefficients from x^0 upward
unfoldable pub generator_polynomial : Word
generator_polynomial =
    product (powers (1 ∷ 0 ∷ []))
    (product (powers (10 ∷ 3 ∷ 0 ∷ []))
    (product (powers (10 ∷ 3 ∷ 2 ∷ 1 ∷ 0 ∷ [])) (powers (10 ∷ 8 ∷ 3 ∷ 2 ∷ 0 ∷ []))))

-- its lower 31 coefficients, highest first
unfoldable pub generator : Word
unfolding generator_polynomial
generator = reverse (take 31 generator_polynomial)

-- "It has degree 31; its lower 31 coefficients are hex 71FB3335"
pub record Coefficients : Type 0 where
  pub degree : drop 31 generator_polynomial ≡ true ∷ []
  pub lower : number (reverse generator) ≡ 0x71FB3335
