-- Polynomials over two elements: products, and the remainder by a generator of any degree.
use Rattle.std.specs.Prelude.{Bool, true, false, ◌&&◌, List, [], ◌∷◌, ◌++◌, map, ℕ, length}
use Rattle.gf2.specs.Word.{Word, ◌⊕◌, zeros}

infixl 70 ◌·◌
-- a word times a bit
abbrev pub ◌·◌ : Bool → Word → Word
b · x = map (λ a. b && a) x

-- a sum of powers of x, given by its exponents; coefficients from x^0 upward
abbrev pub powers : List ℕ → Word
powers [] = []
powers (e ∷ es) = (zeros e ++ (true ∷ [])) ⊕ powers es

-- the product of two polynomials; coefficients from x^0 upward
abbrev pub product : Word → Word → Word
product [] q = []
product (a ∷ p) q = (a · q) ⊕ (false ∷ product p q)

-- Long division. A generator of degree n is x^n and its n lower coefficients g, highest first, and so is a remainder r.
-- One step multiplies r by x, adds the coefficient d, and takes the generator away where x^n was reached.
abbrev pub divide_step : Word → Word → Bool → Word
divide_step g [] d = []
divide_step g (t ∷ r) d = (r ++ (d ∷ [])) ⊕ (t · g)

abbrev pub divide : Word → Word → Word → Word
divide g r [] = r
divide g r (d ∷ w) = divide g (divide_step g r d) w

-- the remainder of a word, whose place 0 is the highest coefficient
abbrev pub remainder : Word → Word → Word
remainder g w = divide g (zeros (length g)) w
