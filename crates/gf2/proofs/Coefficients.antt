-- The generator has degree 31, and its lower coefficients are those of document 01.
use mathlib.Core.Path.{refl}
use Rattle.gf2.specs.Generator.{generator_polynomial, generator, Coefficients}

pub coefficients : Coefficients
unfolding generator_polynomial generator
coefficients = record { degree = refl; lower = refl }
