-- What document 01 asks to be proved of the generator, for any length up to 1023.
use Rattle.std.specs.Prelude.{◌≡◌, ◌≤◌, T, length}
use Rattle.gf2.specs.Word.{Word, zeros, weight, distance}
use Rattle.gf2.specs.Check.{divisible}
use Rattle.gf2.specs.Generator.{generator}

-- no nonzero word of at most seven set places is divisible
abbrev pub DistanceEight : Type 0
DistanceEight = (w : Word) → length w ≤ 1023 → T (divisible generator w) → weight w ≤ 7 → w ≡ zeros (length w)

-- two divisible words of one length that differ in at most seven places are equal
abbrev pub DivisibleEqual : Type 0
DivisibleEqual =
    (x y : Word) → length x ≡ length y → length x ≤ 1023 → T (divisible generator x) → T (divisible generator y)
    → distance x y ≤ 7 → x ≡ y
