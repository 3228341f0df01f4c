-- Words of bits, of any width. A word is the list of its places, place 0 first; a bit is a Bool.
use Rattle.std.specs.Prelude.{Bool, true, false, not, ◌&&◌, List, [], ◌∷◌, ℕ, zero, suc, ◌*◌, ◌/◌, ◌%◌, eqb, replicate}

infixl 65 ◌⊻◌
infixl 60 ◌⊕◌
abbrev pub Word : Type 0
Word = List Bool

-- exclusive or of two bits
abbrev pub ◌⊻◌ : Bool → Bool → Bool
a ⊻ false = a
a ⊻ true = not a

-- exclusive or, place by place; where one word is longer, its further places stand as they are
abbrev pub ◌⊕◌ : Word → Word → Word
[] ⊕ y = y
(a ∷ x) ⊕ [] = a ∷ x
(a ∷ x) ⊕ (b ∷ y) = (a ⊻ b) ∷ (x ⊕ y)

-- n places, none of them set
abbrev pub zeros : ℕ → Word
zeros n = replicate n false

-- the number of set places
abbrev pub weight : Word → ℕ
weight [] = zero
weight (false ∷ x) = weight x
weight (true ∷ x) = suc (weight x)

-- the number of places at which two words differ
abbrev pub distance : Word → Word → ℕ
distance x y = weight (x ⊕ y)

-- the parity of the set places
abbrev pub parity : Word → Bool
parity [] = false
parity (a ∷ x) = parity x ⊻ a

-- no place is set
abbrev pub is_zero : Word → Bool
is_zero [] = true
is_zero (a ∷ x) = not a && is_zero x

-- two words are the same
abbrev pub same : Word → Word → Bool
same [] [] = true
same [] (b ∷ y) = false
same (a ∷ x) [] = false
same (a ∷ x) (b ∷ y) = not (a ⊻ b) && same x y

-- place i turned over
abbrev pub flip : ℕ → Word → Word
flip i [] = []
flip zero (a ∷ x) = not a ∷ x
flip (suc i) (a ∷ x) = a ∷ flip i x

-- the k lowest bits of a number, the lowest first
abbrev pub digits : ℕ → ℕ → Word
digits zero n = []
digits (suc k) n = eqb (n % 2) 1 ∷ digits k (n / 2)

-- the number of a word whose lowest bit stands first
abbrev pub number : Word → ℕ
number [] = zero
number (false ∷ x) = 2 * number x
number (true ∷ x) = suc (2 * number x)
