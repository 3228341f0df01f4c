-- The single-line code as repair sees it: how a line reads alone, which lines are correct, and what is promised of them.
use Rattle.std.specs.Prelude.{◌≡◌, ◌⊎◌, List, [], ◌∷◌, ℕ, ◌≤◌, length}
use Rattle.std.specs.Int.Bits.{bit_xor}
use Rattle.gf2.specs.Word.{Word, ◌⊕◌, distance}

-- a line and its mark: 0 correct as found, 1 accepted and rewritten somewhere, 2 mended by trial, 3 rebuilt, 4 faulty
pub record Cell : Type 0 where
  pub line : Word
  pub mark : ℕ

-- reading alone: a line's number and the line as found give the line and its mark
abbrev pub Reading : Type 0
Reading = ℕ → Word → Cell

-- a single-line code of so many places; line n is read, and is correct or not, under its address
pub record Layer : Type 1 where
  pub width : ℕ
  pub address : ℕ → ℕ
  pub read : Reading
  pub Correct : ℕ → Word → Type 0

-- line n, read alone
abbrev pub read_line : Layer → Reading
read_line layer n found = layer.read (layer.address n) found

-- line n is a correct line
abbrev pub CorrectLine : Layer → ℕ → Word → Type 0
CorrectLine layer n w = layer.Correct (layer.address n) w

-- the address of a parity line: the exclusive or of its lines' addresses
abbrev pub parity_address : Layer → List ℕ → ℕ
parity_address layer [] = 0
parity_address layer (n ∷ ns) = bit_xor (layer.address n) (parity_address layer ns)

-- a reading that is accepted and gives the line w
pub record ReadsAs (w : Word) (reading : Cell) : Type 0 where
  pub gives : reading.line ≡ w
  pub accepted : reading.mark ≤ 1

-- what the layer promises, and all that repair and demand 3 rely on (what its marks tell: `MarksTell`); w and v are correct lines, found is a line as found
pub record Promises (layer : Layer) : Type 0 where
  -- a correct line has all places
  pub sized : (a : ℕ) (w : Word) → layer.Correct a w → length w ≡ layer.width
  -- two correct lines that differ in at most seven places are equal
  pub apart : (a : ℕ) (w v : Word) → layer.Correct a w → layer.Correct a v → distance w v ≤ 7 → w ≡ v
  -- the exclusive or of correct lines is correct, under the exclusive or of their addresses
  pub summed : (a b : ℕ) (w v : Word) → layer.Correct a w → layer.Correct b v → layer.Correct (bit_xor a b) (w ⊕ v)
  -- a line that differs from a correct one in at most one place is read as that one
  pub corrects : (a : ℕ) (w found : Word) → layer.Correct a w → length found ≡ layer.width → distance w found ≤ 1
      → ReadsAs w (layer.read a found)
  -- a line that differs from a correct one in at most six places is read as that one or is faulty
  pub detects : (a : ℕ) (w found : Word) → layer.Correct a w → length found ≡ layer.width → distance w found ≤ 6
      → ReadsAs w (layer.read a found) ⊎ ((layer.read a found).mark ≡ 4)
  -- a faulty line is given back as found
  pub kept : (a : ℕ) (found : Word) → length found ≡ layer.width → (layer.read a found).mark ≡ 4
      → (layer.read a found).line ≡ found
  -- any other line is accepted, and read as a correct one
  pub sound : (a : ℕ) (found : Word) → length found ≡ layer.width
      → ((layer.read a found).mark ≡ 4)
      ⊎ (((layer.read a found).mark ≤ 1) × layer.Correct a (layer.read a found).line)
  -- whatever is read, its mark is 0, 1 or 4
  pub marks : (a : ℕ) (found : Word) → ((layer.read a found).mark ≤ 1) ⊎ ((layer.read a found).mark ≡ 4)
