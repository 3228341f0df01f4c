-- The words of demand 3, as document 01 gives them, for any list of groups.
use Rattle.std.specs.Prelude.{◌≡◌, ◌⊎◌, Bool, true, false, List, [], ◌∷◌, ℕ, ◌≤◌, ◌<◌, length, get_or}
use Rattle.gf2.specs.Word.{Word, ◌⊕◌, distance}
use Rattle.scheme.specs.Layer.{Layer, CorrectLine}
use Rattle.scheme.specs.Visit.{Group, cell_at, line_at, sum}
use Rattle.scheme.specs.Repair.{Repaired, lines_of, answer}

infix 40 ◌∈◌
-- membership in a list
abbrev pub ◌∈◌ : {A : Type 0} → A → List A → Type 0
a ∈ [] = ⊥
a ∈ (b ∷ l) = (a ≡ b) ⊎ (a ∈ l)

-- numbers in rising order
abbrev pub Rising : List ℕ → Type 0
Rising [] = Unit {0}
Rising (n ∷ ns) = ((m : ℕ) → m ∈ ns → n < m) × Rising ns

-- what is asked of a list of groups: each has its lines in rising order, so each line once
abbrev pub RisingGroups : List Group → Type 0
RisingGroups gs = (g : Group) → g ∈ gs → Rising g.members

-- line n of a list of lines
abbrev pub word_at : List Word → ℕ → Word
word_at ws n = get_or ws n []

-- a store written: correct lines only, and the parity lines made from them
pub record Written (layer : Layer) (gs : List Group) (written : List Word) : Type 0 where
  pub correct : (n : ℕ) → n < length written → CorrectLine layer n (word_at written n)
  pub parities : (g : Group) → g ∈ gs → g.parity ≡ sum (word_at written) g.members

module _ (written received : List Word) where
  -- the number of damaged bits of line n
  abbrev pub damage : ℕ → ℕ
  damage n = distance (word_at written n) (word_at received n)

  -- whether line n is damaged at place p
  abbrev pub damaged_at : ℕ → ℕ → Bool
  damaged_at n p = get_or (word_at written n ⊕ word_at received n) p false

  -- some group holding line n holds no other line left
  pub record Alone (gs : List Group) (n : ℕ) (later : List ℕ) : Type 0 where
    pub group : Group
    pub listed : group ∈ gs
    pub holds : n ∈ group.members
    pub no_other : (m : ℕ) → m ∈ group.members → m ∈ later → ⊥

  -- line n has exactly two damaged bits, some group holding it holds exactly one other line left, and that one has at most
  -- four damaged bits and is undamaged at one of these two places or both
  pub record Paired (gs : List Group) (n : ℕ) (later : List ℕ) : Type 0 where
    pub two : damage n ≡ 2
    pub group : Group
    pub listed : group ∈ gs
    pub holds : n ∈ group.members
    pub other : ℕ
    pub left : other ∈ later
    pub holds_other : other ∈ group.members
    pub no_third : (m : ℕ) → m ∈ group.members → m ∈ later → m ≡ other
    pub four : damage other ≤ 4
    pub place : ℕ
    pub hurt : damaged_at n place ≡ true
    pub unhurt : damaged_at other place ≡ false

  -- at each line's turn those before it count as whole, it and those after it are left; no line stands twice
  abbrev pub Turns : List Group → List ℕ → Type 0
  Turns gs [] = Unit {0}
  Turns gs (n ∷ later) = (n ∈ later → ⊥) × (Alone gs n later ⊎ Paired gs n later) × Turns gs later

  -- as many lines as written, all with their places, and none with more than five damaged bits
  pub record WithinBounds (layer : Layer) : Type 0 where
    pub lines : length received ≡ length written
    pub places : (n : ℕ) → n < length written → length (word_at received n) ≡ layer.width
    pub five : (n : ℕ) → n < length written → damage n ≤ 5

  -- within these bounds; in the order stands each line with two or more damaged bits, and no other
  pub record Mendable (layer : Layer) (gs : List Group) (order : List ℕ) : Type 0 where
    pub bounds : WithinBounds layer
    pub each : (n : ℕ) → n < length written → 2 ≤ damage n → n ∈ order
    pub no_other : (n : ℕ) → n ∈ order → (n < length written) × (2 ≤ damage n)
    pub turns : Turns gs order

-- exactly the store written: the answer is 0, and the lines handed over are the written ones
pub record Returned (gs : List Group) (written : List Word) (repaired : Repaired) : Type 0 where
  pub answers : answer gs repaired.cells ≡ 0
  pub exactly : lines_of repaired.cells ≡ written

-- no line mended into another: one that is not given up is the line written; one that is stands as received, and had two or more
-- damaged bits; and answer 12 is never given
pub record NoneWrong (gs : List Group) (written received : List Word) (repaired : Repaired) : Type 0 where
  pub answers : (answer gs repaired.cells ≡ 0) ⊎ (answer gs repaired.cells ≡ 11)
  pub as_written : (n : ℕ) → ((cell_at repaired.cells n).mark ≡ 4 → ⊥) → line_at repaired.cells n ≡ word_at written n
  pub as_received : (n : ℕ) → (cell_at repaired.cells n).mark ≡ 4 → line_at repaired.cells n ≡ word_at received n
  pub damaged : (n : ℕ) → (cell_at repaired.cells n).mark ≡ 4 → 2 ≤ damage written received n
