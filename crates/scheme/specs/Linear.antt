-- Document 01: "That line code and parity are linear is shown for any width, then used at 553 places." The line code stands in `gf2`.
use Rattle.std.specs.Prelude.{◌≡◌, List, ℕ}
use Rattle.gf2.specs.Word.{Word, ◌⊕◌}
use Rattle.scheme.specs.Visit.{sum}

-- the parity line of two stores added line by line is the exclusive or of their parity lines; any group, lines of any widths
abbrev pub ParityLinear : Type 0
ParityLinear =
    (line other : ℕ → Word) (members : List ℕ)
    → sum (λ n. line n ⊕ other n) members ≡ sum line members ⊕ sum other members
