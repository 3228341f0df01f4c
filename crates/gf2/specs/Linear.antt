-- Document 01: "That line code and parity are linear is shown for any width, then used at 553 places."
use Rattle.std.specs.Prelude.{◌≡◌, List, ℕ, length}
use Rattle.std.specs.Int.Bits.{bit_xor}
use Rattle.gf2.specs.Word.{Word, ◌⊻◌, ◌⊕◌, parity}
use Rattle.gf2.specs.Polynomial.{remainder}
use Rattle.gf2.specs.Check.{crc, hamming_bit, column_sum, line_code}

-- what the exclusive or of two words has is the exclusive or of what each has; words of any width, any generator, any columns
pub record Linear : Type 0 where
  pub remainders : (g x y : Word) → length x ≡ length y → remainder g (x ⊕ y) ≡ remainder g x ⊕ remainder g y
  pub crcs : (g x y : Word) → length x ≡ length y → crc g (x ⊕ y) ≡ crc g x ⊕ crc g y
  pub parities : (x y : Word) → parity (x ⊕ y) ≡ parity x ⊻ parity y
  pub hamming_bits : (cs : List ℕ) (x y : Word) (k : ℕ) → hamming_bit cs (x ⊕ y) k ≡ hamming_bit cs x k ⊻ hamming_bit cs y k
  pub column_sums : (cs : List ℕ) (x y : Word) → column_sum cs (x ⊕ y) ≡ bit_xor (column_sum cs x) (column_sum cs y)

-- the whole line code: the line of the exclusive or of two data words of one length is that of their lines, place by place
abbrev pub LineCodeLinear : Type 0
LineCodeLinear =
    (g : Word) (columns ks : List ℕ) (x y : Word) → length x ≡ length y
    → line_code g columns ks (x ⊕ y) ≡ line_code g columns ks x ⊕ line_code g columns ks y
