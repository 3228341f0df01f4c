-- Line code and parity are linear, for any width.
use mathlib.Core.Path.{◌≡◌, refl, sym, ap, ap₂, ◌∙◌}
use mathlib.Core.Bool.{Bool}
use mathlib.Core.List.{List, [], ◌∷◌, ◌++◌, map}
use Prim.Native.Nat.{ℕ}
use native.Mathlib.Omega.{arith}
use lib.ListN.{length, length-append}
use Rattle.gf2.specs.Word.{Word, ◌⊕◌}
use Rattle.gf2.specs.Check.{crc, hamming_bit}
use Rattle.gf2.specs.Linear.{Linear, LineCodeLinear}
use Rattle.gf2.proofs.Xor.{xor-append}
use Rattle.gf2.proofs.Linear.{remainder-xor, crc-xor}
use Rattle.gf2.proofs.Crc.{length-crc}
use Rattle.gf2.proofs.Hamming.{parity-xor, hamming_bit-xor, column_sum-xor}

pub linear : Linear
linear =
    record {
      remainders = remainder-xor;
      crcs = crc-xor;
      parities = parity-xor;
      hamming_bits = hamming_bit-xor;
      column_sums = column_sum-xor;
    }

hamming-xor : (columns ks : List ℕ) (x y : Word)
    → map (hamming_bit columns (x ⊕ y)) ks ≡ map (hamming_bit columns x) ks ⊕ map (hamming_bit columns y) ks
hamming-xor columns [] x y = refl
hamming-xor columns (k ∷ ks) x y =
    ap₂ (λ (b : Bool) (w : Word). b ∷ w) (hamming_bit-xor columns x y k) (hamming-xor columns ks x y)

pub line_code-linear : LineCodeLinear
line_code-linear g columns ks x y e =
    ap (λ (p : Word). p ++ map (hamming_bit columns p) ks) sums
    ∙ ap (λ (h : Word). (p x ⊕ p y) ++ h) (hamming-xor columns ks (p x) (p y))
    ∙ sym (xor-append (p x) (p y) (map (hamming_bit columns (p x)) ks) (map (hamming_bit columns (p y)) ks) lengths)
  where
    p : Word → Word
    p d = d ++ crc g d

    sums : p (x ⊕ y) ≡ p x ⊕ p y
    sums = ap (λ (z : Word). (x ⊕ y) ++ z) (crc-xor g x y e) ∙ sym (xor-append x y (crc g x) (crc g y) e)

    lengths : length (p x) ≡ length (p y)
    lengths = omega (arith, length-append x (crc g x), length-append y (crc g y), length-crc g x, length-crc g y)
