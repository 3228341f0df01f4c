-- What the numbers of a line tell: its codeword where its CRC matches, its sum of positions, its syndrome.
use mathlib.Core.Path.{◌≡◌, sym, ap, ap₂, ◌∙◌, subst}
use mathlib.Core.Bool.{true}
use mathlib.Core.List.{List, ◌++◌}
use Prim.Native.Nat.{ℕ}
use lib.Bits.{bit_xor}
use lib.Dec.{T}
use lib.ListN.{length, take}
use Rattle.gf2.specs.Word.{Word, digits, number}
use Rattle.gf2.specs.Check.{crc, column_sum}
use Rattle.gf2.specs.Generator.{generator}
use Rattle.gf2.proofs.Digits.{digits_number}
use Rattle.gf2.proofs.Same.{same-equal}
use Rattle.register.proofs.Slicing.{length-generator}
use Rattle.linecode.specs.Places.{bits_of, places}
use Rattle.linecode.specs.Code.{protected, data_of, stored_crc, stored_hamming, positions, with_hamming, codeword, syndrome}
use Rattle.linecode.specs.Reading.{mark_of}
use Rattle.linecode.specs.Entry.{reading}
use Rattle.linecode.proofs.Line.{data_of-line, length-places}
use Rattle.linecode.proofs.Codeword.{length-data_of, length-stored_crc, protected-parts, accepted-written, without-spare}
use Rattle.linecode.proofs.Syndrome.{syndrome-parts}
use Rattle.paper_order.specs.PaperOrder.{crc_matches}
use Rattle.paper_order.proofs.Matching.{matches-accepts}
use Rattle.paper_order.proofs.InOrder.{given, reads-matched}

-- a line whose CRC matches reads as the codeword of its data
pub reads-codeword : (l : List ℕ) (m : ℕ) → length l ≡ 70 → crc_matches (places l) ≡ true
    → m ≡ mark_of (places l) (with_hamming (protected (places l))) → given (codeword (data_of (places l))) m ≡ reading l
unfolding codeword
reads-codeword l m e a f =
    let whole = length-places l e in
    ap (λ (p : Word). given (with_hamming p) m) (sym (accepted-written (places l) whole (matches-accepts (places l) whole a)))
    ∙ reads-matched l e a m f

-- the CRC worked out is then the stored one as a number
pub matched-number : (w : Word) (worked stored : ℕ) → crc_matches w ≡ true → worked ≡ number (crc generator (data_of w))
    → stored ≡ number (stored_crc w) → stored ≡ worked
unfolding crc_matches
matched-number w worked stored e f g =
    g ∙ ap number (sym (same-equal (crc generator (data_of w)) (stored_crc w) (subst T (sym e) tt))) ∙ sym f

module _ (l : List ℕ) (whole : length l ≡ 70) (stored : ℕ) (e : stored ≡ number (stored_crc (places l))) where
  held : digits 31 stored ≡ stored_crc (places l)
  held =
      ap (digits 31) e
      ∙ ap (λ (k : ℕ). digits k (number (stored_crc (places l))))
      (sym (length-stored_crc (places l) (length-places l whole) ∙ length-generator))
      ∙ digits_number (stored_crc (places l))

  -- the data and the CRC that a line holds are its protected places
  pub protected-sum : column_sum positions (bits_of (take 64 l) ++ digits 32 stored) ≡ column_sum positions (protected (places l))
  protected-sum =
      let d = data_of (places l) in
      let full = length-places l whole in
      ap (λ (w : Word). column_sum positions (w ++ digits 32 stored)) (sym (data_of-line l whole))
      ∙ without-spare d stored (length-data_of (places l) full)
      ∙ ap (column_sum positions) (ap (λ (w : Word). d ++ w) held ∙ sym (protected-parts (places l) full))

  -- the sum of positions and the Hamming bits that a line holds give its syndrome
  pub held-syndrome : (sum bits : ℕ) → sum ≡ column_sum positions (bits_of (take 64 l) ++ digits 32 stored)
      → bits ≡ number (stored_hamming (places l)) → bit_xor sum bits ≡ syndrome (places l)
  held-syndrome sum bits f g = ap₂ bit_xor (f ∙ protected-sum) g ∙ syndrome-parts (places l) (length-places l whole)
