-- The CRC is what the register holds after the data bytes.
use mathlib.Core.Path.{◌≡◌, sym, ap, ◌∙◌}
use mathlib.Core.List.{List, [], ◌∷◌}
use Prim.Native.Nat.{ℕ, ◌^◌, ◌<◌}
use native.Mathlib.Omega.{arith}
use lib.ListN.{length, take}
use Rattle.gf2.specs.Word.{Word, zeros, digits, number}
use Rattle.gf2.specs.Check.{crc}
use Rattle.gf2.specs.Generator.{generator}
use Rattle.gf2.proofs.Digits.{digits-zero, number_small}
use Rattle.gf2.proofs.Register.{feed, feed-append, feed-crc}
use Rattle.register.specs.Slices.{next, after}
use Rattle.register.proofs.Slicing.{length-generator, feed-byte, next-lt, after-lt, after_none, after_more}
use Rattle.linecode.specs.Places.{bits_of, places}
use Rattle.linecode.specs.Code.{data_of}
use Rattle.linecode.proofs.Line.{data_of-line}

feed-after : (r : ℕ) (bs : List ℕ) → r < 2 ^ 31 → feed generator (digits 31 r) (bits_of bs) ≡ digits 31 (after r bs)
feed-after r [] h = ap (digits 31) (sym (after_none r))
feed-after r (b ∷ bs) h =
    feed-append generator (digits 31 r) (digits 8 b) (bits_of bs)
    ∙ ap (λ (w : Word). feed generator w (bits_of bs)) (feed-byte r b h)
    ∙ feed-after (next r b) bs (next-lt r b h)
    ∙ ap (digits 31) (sym (after_more r b bs))

pub crc-after : (l : List ℕ) (r : ℕ) → length l ≡ 70 → r ≡ after 0 (take 64 l) → r ≡ number (crc generator (data_of (places l)))
crc-after l r e f =
    f
    ∙ sym (number_small 31 (after 0 (take 64 l)) (after-lt 0 (take 64 l) (omega arith)))
    ∙ ap number
    (sym (sym (feed-crc generator (data_of (places l)) 30 length-generator)
    ∙ ap (feed generator (zeros (length generator))) (data_of-line l e)
    ∙ ap (λ (w : Word). feed generator w (bits_of (take 64 l))) (ap zeros length-generator ∙ sym (digits-zero 31))
    ∙ feed-after 0 (take 64 l) (omega arith)))
