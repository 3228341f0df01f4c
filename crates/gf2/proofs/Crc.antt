-- The check bits of a cyclic code: the only ones that make a word divisible, and how a register works them out.
use mathlib.Core.Path.{◌≡◌, refl, sym, ap, ap₂, ◌∙◌}
use mathlib.Core.Bool.{false}
use mathlib.Core.List.{[], ◌∷◌, ◌++◌, append_assoc, append-nil}
use Prim.Native.Nat.{ℕ, zero, suc, ◌+◌}
use native.Mathlib.Omega.{arith}
use lib.ListN.{length, length-append, length-replicate}
use Rattle.gf2.specs.Word.{Word, ◌⊕◌, zeros, is_zero, same}
use Rattle.gf2.specs.Polynomial.{◌·◌, divide_step, divide, remainder}
use Rattle.gf2.specs.Check.{divisible, crc}
use Rattle.gf2.proofs.Xor.{xor_comm, xor-zeros}
use Rattle.gf2.proofs.Linear.{divide-xor, length-remainder}
use Rattle.gf2.proofs.Same.{is_zero-xor}

-- ---- zeros
pub zeros-snoc : (n : ℕ) → zeros n ++ (false ∷ []) ≡ zeros (suc n)
zeros-snoc zero = refl
zeros-snoc (suc n) = ap (λ (w : Word). false ∷ w) (zeros-snoc n)

pub zeros-xor : (n : ℕ) (x : Word) → length x ≡ n → zeros n ⊕ x ≡ x
zeros-xor n x e = xor_comm (zeros n) x ∙ xor-zeros n x (omega arith)

pub scale-false : (g : Word) → false · g ≡ zeros (length g)
scale-false [] = refl
scale-false (a ∷ g) = ap (λ (w : Word). false ∷ w) (scale-false g)

-- ---- a register that holds zeros in front only shifts
pub divide-append : (g r x y : Word) → divide g r (x ++ y) ≡ divide g (divide g r x) y
divide-append g r [] y = refl
divide-append g r (d ∷ x) y = divide-append g (divide_step g r d) x y

pub shift_in : (g p c : Word) → length p + length c ≡ length g → divide g (zeros (length c) ++ p) c ≡ p ++ c
shift_in g p [] e = sym (append-nil p)
shift_in g p (d ∷ c) e =
    ap (λ (r : Word). divide g r c) shifted
    ∙ shift_in g (p ++ (d ∷ [])) c (ap (λ (n : ℕ). n + length c) (length-append p (d ∷ [])) ∙ omega arith)
    ∙ append_assoc p (d ∷ []) c
  where
    whole : length (zeros (length c) ++ (p ++ (d ∷ []))) ≡ length g
    whole =
        length-append (zeros (length c)) (p ++ (d ∷ []))
        ∙ ap₂ ◌+◌ (length-replicate (length c) false) (length-append p (d ∷ []))
        ∙ omega arith

    shifted : ((zeros (length c) ++ p) ++ (d ∷ [])) ⊕ (false · g) ≡ zeros (length c) ++ (p ++ (d ∷ []))
    shifted =
        ap₂ ◌⊕◌ (append_assoc (zeros (length c)) p (d ∷ [])) (scale-false g)
        ∙ xor-zeros (length g) (zeros (length c) ++ (p ++ (d ∷ []))) (omega (arith, whole))

-- ---- the CRC is what the register holds after as many zeros, and the only word that makes the whole divisible
crc-divide : (g w : Word) → crc g w ≡ divide g (remainder g w) (zeros (length g))
crc-divide g w = divide-append g (zeros (length g)) w (zeros (length g))

pub length-crc : (g w : Word) → length (crc g w) ≡ length g
length-crc g w = length-remainder g (w ++ zeros (length g))

remainder-crc : (g w c : Word) → length c ≡ length g → remainder g (w ++ c) ≡ crc g w ⊕ c
remainder-crc g w c e =
    divide-append g o w c
    ∙ sym (ap₂ (divide g) (xor-zeros (length g) r (omega (arith, length-remainder g w))) (zeros-xor (length g) c e))
    ∙ divide-xor g r o o c (length-remainder g w ∙ sym os) (os ∙ sym e)
    ∙ ap₂ ◌⊕◌ (sym (crc-divide g w)) (ap (λ (n : ℕ). divide g (zeros n) c) (sym e) ∙ whole)
  where
    o : Word
    o = zeros (length g)

    r : Word
    r = remainder g w

    os : length o ≡ length g
    os = length-replicate (length g) false

    whole : divide g (zeros (length c)) c ≡ c
    whole = ap (λ (x : Word). divide g x c) (sym (append-nil (zeros (length c)))) ∙ shift_in g [] c (omega arith)

-- divisible exactly where the check bits are the CRC
pub divisible-crc : (g w c : Word) → length c ≡ length g → divisible g (w ++ c) ≡ same (crc g w) c
divisible-crc g w c e =
    ap is_zero (remainder-crc g w c e) ∙ is_zero-xor (crc g w) c (length-crc g w ∙ sym e)
