-- Functions of numbers that pass through exclusive or.
use mathlib.Core.Path.{◌≡◌, refl, ap, ◌∙◌}
use mathlib.Core.List.{List, [], ◌∷◌}
use Prim.Native.Nat.{ℕ, suc, ◌/◌, ◌%◌, ◌^◌}
use lib.Bits.{bit_xor, xor_self, xor_shr, xor_mod}
use lib.ListN.{length}
use Rattle.register.proofs.Slicing.{late}

abbrev pub Additive : (ℕ → ℕ) → Type 0
Additive g = (a b : ℕ) → g (bit_xor a b) ≡ bit_xor (g a) (g b)

pub add-shr : (k : ℕ) → Additive (λ n. n / 2 ^ k)
add-shr k a b = xor_shr a b k

pub add-mod : (k : ℕ) → Additive (λ n. n % 2 ^ k)
add-mod k a b = xor_mod a b k

pub additive-zero : (g : ℕ → ℕ) → Additive g → g 0 ≡ 0
additive-zero g l = l 0 0 ∙ xor_self (g 0)

-- of the entries of some bytes
pub additive-late : (g : ℕ → ℕ) → Additive g → (entry : ℕ → ℕ → ℕ) (bs : List ℕ)
    → g (late entry bs) ≡ late (λ k b. g (entry k b)) bs
additive-late g l entry [] = additive-zero g l
additive-late g l entry (b ∷ []) = refl
additive-late g l entry (b ∷ c ∷ bs) =
    l (late entry (c ∷ bs)) (entry (suc (length bs)) b)
    ∙ ap (λ (n : ℕ). bit_xor n (g (entry (suc (length bs)) b))) (additive-late g l entry (c ∷ bs))
