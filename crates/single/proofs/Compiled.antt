-- The tables that are compiled in: what eight of their entries come to together.
use mathlib.Core.Path.{◌≡◌, refl, sym, ap, ap₂, ◌∙◌}
use mathlib.Core.List.{List}
use Prim.Native.Nat.{ℕ, zero, suc, ◌+◌, ◌*◌, ◌/◌, ◌%◌, ◌^◌, ◌≤◌, ◌<◌}
use native.Mathlib.Nat.{add-suc, add-zero}
use native.Mathlib.Omega.{arith}
use lib.Bits.{bit_xor, xor_comm, xor_zero_l}
use lib.ListN.{length, get_or, replicate}
use Rattle.gf2.specs.Generator.{generator, generator_polynomial}
use Rattle.gf2.proofs.Digits.{bit_xor-assoc}
use Rattle.register.specs.Slices.{eight_steps, slice_table, after}
use Rattle.register.proofs.Bytes.{Bytes}
use Rattle.register.proofs.Slicing.{times, times-lt, late, eight-xor, late-same, after-lt, after-zero, after-apart}
use Rattle.register.proofs.Additive.{Additive, add-shr, add-mod, additive-late}
use Rattle.register.proofs.TableRule.{entry_at}
use Rattle.single.specs.Paired.{Paired}

times-times : (m k n : ℕ) → times m (times k n) ≡ times (m + k) n
times-times m zero n = ap (λ (j : ℕ). times j n) (sym (add-zero m))
times-times m (suc k) n = times-times m k (eight_steps n) ∙ ap (λ (j : ℕ). times j n) (sym (add-suc m k))

-- ---- entry b of table k: the register when k bytes have followed byte b, and above it the register when k + 8 have
abbrev pub looked : ℕ → ℕ → ℕ
looked k b = times (suc k) b + 2 ^ 32 * times 8 (times (suc k) b)

-- as the code reads it
pub read : (k a b n : ℕ) → k < 8 → a ≡ b → b < 256 → n % 2 ^ 32 ≡ get_or slice_table (256 * k + a) 0
    → n / 2 ^ 32 ≡ get_or slice_table (256 * (8 + k) + a) 0 → n ≡ looked k b
read k a b n h e j near far =
    joined n
    ∙ ap₂ (λ (x y : ℕ). x + 2 ^ 32 * y)
    (near ∙ ap (λ (m : ℕ). get_or slice_table (256 * k + m) 0) e ∙ entry_at k b (omega arith) j)
    (far ∙ ap (λ (m : ℕ). get_or slice_table (256 * (8 + k) + m) 0) e ∙ entry_at (8 + k) b (omega arith) j
    ∙ ap (λ (m : ℕ). times m b) (sym (add-suc 8 k)) ∙ sym (times-times 8 (suc k) b))
  where
    joined : (n : ℕ) → n ≡ n % 2 ^ 32 + 2 ^ 32 * (n / 2 ^ 32)
    joined n = omega arith

module _ (k b : ℕ) where
  near-rule : looked k b % 2 ^ 32 ≡ times (suc k) b
  near-rule = let h = times-lt k b in omega arith

  far-rule : looked k b / 2 ^ 32 ≡ times 8 (times (suc k) b)
  far-rule = let h = times-lt k b in omega arith

-- ---- eight entries
add_times : (k : ℕ) → Additive (times k)
add_times zero a b = refl
add_times (suc k) a b = ap (times k) (eight-xor a b) ∙ add_times k (eight_steps a) (eight_steps b)

none_after : after 0 (replicate 8 0) ≡ 0
unfolding after generator generator_polynomial
none_after = refl

times_eight : (r : ℕ) → r < 2 ^ 31 → times 8 r ≡ after r (replicate 8 0)
times_eight r h =
    sym (after-apart r (replicate 8 0) h ∙ ap (λ (n : ℕ). bit_xor n (times 8 r)) none_after ∙ xor_zero_l (times 8 r))

pub paired : (bs : List ℕ) → length bs ≤ 8 → Bytes bs → Paired (late looked bs) bs
paired bs h p =
    record {
      near =
          additive-late (λ n. n % 2 ^ 32) (add-mod 32) looked bs
          ∙ sym (after-zero (λ k b. looked k b % 2 ^ 32) 8 (λ k b i j. near-rule k b) bs h p);
      far =
          additive-late (λ n. n / 2 ^ 32) (add-shr 32) looked bs
          ∙ late-same (λ k b. looked k b / 2 ^ 32) (λ k b. times 8 (times (suc k) b)) 8 (λ k b i j. far-rule k b) bs h p
          ∙ sym (additive-late (times 8) (add_times 8) (λ k b. times (suc k) b) bs)
          ∙ ap (times 8) (sym (after-zero (λ k b. times (suc k) b) 8 (λ k b i j. refl) bs h p))
          ∙ times_eight (after 0 bs) (after-lt 0 bs (omega arith));
    }

-- four terms of a sum in the other order: the code adds the register's bytes so
pub reversed : (s a b c d : ℕ) → bit_xor (bit_xor (bit_xor (bit_xor s a) b) c) d ≡ bit_xor (bit_xor (bit_xor (bit_xor s d) c) b) a
reversed s a b c d =
    ap (λ (n : ℕ). bit_xor (bit_xor n c) d) (swap s a b)
    ∙ ap (λ (n : ℕ). bit_xor n d) (swap (bit_xor s b) a c)
    ∙ swap (bit_xor (bit_xor s b) c) a d
    ∙ ap (λ (n : ℕ). bit_xor n a)
    (ap (λ (n : ℕ). bit_xor n d) (swap s b c) ∙ swap (bit_xor s c) b d ∙ ap (λ (n : ℕ). bit_xor n b) (swap s c d))
  where
    swap : (s a b : ℕ) → bit_xor (bit_xor s a) b ≡ bit_xor (bit_xor s b) a
    swap s a b = bit_xor-assoc s a b ∙ ap (bit_xor s) (xor_comm a b) ∙ sym (bit_xor-assoc s b a)

-- what eight bytes leave in a register, from what is left of the register and of the bytes apart
pub after-parts : (r : ℕ) (bs : List ℕ) → r < 2 ^ 31 → length bs ≡ 8 → bit_xor (after r (replicate 8 0)) (after 0 bs) ≡ after r bs
after-parts r bs h e =
    xor_comm (after r (replicate 8 0)) (after 0 bs)
    ∙ ap (bit_xor (after 0 bs)) (sym (ap (λ (k : ℕ). times k r) e ∙ times_eight r h))
    ∙ sym (after-apart r bs h)
