-- The CRC some bytes at a step: the register's number after them is an exclusive or of table entries, one for each byte.
use mathlib.Core.Path.{◌≡◌, refl, sym, ap, ap₂, ◌∙◌, subst}
use mathlib.Core.List.{List, [], ◌∷◌, ◌++◌}
use Prim.Native.Nat.{ℕ, zero, suc, ◌+◌, ◌*◌, ◌/◌, ◌%◌, ◌^◌, ◌≤◌, ◌<◌}
use native.Mathlib.Nat.{mod-eq_of_lt}
use native.Mathlib.Omega.{arith}
use lib.Bits.{bit_xor, xor_lt, xor_comm, xor_zero_l, xor_zero_r, xor_shr, xor_mod}
use lib.ListN.{length}
use lib.Pow.{shr-shr}
use Rattle.gf2.specs.Word.{Word, ◌⊕◌, zeros, digits, number}
use Rattle.gf2.specs.Polynomial.{divide}
use Rattle.gf2.specs.Generator.{generator}
use Rattle.gf2.proofs.Crc.{zeros-xor}
use Rattle.gf2.proofs.Digits.{length_digits, digits_number, digits-zero, digits-xor, number_lt, number_small, bit_xor-assoc, bit_xor-middle}
use Rattle.gf2.proofs.Linear.{length-divide, divide-xor}
use Rattle.gf2.proofs.Register.{feed, feed-zeros, feed-digits}
use Rattle.register.specs.Slices.{eight_steps, next, fed, after}
use Rattle.register.proofs.Bytes.{Bytes}

pub length-generator : length generator ≡ 31
unfolding generator
length-generator = refl

-- ---- eight steps of the register
digits_same : (k a b : ℕ) → a < 2 ^ k → b < 2 ^ k → digits k a ≡ digits k b → a ≡ b
digits_same k a b h j e = sym (number_small k a h) ∙ ap number e ∙ number_small k b j

length-eight : (n : ℕ) → length (divide generator (digits 31 n) (zeros 8)) ≡ 31
length-eight n =
    length-divide generator (digits 31 n) (zeros 8) (length_digits 31 n ∙ sym length-generator) ∙ length-generator

digits-eight : (n : ℕ) → digits 31 (eight_steps n) ≡ divide generator (digits 31 n) (zeros 8)
digits-eight n =
    ap (λ (k : ℕ). digits k (eight_steps n)) (sym (length-eight n)) ∙ digits_number (divide generator (digits 31 n) (zeros 8))

pub eight-lt : (n : ℕ) → eight_steps n < 2 ^ 31
eight-lt n =
    subst (λ (k : ℕ). eight_steps n < 2 ^ k) (length-eight n) (number_lt (divide generator (digits 31 n) (zeros 8)))

pub eight-xor : (a b : ℕ) → eight_steps (bit_xor a b) ≡ bit_xor (eight_steps a) (eight_steps b)
eight-xor a b =
    digits_same 31 (eight_steps (bit_xor a b)) (bit_xor (eight_steps a) (eight_steps b)) (eight-lt (bit_xor a b))
    (xor_lt 31 (eight_steps a) (eight_steps b) (eight-lt a) (eight-lt b))
    (digits-eight (bit_xor a b)
    ∙ ap₂ (divide generator) (digits-xor 31 a b) (sym (zeros-xor 8 (zeros 8) refl))
    ∙ divide-xor generator (digits 31 a) (digits 31 b) (zeros 8) (zeros 8) (length_digits 31 a ∙ sym (length_digits 31 b)) refl
    ∙ ap₂ ◌⊕◌ (sym (digits-eight a)) (sym (digits-eight b))
    ∙ sym (digits-xor 31 (eight_steps a) (eight_steps b)))

less : (r : ℕ) → r < 2 ^ 31 → r / 256 < 2 ^ 31
less r h = omega arith

pub next-lt : (r b : ℕ) → r < 2 ^ 31 → next r b < 2 ^ 31
next-lt r b h = xor_lt 31 (eight_steps (bit_xor r b % 256)) (r / 256) (eight-lt (bit_xor r b % 256)) (less r h)

pub feed-byte : (r b : ℕ) → r < 2 ^ 31 → feed generator (digits 31 r) (digits 8 b) ≡ digits 31 (next r b)
feed-byte r b h =
    feed-digits generator 8 23 r b length-generator h
    ∙ ap (λ (w : Word). w ⊕ digits 31 (r / 256)) (sym (digits-eight (bit_xor r b % 256)))
    ∙ sym (digits-xor 31 (eight_steps (bit_xor r b % 256)) (r / 256))

-- eight steps go by the low byte, and what is above it moves down
pub eight-split : (s : ℕ) → s < 2 ^ 31 → eight_steps s ≡ bit_xor (eight_steps (s % 256)) (s / 256)
eight-split s h =
    digits_same 31 (eight_steps s) (bit_xor (eight_steps (s % 256)) (s / 256)) (eight-lt s)
    (xor_lt 31 (eight_steps (s % 256)) (s / 256) (eight-lt (s % 256)) (less s h))
    (digits-eight s
    ∙ sym (feed-zeros generator (digits 31 s) 8)
    ∙ ap (feed generator (digits 31 s)) (sym (digits-zero 8))
    ∙ feed-byte s 0 h
    ∙ ap (λ (n : ℕ). digits 31 (bit_xor (eight_steps (n % 256)) (s / 256))) (xor_zero_r s))

-- the register after so many bytes that are 0
abbrev pub times : ℕ → ℕ → ℕ
times zero n = n
times (suc k) n = times k (eight_steps n)

pub times-lt : (k n : ℕ) → times (suc k) n < 2 ^ 31
times-lt zero n = eight-lt n
times-lt (suc k) n = times-lt k (eight_steps n)

fed-lt : (r : ℕ) (bs : List ℕ) → r < 2 ^ 31 → fed r bs < 2 ^ 31
fed-lt r [] h = h
fed-lt r (b ∷ bs) h = fed-lt (next r b) bs (next-lt r b h)

fed-append : (r : ℕ) (xs ys : List ℕ) → fed r (xs ++ ys) ≡ fed (fed r xs) ys
fed-append r [] ys = refl
fed-append r (x ∷ xs) ys = fed-append (next r x) xs ys

pub after_none : (r : ℕ) → after r [] ≡ r
unfolding after
after_none r = refl

pub after_more : (r b : ℕ) (bs : List ℕ) → after r (b ∷ bs) ≡ after (next r b) bs
unfolding after
after_more r b bs = refl

pub after-lt : (r : ℕ) (bs : List ℕ) → r < 2 ^ 31 → after r bs < 2 ^ 31
unfolding after
after-lt r bs h = fed-lt r bs h

pub after-append : (r : ℕ) (xs ys : List ℕ) → after r (xs ++ ys) ≡ after (after r xs) ys
unfolding after
after-append r xs ys = fed-append r xs ys

-- ---- what stood in the register comes through apart from the bytes
next-xor : (s r b : ℕ) → s < 2 ^ 31 → next (bit_xor s r) b ≡ bit_xor (eight_steps s) (next r b)
next-xor s r b h =
    ap₂ bit_xor
    (ap eight_steps (ap (λ (n : ℕ). n % 256) (bit_xor-assoc s r b) ∙ xor_mod s (bit_xor r b) 8)
    ∙ eight-xor (s % 256) (bit_xor r b % 256))
    (xor_shr s r 8)
    ∙ bit_xor-middle (eight_steps (s % 256)) (eight_steps (bit_xor r b % 256)) (s / 256) (r / 256)
    ∙ ap (λ (n : ℕ). bit_xor n (next r b)) (sym (eight-split s h))

fed-xor : (s r : ℕ) (bs : List ℕ) → s < 2 ^ 31 → fed (bit_xor s r) bs ≡ bit_xor (fed r bs) (times (length bs) s)
fed-xor s r [] h = xor_comm s r
fed-xor s r (b ∷ bs) h =
    ap (λ (n : ℕ). fed n bs) (next-xor s r b h) ∙ fed-xor (eight_steps s) (next r b) bs (eight-lt s)

-- a byte first: its table entry, and the rest with what the register keeps
fed-byte : (r b : ℕ) (bs : List ℕ)
    → fed r (b ∷ bs) ≡ bit_xor (fed (r / 256) bs) (times (suc (length bs)) (bit_xor r b % 256))
fed-byte r b bs = fed-xor (eight_steps (bit_xor r b % 256)) (r / 256) bs (eight-lt (bit_xor r b % 256))

-- bytes that meet an empty register, the last one's entry first
abbrev pub late : (ℕ → ℕ → ℕ) → List ℕ → ℕ
late entry [] = 0
late entry (b ∷ []) = entry 0 b
late entry (b ∷ c ∷ bs) = bit_xor (late entry (c ∷ bs)) (entry (suc (length bs)) b)

-- entries that are the same give the same
pub late-same : (entry other : ℕ → ℕ → ℕ) (n : ℕ) → ((k b : ℕ) → k < n → b < 256 → entry k b ≡ other k b)
    → (bs : List ℕ) → length bs ≤ n → Bytes bs → late entry bs ≡ late other bs
late-same entry other n rule [] h p = refl
late-same entry other n rule (b ∷ []) h p = rule 0 b (omega arith) p.0
late-same entry other n rule (b ∷ c ∷ bs) h p =
    ap₂ bit_xor (late-same entry other n rule (c ∷ bs) (omega arith) p.1) (rule (suc (length bs)) b (omega arith) p.0)

fed-zero : (bs : List ℕ) → Bytes bs → fed 0 bs ≡ late (λ k b. times (suc k) b) bs
fed-zero [] p = refl
fed-zero (b ∷ []) p =
    xor_zero_r (eight_steps (bit_xor 0 b % 256)) ∙ ap eight_steps (ap (λ (m : ℕ). m % 256) (xor_zero_l b) ∙ mod-eq_of_lt p.0)
fed-zero (b ∷ c ∷ bs) p =
    fed-byte 0 b (c ∷ bs)
    ∙ ap₂ bit_xor (fed-zero (c ∷ bs) p.1)
    (ap (times (suc (suc (length bs)))) (ap (λ (m : ℕ). m % 256) (xor_zero_l b) ∙ mod-eq_of_lt p.0))

-- ---- bytes that meet the register are added to it first
low_byte : (r b h : ℕ) → b < 256 → bit_xor r (b + 256 * h) % 256 ≡ bit_xor r b % 256
low_byte r b h j = xor_mod r (b + 256 * h) 8 ∙ ap (bit_xor (r % 256)) (same b h j) ∙ sym (xor_mod r b 8)
  where
    same : (b h : ℕ) → b < 256 → (b + 256 * h) % 256 ≡ b % 256
    same b h j = omega arith

above : (r b h : ℕ) → b < 256 → bit_xor r (b + 256 * h) / 256 ≡ bit_xor (r / 256) h
above r b h j = xor_shr r (b + 256 * h) 8 ∙ ap (bit_xor (r / 256)) (quotient b h j)
  where
    quotient : (b h : ℕ) → b < 256 → (b + 256 * h) / 256 ≡ h
    quotient b h j = omega arith

-- byte k of a register that some bytes are added to
first_byte : (r b c d e : ℕ) → b < 256 → bit_xor r (b + 256 * (c + 256 * (d + 256 * e))) % 256 ≡ bit_xor r b % 256
first_byte r b c d e h = low_byte r b (c + 256 * (d + 256 * e)) h

second-byte : (r b c d e : ℕ) → b < 256 → c < 256
    → bit_xor r (b + 256 * (c + 256 * (d + 256 * e))) / 256 % 256 ≡ bit_xor (r / 256) c % 256
second-byte r b c d e h i =
    ap (λ (n : ℕ). n % 256) (above r b (c + 256 * (d + 256 * e)) h) ∙ low_byte (r / 256) c (d + 256 * e) i

third-byte : (r b c d e : ℕ) → b < 256 → c < 256 → d < 256
    → bit_xor r (b + 256 * (c + 256 * (d + 256 * e))) / 65536 % 256 ≡ bit_xor (r / 256 / 256) d % 256
third-byte r b c d e h i j =
    ap (λ (n : ℕ). n % 256)
    (sym (shr-shr (bit_xor r (b + 256 * (c + 256 * (d + 256 * e)))) 8 8)
    ∙ ap (λ (n : ℕ). n / 256) (above r b (c + 256 * (d + 256 * e)) h)
    ∙ above (r / 256) c (d + 256 * e) i)
    ∙ low_byte (r / 256 / 256) d e j

fourth-byte : (r b c d e : ℕ) → b < 256 → c < 256 → d < 256
    → bit_xor r (b + 256 * (c + 256 * (d + 256 * e))) / 16777216 % 256 ≡ bit_xor (r / 256 / 256 / 256) e % 256
fourth-byte r b c d e h i j =
    ap (λ (n : ℕ). n % 256)
    (sym (shr-shr (bit_xor r (b + 256 * (c + 256 * (d + 256 * e)))) 8 16)
    ∙ ap (λ (n : ℕ). n / 65536) (above r b (c + 256 * (d + 256 * e)) h)
    ∙ sym (shr-shr (bit_xor (r / 256) (c + 256 * (d + 256 * e))) 8 8)
    ∙ ap (λ (n : ℕ). n / 256) (above (r / 256) c (d + 256 * e) i)
    ∙ above (r / 256 / 256) d e j)

-- a byte that meets a register, and what the register and the byte come to in an empty one
byte-added : (r b y : ℕ) (bs cs : List ℕ) → length bs ≡ length cs → y % 256 ≡ bit_xor r b % 256 → fed 0 bs ≡ fed (r / 256) cs
    → fed 0 (y % 256 ∷ bs) ≡ fed r (b ∷ cs)
byte-added r b y bs cs n q e =
    fed-byte 0 (y % 256) bs
    ∙ ap₂ bit_xor e (ap₂ times (ap suc n) (ap (λ (m : ℕ). m % 256) (xor_zero_l (y % 256)) ∙ again y ∙ q))
    ∙ sym (fed-byte r b cs)
  where
    again : (y : ℕ) → y % 256 % 256 ≡ y % 256
    again y = omega arith

pub after-added : (r x b c d e : ℕ) (bs : List ℕ) → r < 2 ^ 31 → x ≡ bit_xor r (b + 256 * (c + 256 * (d + 256 * e)))
    → b < 256 → c < 256 → d < 256
    → after 0 (x % 256 ∷ x / 256 % 256 ∷ x / 65536 % 256 ∷ x / 16777216 % 256 ∷ bs) ≡ after r (b ∷ c ∷ d ∷ e ∷ bs)
unfolding after
after-added r x b c d e bs h e0 i j k =
    byte-added r b x (x / 256 % 256 ∷ x / 65536 % 256 ∷ x / 16777216 % 256 ∷ bs) (c ∷ d ∷ e ∷ bs) refl
    (ap (λ (m : ℕ). m % 256) e0 ∙ first_byte r b c d e i)
    (byte-added (r / 256) c (x / 256) (x / 65536 % 256 ∷ x / 16777216 % 256 ∷ bs) (d ∷ e ∷ bs) refl
    (ap (λ (m : ℕ). m / 256 % 256) e0 ∙ second-byte r b c d e i j)
    (byte-added (r / 256 / 256) d (x / 65536) (x / 16777216 % 256 ∷ bs) (e ∷ bs) refl
    (ap (λ (m : ℕ). m / 65536 % 256) e0 ∙ third-byte r b c d e i j k)
    (byte-added (r / 256 / 256 / 256) e (x / 16777216) bs bs refl
    (ap (λ (m : ℕ). m / 16777216 % 256) e0 ∙ fourth-byte r b c d e i j k)
    (ap (λ (m : ℕ). fed m bs) (sym (empty r h))))))
  where
    empty : (r : ℕ) → r < 2 ^ 31 → r / 256 / 256 / 256 / 256 ≡ 0
    empty r h = omega arith

-- bytes that meet an empty register
pub after-zero : (entry : ℕ → ℕ → ℕ) (n : ℕ) → ((k b : ℕ) → k < n → b < 256 → entry k b ≡ times (suc k) b)
    → (bs : List ℕ) → length bs ≤ n → Bytes bs → after 0 bs ≡ late entry bs
unfolding after
after-zero entry n rule bs h p = fed-zero bs p ∙ sym (late-same entry (λ k b. times (suc k) b) n rule bs h p)

-- what stood in the register and the bytes, each alone
pub after-apart : (r : ℕ) (bs : List ℕ) → r < 2 ^ 31 → after r bs ≡ bit_xor (after 0 bs) (times (length bs) r)
unfolding after
after-apart r bs h = ap (λ (n : ℕ). fed n bs) (sym (xor_zero_r r)) ∙ fed-xor r 0 bs h
