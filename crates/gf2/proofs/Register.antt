-- The register that works a CRC out: it takes the word in at its highest coefficient, a bit or eight bits at a step.
use mathlib.Core.Path.{◌≡◌, refl, sym, ap, ap₂, ◌∙◌, subst}
use mathlib.Core.Bool.{Bool, false, ◌&&◌}
use mathlib.Core.List.{[], ◌∷◌, ◌++◌, append-nil}
use Prim.Native.Nat.{ℕ, zero, suc, ◌+◌, ◌/◌, ◌%◌, ◌^◌, ◌≤◌, ◌<◌, max}
use native.Mathlib.Nat.{suc_inj, le_of_suc-le-suc, not-suc-le-zero, div-eq_of_lt, mod-lt, add_comm}
use native.Mathlib.Omega.{arith}
use lib.Bits.{bit_xor}
use lib.ListN.{length, length-append, length-map, length-replicate}
use lib.Pow.{shr_lt, pow_pos}
use Rattle.gf2.specs.Word.{Word, ◌⊻◌, ◌⊕◌, zeros, digits}
use Rattle.gf2.specs.Polynomial.{◌·◌, divide_step, divide}
use Rattle.gf2.specs.Check.{crc}
use Rattle.gf2.proofs.Xor.{xor_comm, xor_assoc, xor-zeros, xor-append, xor-nil, length-xor, bit-zero-l}
use Rattle.gf2.proofs.Linear.{scale-xor, divide-xor, length-divide, length-divide_step}
use Rattle.gf2.proofs.Crc.{zeros-snoc, zeros-xor, divide-append, shift_in}
use Rattle.gf2.proofs.Digits.{length_digits, digits-zero, digits-xor, digits-add, digits_mod}

abbrev pub feed_step : Word → Word → Bool → Word
feed_step g [] d = []
feed_step g (t ∷ r) d = (r ++ (false ∷ [])) ⊕ ((t ⊻ d) · g)

abbrev pub feed : Word → Word → Word → Word
feed g r [] = r
feed g r (d ∷ w) = feed g (feed_step g r d) w

pub feed-append : (g r x y : Word) → feed g r (x ++ y) ≡ feed g (feed g r x) y
feed-append g r [] y = refl
feed-append g r (d ∷ x) y = feed-append g (feed_step g r d) x y

-- zeros are taken in alike at either end
feed_step-false : (g r : Word) → feed_step g r false ≡ divide_step g r false
feed_step-false g [] = refl
feed_step-false g (t ∷ r) = refl

pub feed-zeros : (g r : Word) (n : ℕ) → feed g r (zeros n) ≡ divide g r (zeros n)
feed-zeros g r zero = refl
feed-zeros g r (suc n) =
    feed-zeros g (feed_step g r false) n ∙ ap (λ (x : Word). divide g x (zeros n)) (feed_step-false g r)

-- ---- fed from zeros, it ends at the CRC
-- a bit at the lowest coefficient, multiplied by x^n, leaves that bit times the generator's lower coefficients
unit-shifted : (g : Word) (d : Bool) (k : ℕ) → length g ≡ suc k → divide g (zeros k ++ (d ∷ [])) (zeros (suc k)) ≡ d · g
unit-shifted g d k e =
    ap (divide g (zeros k ++ (d ∷ []))) (sym (zeros-snoc k))
    ∙ divide-append g (zeros k ++ (d ∷ [])) (zeros k) (false ∷ [])
    ∙ ap (λ (r : Word). divide g r (false ∷ [])) front
    ∙ ap (λ (r : Word). r ⊕ (d · g)) (zeros-snoc k)
    ∙ zeros-xor (suc k) (d · g) (length-map g (λ b. d && b) ∙ e)
  where
    ks : length (zeros k) ≡ k
    ks = length-replicate k false

    front : divide g (zeros k ++ (d ∷ [])) (zeros k) ≡ d ∷ zeros k
    front =
        ap (λ (n : ℕ). divide g (zeros n ++ (d ∷ [])) (zeros k)) (sym ks)
        ∙ shift_in g (d ∷ []) (zeros k) (omega (arith, ks))

step-apart : (g : Word) (t : Bool) (r : Word) (d : Bool)
    → divide_step g (t ∷ r) d ≡ divide_step g (t ∷ r) false ⊕ (zeros (length r) ++ (d ∷ []))
step-apart g t r d =
    ap (λ (x : Word). x ⊕ (t · g)) (sym (lowest r))
    ∙ xor_assoc (r ++ (false ∷ [])) u (t · g)
    ∙ ap (λ (x : Word). (r ++ (false ∷ [])) ⊕ x) (xor_comm u (t · g))
    ∙ sym (xor_assoc (r ++ (false ∷ [])) (t · g) u)
  where
    u : Word
    u = zeros (length r) ++ (d ∷ [])

    lowest : (r : Word) → (r ++ (false ∷ [])) ⊕ (zeros (length r) ++ (d ∷ [])) ≡ r ++ (d ∷ [])
    lowest [] = ap (λ (b : Bool). b ∷ []) (bit-zero-l d)
    lowest (b ∷ r) = ap (λ (x : Word). b ∷ x) (lowest r)

feed_step-apart : (g s : Word) (d : Bool) (k : ℕ) → length s ≡ suc k → feed_step g s d ≡ divide_step g s false ⊕ (d · g)
feed_step-apart g [] d k e = let z : ⊥ = omega arith in absurd z
feed_step-apart g (t ∷ s) d k e =
    ap (λ (x : Word). (s ++ (false ∷ [])) ⊕ x) (scale-xor t d g) ∙ sym (xor_assoc (s ++ (false ∷ [])) (t · g) (d · g))

-- a step of the register is a step of the division n places later
feed_step-divide : (g r : Word) (d : Bool) (k : ℕ) → length g ≡ suc k → length r ≡ suc k
    → feed_step g (divide g r (zeros (suc k))) d ≡ divide g (divide_step g r d) (zeros (suc k))
feed_step-divide g [] d k e h = let z : ⊥ = omega arith in absurd z
feed_step-divide g (t ∷ r) d k e h =
    feed_step-apart g (divide g (t ∷ r) o) d k (length-divide g (t ∷ r) o (h ∙ sym e) ∙ e)
    ∙ ap₂ ◌⊕◌ later (sym (unit-shifted g d k e) ∙ ap (λ (n : ℕ). divide g (zeros n ++ (d ∷ [])) o) (sym (suc_inj h)))
    ∙ sym (divide-xor g (divide_step g (t ∷ r) false) u o o lengths refl)
    ∙ ap₂ (divide g) (sym (step-apart g t r d)) (zeros-xor (suc k) o (length-replicate (suc k) false))
  where
    o : Word
    o = zeros (suc k)

    u : Word
    u = zeros (length r) ++ (d ∷ [])

    later : divide_step g (divide g (t ∷ r) o) false ≡ divide g (divide_step g (t ∷ r) false) o
    later = sym (divide-append g (t ∷ r) o (false ∷ [])) ∙ ap (divide g (t ∷ r)) (zeros-snoc (suc k))

    lengths : length (divide_step g (t ∷ r) false) ≡ length u
    lengths =
        length-divide_step g r false t
        ∙ sym (length-append (zeros (length r)) (d ∷ []) ∙ ap (λ (n : ℕ). n + 1) (length-replicate (length r) false) ∙ omega arith)

feed-divide : (g r w : Word) (k : ℕ) → length g ≡ suc k → length r ≡ suc k
    → feed g (divide g r (zeros (suc k))) w ≡ divide g r (w ++ zeros (suc k))
feed-divide g r [] k e h = refl
feed-divide g r (d ∷ w) k e h =
    ap (λ (x : Word). feed g x w) (feed_step-divide g r d k e h)
    ∙ feed-divide g (divide_step g r d) w k e (length-divide g r (d ∷ []) (h ∙ sym e) ∙ e)

pub feed-crc : (g w : Word) (k : ℕ) → length g ≡ suc k → feed g (zeros (length g)) w ≡ crc g w
feed-crc g w k e =
    ap (λ (x : Word). feed g x w) start
    ∙ feed-divide g (zeros (length g)) w k e (length-replicate (length g) false ∙ e)
    ∙ ap (λ (n : ℕ). divide g (zeros (length g)) (w ++ zeros n)) (sym e)
  where
    o : Word
    o = zeros (suc k)

    os : length o ≡ suc k
    os = length-replicate (suc k) false

    start : zeros (length g) ≡ divide g (zeros (length g)) o
    start =
        ap zeros e
        ∙ sym (shift_in g [] o (omega (arith, os)))
        ∙ ap (λ (x : Word). divide g x o) (append-nil (zeros (length o)) ∙ ap zeros (os ∙ sym e))

-- ---- several bits at a step
short-append : (r u w : Word) → length w ≤ length r → (r ++ u) ⊕ w ≡ (r ⊕ w) ++ u
short-append r u [] h = xor-nil (r ++ u) ∙ ap (λ (x : Word). x ++ u) (sym (xor-nil r))
short-append [] u (b ∷ w) h = absurd (not-suc-le-zero h)
short-append (a ∷ r) u (b ∷ w) h = ap (λ (x : Word). (a ⊻ b) ∷ x) (short-append r u w (le_of_suc-le-suc h))

-- bits that are to be taken in may be added to the register's front first
feed-front : (g r w : Word) → length r ≡ length g → length w ≤ length r → feed g r w ≡ divide g (r ⊕ w) (zeros (length w))
feed-front g r [] e h = sym (xor-nil r)
feed-front g [] (d ∷ w) e h = absurd (not-suc-le-zero h)
feed-front g (t ∷ r) (d ∷ w) e h =
    feed-front g s w (length-xor (r ++ (false ∷ [])) ((t ⊻ d) · g) ∙ lengths) short
    ∙ ap (λ (x : Word). divide g x (zeros (length w))) together
  where
    s : Word
    s = (r ++ (false ∷ [])) ⊕ ((t ⊻ d) · g)

    lengths : max (length (r ++ (false ∷ []))) (length ((t ⊻ d) · g)) ≡ length g
    lengths = ap₂ max (length-append r (false ∷ [])) (length-map g (λ b. (t ⊻ d) && b)) ∙ omega arith

    short : length w ≤ length s
    short = omega (arith, length-xor (r ++ (false ∷ [])) ((t ⊻ d) · g), lengths)

    together : s ⊕ w ≡ ((r ⊕ w) ++ (false ∷ [])) ⊕ ((t ⊻ d) · g)
    together =
        xor_assoc (r ++ (false ∷ [])) ((t ⊻ d) · g) w
        ∙ ap (λ (x : Word). (r ++ (false ∷ [])) ⊕ x) (xor_comm ((t ⊻ d) · g) w)
        ∙ sym (xor_assoc (r ++ (false ∷ [])) w ((t ⊻ d) · g))
        ∙ ap (λ (x : Word). x ⊕ ((t ⊻ d) · g)) (short-append r (false ∷ []) w (le_of_suc-le-suc h))

-- digits with zeros behind are those of the remainder, digits of a quotient have zeros behind
digits_low : (j m x : ℕ) → digits (j + m) (x % 2 ^ j) ≡ digits j x ++ zeros m
digits_low j m x =
    digits-add j m (x % 2 ^ j)
    ∙ ap₂ ◌++◌ (digits_mod j x) (ap (digits m) (div-eq_of_lt (mod-lt x (pow_pos j))) ∙ digits-zero m)

digits-high : (j m r : ℕ) → r < 2 ^ (j + m) → digits (j + m) (r / 2 ^ j) ≡ digits m (r / 2 ^ j) ++ zeros j
digits-high j m r h =
    ap (λ (n : ℕ). digits n (r / 2 ^ j)) (add_comm j m)
    ∙ digits-add m j (r / 2 ^ j)
    ∙ ap (λ (n : ℕ). digits m (r / 2 ^ j) ++ digits j n)
    (div-eq_of_lt (shr_lt m j (subst (λ (n : ℕ). r < 2 ^ n) (add_comm j m) h)))
    ∙ ap (λ (w : Word). digits m (r / 2 ^ j) ++ w) (digits-zero j)

-- j bits b into a register of the number r: the table's entry at the low j bits of r + b, and r divided by 2^j
pub feed-digits : (g : Word) (j m r b : ℕ) → length g ≡ j + m → r < 2 ^ (j + m)
    → feed g (digits (j + m) r) (digits j b)
    ≡ divide g (digits (j + m) (bit_xor r b % 2 ^ j)) (zeros j) ⊕ digits (j + m) (r / 2 ^ j)
feed-digits g j m r b e h =
    feed-front g (digits (j + m) r) (digits j b) (length_digits (j + m) r ∙ sym e) short
    ∙ ap₂ (divide g) sum (ap zeros (length_digits j b))
    ∙ ap (divide g (low ⊕ (zeros j ++ high))) (sym (zeros-xor j (zeros j) (length-replicate j false)))
    ∙ divide-xor g low (zeros j ++ high) (zeros j) (zeros j) lengths refl
    ∙ ap₂ ◌⊕◌ (ap (λ (x : Word). divide g x (zeros j)) (sym (digits_low j m (bit_xor r b)))) shifted
  where
    high : Word
    high = digits m (r / 2 ^ j)

    low : Word
    low = digits j (bit_xor r b) ++ zeros m

    short : length (digits j b) ≤ length (digits (j + m) r)
    short = omega (arith, length_digits j b, length_digits (j + m) r)

    lengths : length low ≡ length (zeros j ++ high)
    lengths =
        length-append (digits j (bit_xor r b)) (zeros m)
        ∙ ap₂ ◌+◌ (length_digits j (bit_xor r b) ∙ sym (length-replicate j false))
        (length-replicate m false ∙ sym (length_digits m (r / 2 ^ j)))
        ∙ sym (length-append (zeros j) high)

    sum : digits (j + m) r ⊕ digits j b ≡ low ⊕ (zeros j ++ high)
    sum =
        ap (λ (x : Word). x ⊕ digits j b) (digits-add j m r)
        ∙ short-append (digits j r) high (digits j b) (omega (arith, length_digits j b, length_digits j r))
        ∙ ap (λ (x : Word). x ++ high) (sym (digits-xor j r b))
        ∙ sym (xor-append (digits j (bit_xor r b)) (zeros j) (zeros m) high (length_digits j (bit_xor r b) ∙ sym (length-replicate j false))
        ∙ ap₂ ◌++◌ (xor-zeros j (digits j (bit_xor r b)) (omega (arith, length_digits j (bit_xor r b))))
        (zeros-xor m high (length_digits m (r / 2 ^ j))))

    shifted : divide g (zeros j ++ high) (zeros j) ≡ digits (j + m) (r / 2 ^ j)
    shifted =
        ap (λ (n : ℕ). divide g (zeros n ++ high) (zeros j)) (sym (length-replicate j false))
        ∙ shift_in g high (zeros j) (omega (arith, length-replicate {A = Bool} j false, length_digits m (r / 2 ^ j)))
        ∙ sym (digits-high j m r h)
