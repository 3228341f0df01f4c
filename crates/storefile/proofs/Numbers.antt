-- Numbers in bytes, read and written.
use mathlib.Core.Path.{◌≡◌, refl, sym, ap, ap₂, ◌∙◌}
use mathlib.Core.List.{List, [], ◌∷◌}
use Prim.Native.Nat.{ℕ, zero, suc, ◌+◌, ◌/◌, ◌%◌, ◌^◌, ◌≤◌, ◌<◌}
use native.Mathlib.Nat.{div-div-eq-div-mul, div-lt_iff_lt-mul, pow-suc}
use native.Mathlib.Numerals.{add-one}
use native.Mathlib.Omega.{arith}
use lib.ListN.{length, take, drop, get_or}
use lib.Seq.{drop-cons}
use mir.Syntax.{w16, w32, w64}
use Rattle.std.specs.Int.{from_le_bytes, to_le_bytes, bytes_low_first, byte_at}
use Rattle.storefile.specs.Bytes.{little_endian, number_of, number_at}

-- two bytes from a place on
drop-two : (file : List ℕ) (at : ℕ) → at + 2 ≤ length file
    → drop at file ≡ get_or file at 0 ∷ get_or file (at + 1) 0 ∷ drop (at + 2) file
drop-two file at h =
    drop-cons file at 0 (omega arith)
    ∙ ap (λ (l : List ℕ). get_or file at 0 ∷ l)
    (ap (λ (k : ℕ). drop k file) (sym (add-one at))
    ∙ drop-cons file (at + 1) 0 (omega arith)
    ∙ ap (λ (k : ℕ). get_or file (at + 1) 0 ∷ drop k file) further)
  where
    further : suc (at + 1) ≡ at + 2
    further = omega arith

-- the number of two bytes, and of four, as they are read
pub le-two : (file : List ℕ) (at : ℕ) → at + 2 ≤ length file
    → from_le_bytes w16 (get_or file at 0 ∷ get_or file (at + 1) 0 ∷ []) ≡ number_at file at 2
unfolding number_at
le-two file at h = sym (ap (λ (l : List ℕ). number_of (take 2 l)) (drop-two file at h) ∙ omega arith)

pub le-four : (file : List ℕ) (at : ℕ) → at + 4 ≤ length file
    → from_le_bytes w32 (get_or file at 0 ∷ get_or file (at + 1) 0 ∷ get_or file (at + 2) 0 ∷ get_or file (at + 3) 0 ∷ [])
    ≡ number_at file at 4
unfolding number_at
le-four file at h =
    let further : at + 2 + 1 ≡ at + 3 = omega arith in
    let low = ap (λ (l : List ℕ). number_of (take 4 l)) (drop-two file at (omega arith)) in
    let high = ap (λ (l : List ℕ). number_of (take 2 l)) (drop-two file (at + 2) (omega arith)) in
    let last : get_or file (at + 2 + 1) 0 ≡ get_or file (at + 3) 0 = ap (λ (k : ℕ). get_or file k 0) further in
    omega arith

-- the low bytes of a number, as they are written
low_from : (k m i n : ℕ) → k ≤ m → take k (bytes_low_first i m n) ≡ little_endian k (n / 256 ^ i)
low_from zero m i n h = refl
low_from (suc k) zero i n h = let z : ⊥ = omega arith in absurd z
low_from (suc k) (suc m) i n h =
    ap₂ (λ (b : ℕ) (l : List ℕ). b ∷ l) (byte i)
    (low_from k m (suc i) n (omega arith) ∙ ap (λ (q : ℕ). little_endian k (n / q)) (pow-suc 256 i) ∙ ap (little_endian k) (sym (div-div-eq-div-mul n (256 ^ i) 256)))
  where
    byte : (i : ℕ) → byte_at i n ≡ n / 256 ^ i % 256
    byte zero = omega arith
    byte (suc i) = refl

pub low-bytes : (k n : ℕ) → k ≤ 8 → take k (to_le_bytes w64 n) ≡ little_endian k n
low-bytes k n h = let whole : n / 256 ^ 0 ≡ n = omega arith in low_from k 8 0 n h ∙ ap (little_endian k) whole

pub length-little_endian : (k n : ℕ) → length (little_endian k n) ≡ k
length-little_endian zero n = refl
length-little_endian (suc k) n = ap suc (length-little_endian k (n / 256))

-- a number that fits is read as it was written
pub number-bytes : (k n : ℕ) → n < 256 ^ k → number_of (little_endian k n) ≡ n
number-bytes zero n h = omega arith
number-bytes (suc k) n h =
    let e = number-bytes k (n / 256) ((div-lt_iff_lt-mul {k = 256} {x = n} {y = 256 ^ k} (omega arith)).1 (rw (pow-suc 256 k) at h)) in
    omega arith
