-- Copying the first bytes of a slice over zeros.
use mathlib.Core.Path.{◌≡◌, refl, sym, ap, ap₂, ◌∙◌}
use mathlib.Core.List.{List, ◌∷◌, ◌++◌, append-nil}
use Prim.Native.Nat.{ℕ, zero, suc, ◌+◌, ◌-◌, ◌≤◌, ◌<◌, min}
use native.Mathlib.Nat.{zero-add, suc-sub-suc, sub-zero}
use native.Mathlib.Numerals.{add-one}
use native.Mathlib.Omega.{arith}
use native.Mathlib.Decide.{dec_le}
use lib.ListN.{length, take, drop, get_or, set, replicate, length-append, length-take, length-replicate, drop_of_length-le}
use lib.Seq.{take_all, take-append-le, take-append-add, take-take, take_at, paste, paste-suc}
use Rattle.gf2.specs.Word.{Word}
use Rattle.linecode.specs.Places.{line_bytes, loaded, bits_of, places, line_of}
use Rattle.linecode.specs.Code.{data_of, codeword}
use Rattle.linecode.specs.Entry.{written}
use Rattle.linecode.proofs.Line.{bytes-is, data_of-line}

abbrev pub blank : List ℕ
blank = replicate 70 0

drop-replicate : (k n : ℕ) → drop {A = ℕ} k (replicate n 0) ≡ replicate (n - k) 0
drop-replicate zero n = ap (λ (m : ℕ). replicate {A = ℕ} m 0) (sym (sub-zero n))
drop-replicate (suc k) zero = ap (λ (m : ℕ). replicate {A = ℕ} m 0) (sym (none k))
  where
    none : (k : ℕ) → 0 - suc k ≡ 0
    none k = omega arith
drop-replicate (suc k) (suc n) = drop-replicate k n ∙ ap (λ (m : ℕ). replicate {A = ℕ} m 0) (sym (suc-sub-suc n k))

take-replicate : (k n : ℕ) → k ≤ n → take {A = ℕ} k (replicate n 0) ≡ replicate k 0
take-replicate zero n h = refl
take-replicate (suc k) zero h = let z : ⊥ = omega arith in absurd z
take-replicate (suc k) (suc n) h = ap (λ (l : List ℕ). 0 ∷ l) (take-replicate k n (omega arith))

-- a turn of the loop that copies some bytes over others
pub copy_step : (d s l : List ℕ) (i : ℕ) → i < length d → i < length s → l ≡ paste d 0 s i
    → set l i (get_or s i 0) ≡ paste d 0 s (i + 1)
copy_step d s l i h k e =
    ap₂ (λ (m : List ℕ) (j : ℕ). set m j (get_or s i 0)) e (sym (zero-add i))
    ∙ paste-suc d 0 s i 0 (omega arith) k
    ∙ ap (paste d 0 s) (sym (add-one i))

-- as many bytes over as many
pub copied-over : (d s l : List ℕ) (n i : ℕ) → length d ≡ n → length s ≡ n → i ≤ n → n ≤ i → l ≡ paste d 0 s i → l ≡ s
copied-over d s l n i e f h k q =
    q
    ∙ ap₂ ◌++◌ (take_all i s (omega arith)) (drop_of_length-le d {i = 0 + i} (omega arith))
    ∙ append-nil s

-- n is the slice's length or 70, whichever is less
pub copied : (s : List ℕ) (n : ℕ) → n ≡ min (length s) 70 → take n s ++ drop n blank ≡ loaded s
unfolding loaded
copied s n e = go (dec_le 70 (length s))
  where
    seventy : take line_bytes (s ++ replicate line_bytes 0) ≡ take 70 (s ++ blank)
    seventy = ap (λ (k : ℕ). take k (s ++ replicate k 0)) bytes-is

    go : Dec (70 ≤ length s) → take n s ++ drop n blank ≡ take line_bytes (s ++ replicate line_bytes 0)
    go (yes h) =
        let m : n ≡ 70 = omega arith in
        ap (λ (k : ℕ). take k s ++ drop k blank) m
        ∙ append-nil (take 70 s)
        ∙ sym (seventy ∙ take-append-le 70 s blank h)
    go (no h) =
        let m : n ≡ length s = omega arith in
        let k : 70 ≡ length s + (70 - length s) = omega arith in
        ap₂ ◌++◌ (take_all n s (omega arith)) (drop-replicate n 70 ∙ ap (λ (j : ℕ). replicate {A = ℕ} (70 - j) 0) m)
        ∙ sym (seventy ∙ ap (λ (j : ℕ). take j (s ++ blank)) k
        ∙ take-append-add s blank (70 - length s)
        ∙ ap (λ (l : List ℕ). s ++ l) (take-replicate (70 - length s) 70 (omega arith)))

-- the data bytes of what was loaded
pub take-loaded : (s l : List ℕ) → 64 ≤ length s → l ≡ loaded s → take 64 l ≡ take 64 s
unfolding loaded
take-loaded s l h q =
    ap (take 64) (q ∙ ap (λ (k : ℕ). take k (s ++ replicate k 0)) bytes-is)
    ∙ take-take 64 70 (s ++ blank) (omega arith)
    ∙ take-append-le 64 s blank h

-- the data of a line loaded from 64 bytes
pub data-loaded : (s l : List ℕ) → length s ≡ 64 → l ≡ loaded s → data_of (places l) ≡ bits_of s
unfolding loaded
data-loaded s l e q =
    data_of-line l (ap length q ∙ length-take line_bytes (s ++ replicate line_bytes 0) ∙ long)
    ∙ ap bits_of (take-loaded s l (omega arith) q ∙ take_all 64 s (omega arith))
  where
    long : min line_bytes (length (s ++ replicate line_bytes 0)) ≡ 70
    long = omega (arith, length-append s (replicate line_bytes 0), length-replicate {A = ℕ} line_bytes 0, bytes-is)

-- what is written from 64 bytes as they were loaded
pub written-loaded : (s l x : List ℕ) → length s ≡ 64 → l ≡ loaded s → x ≡ line_of (codeword (data_of (places l))) → x ≡ written s
unfolding written
written-loaded s l x e q f = f ∙ ap (λ (w : Word). line_of (codeword w)) (data-loaded s l e q)

pub loaded-whole : (s : List ℕ) → length s ≡ 70 → loaded s ≡ s
unfolding loaded
loaded-whole s e = take_at s (replicate line_bytes 0) line_bytes (e ∙ sym bytes-is)
