-- The loops over a line's four blocks, and over the lines of a piece.
use mathlib.Core.Path.{◌≡◌, refl, sym, ap, ◌∙◌, subst}
use mathlib.Core.List.{List}
use Prim.Native.Nat.{ℕ, ◌+◌, ◌-◌, ◌*◌, ◌<◌}
use native.Mathlib.Nat.{not-suc-le-zero}
use native.Mathlib.Omega.{arith}
use native.Mathlib.Decide.{dec_lt}
use lib.ListN.{length, take, drop, get_or, set, replicate, length-set}
use lib.Seq.{get_or-set_same, get_or-set_other}
use Rattle.linecode.specs.Places.{places}
use Rattle.sweep.specs.Sums.{Summed, line_at, both_sums}

-- the first k blocks are summed
pub record Blocks (line sums : List ℕ) (k : ℕ) : Type 0 where
  pub room : length sums ≡ 4
  pub each : (j : ℕ) → j < k → Summed (take 16 (drop (16 * j) line)) (get_or sums j 0)

pub blocks_start : (line sums : List ℕ) → length sums ≡ 4 → Blocks line sums 0
blocks_start line sums h = record { room = h; each = λ j i. absurd (not-suc-le-zero i) }

-- a list with one more element right
pub each_set : (P : ℕ → ℕ → Type 0) (xs : List ℕ) (k v : ℕ) → k < length xs → ((j : ℕ) → j < k → P j (get_or xs j 0)) → P k v
    → (j : ℕ) → j < k + 1 → P j (get_or (set xs k v) j 0)
each_set P xs k v room before here j h = at (dec_lt j k)
  where
    at : Dec (j < k) → P j (get_or (set xs k v) j 0)
    at (yes l) = subst (P j) (sym (get_or-set_other xs k j v 0 (λ (e : j ≡ k). omega arith))) (before j l)
    at (no d) =
        let e : k ≡ j = omega arith in
        subst (λ (j : ℕ). P j (get_or (set xs k v) j 0)) e (subst (P k) (sym (get_or-set_same xs k v 0 room)) here)

pub blocks-next : (line sums : List ℕ) (k n : ℕ) → Blocks line sums k → k < 4
    → Summed (take 16 (drop (16 * k) line)) n → Blocks line (set sums k n) (k + 1)
blocks-next line sums k n b h s =
    record {
      room = length-set sums k n ∙ b.room;
      each = each_set (λ j m. Summed (take 16 (drop (16 * j) line)) m) sums k n (omega (arith, b.room)) b.each s;
    }

-- ---- the loop over the lines of a piece: the first i are summed
pub record Lines (buffer sums : List ℕ) (n i : ℕ) : Type 0 where
  pub room : length sums ≡ 8
  pub each : (j : ℕ) → j < i → get_or sums j 0 ≡ both_sums (places (line_at buffer (n + j)))

pub lines_start : (buffer : List ℕ) (n : ℕ) → Lines buffer (replicate 8 0) n 0
lines_start buffer n = record { room = refl; each = λ j h. absurd (not-suc-le-zero h) }

-- the part of a buffer that is line k
part-is : (buffer : List ℕ) (k : ℕ) → take (k * 70 + 70 - k * 70) (drop (k * 70) buffer) ≡ line_at buffer k
part-is buffer k = ap (λ (m : ℕ). take m (drop (k * 70) buffer)) (size (k * 70))
  where
    size : (at : ℕ) → at + 70 - at ≡ 70
    size at = omega arith

pub lines_next : (buffer sums : List ℕ) (n i s : ℕ) → Lines buffer sums n i → i < 8
    → s ≡ both_sums (places (take ((n + i) * 70 + 70 - (n + i) * 70) (drop ((n + i) * 70) buffer))) → Lines buffer (set sums i s) n (i + 1)
lines_next buffer sums n i s l h e =
    record {
      room = length-set sums i s ∙ l.room;
      each = each_set (λ j m. m ≡ both_sums (places (line_at buffer (n + j)))) sums i s (omega (arith, l.room)) l.each
          (e ∙ ap (λ (b : List ℕ). both_sums (places b)) (part-is buffer (n + i)));
    }
