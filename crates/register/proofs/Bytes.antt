-- Bytes: what the language tells of an array of them.
use mathlib.Core.Path.{◌≡◌}
use mathlib.Core.List.{List, [], ◌∷◌}
use Prim.Native.Nat.{ℕ, zero, suc, ◌<◌}
use native.Mathlib.Omega.{arith}
use lib.ListN.{length, get_or}
use mir.Syntax.{w8}
use mir.Val.{Val}
use denote.Laws.{Is}
use denote.Plain.{UInt}
use denote.Array.{Array, each}
use denote.Shadow.{shadow}

-- each number is a byte
abbrev pub Bytes : List ℕ → Type 0
Bytes [] = Unit {0}
Bytes (b ∷ bs) = (b < 256) × Bytes bs

bytes-each : (xs : List ℕ) (us : List Val) → shadow (each ℕ (UInt w8).own_val xs us) → Bytes xs
bytes-each [] us p = tt
bytes-each (x ∷ xs) [] p = absurd p
bytes-each (x ∷ xs) (u ∷ us) p = (p.0.1, bytes-each xs us p.1)

-- what owning an array of n bytes tells
pub array-length : (n : ℕ) (xs : List ℕ) (vs : List Val) → Is (Array (UInt w8) n) xs vs → length xs ≡ n
array-length n xs vs p = p.1.0.1

pub array-bytes : (n : ℕ) (xs : List ℕ) (vs : List Val) → Is (Array (UInt w8) n) xs vs → Bytes xs
array-bytes n xs vs p = bytes-each xs p.0 p.1.1

pub byte_at : (l : List ℕ) (i : ℕ) → Bytes l → get_or l i 0 < 256
byte_at [] i p = omega arith
byte_at (b ∷ l) zero p = p.0
byte_at (b ∷ l) (suc i) p = byte_at l i p.1

pub array-byte : (n : ℕ) (xs : List ℕ) (vs : List Val) → Is (Array (UInt w8) n) xs vs → (i : ℕ) → get_or xs i 0 < 256
array-byte n xs vs p i = byte_at xs i (array-bytes n xs vs p)
