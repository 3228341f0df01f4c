-- A part at the start of a buffer, and how many bytes are needed at the most.
use Rattle.std.proofs.Common.{◌≡◌, ℕ, ◌≤◌, List, length, take, sym, arith}
use Rattle.std.proofs.lemmas.List.{length-take-le}
use Rattle.storecheck.specs.Counts.{IsPrefixLen}
use Rattle.storefile.specs.Opening.{bytes_needed}
use Rattle.storefile.proofs.Needed.{needed-least, needed-most}

pub prefix : (n : ℕ) (bytes : List ℕ) → n ≤ length bytes → n ≡ length (take n bytes)
prefix n bytes h = sym (length-take-le n bytes h)

pub counts : (n : ℕ) (bytes : List ℕ) → n ≤ length bytes → IsPrefixLen n bytes
counts n bytes h = (h, prefix n bytes h)

pub needed-range : (n : ℕ) (start : List ℕ) → n ≡ bytes_needed 16 start → (28 ≤ n) × (n ≤ 20189)
needed-range n start e = (omega (arith, e, needed-least 16 start), omega (arith, e, needed-most start))
