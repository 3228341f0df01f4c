-- Two registers in one number, as the tables that are compiled in hold them.
use Rattle.std.specs.Prelude.{◌≡◌, List, ℕ, ◌/◌, ◌%◌, replicate}
use Rattle.register.specs.Slices.{after}

-- the register after some bytes, and in the upper half the register when eight more have followed that are 0
pub record Paired (n : ℕ) (bs : List ℕ) : Type 0 where
  pub near : n % 4294967296 ≡ after 0 bs
  pub far : n / 4294967296 ≡ after (after 0 bs) (replicate 8 0)
