-- What is promised of one line at the C interface beyond the contracts; the proofs stand in proofs/.
use Rattle.std.specs.Prelude.{◌≡◌, List, ℕ}
use Rattle.capi.specs.Single.{write_line, read_line}

-- ---- request Q-2: "9 is no longer given."
pub record NineNotGiven : Type 0 where
  pub write : (payload line : List ℕ) → (write_line payload line).answer ≡ 9 → ⊥
  pub read : (line out : List ℕ) → (read_line line out).answer ≡ 9 → ⊥
