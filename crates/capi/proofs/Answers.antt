-- Request Q-2: writing a line and reading one alone never give 9.
use mathlib.Core.Path.{◌≡◌, refl}
use mathlib.Core.List.{List, [], ◌∷◌}
use Prim.Native.Nat.{ℕ}
use native.Mathlib.Omega.{arith}
use lib.Dec.{eqb}
use lib.ListN.{length}
use Rattle.linecode.specs.Places.{data_bytes, line_bytes}
use Rattle.linecode.specs.Entry.{reading}
use Rattle.rectangle.proofs.Tests.{refusal-in, not-among, either_way}
use Rattle.capi.specs.Single.{Written, Answered, write_refusal, read_refusal, write_line, read_line}
use Rattle.capi.specs.Promises.{NineNotGiven}

write-refusal : (payload line : List ℕ) → write_refusal payload line ≡ 9 → ⊥
unfolding write_refusal
write-refusal payload line =
    not-among 9 (0 ∷ 7 ∷ 7 ∷ []) refl (refusal-in ((eqb (length payload) data_bytes, 7) ∷ (eqb (length line) line_bytes, 7) ∷ []))

read-refusal : (line out : List ℕ) → read_refusal line out ≡ 9 → ⊥
unfolding read_refusal
read-refusal line out =
    not-among 9 (0 ∷ 5 ∷ 7 ∷ []) refl (refusal-in ((eqb (length line) line_bytes, 5) ∷ (eqb (length out) line_bytes, 7) ∷ []))

pub nine-not-given : NineNotGiven
unfolding write_line read_line
nine-not-given =
    record {
      write = λ payload line.
          either_way (λ (w : Written). w.answer ≡ 9 → ⊥) (eqb (write_refusal payload line) 0) _ _ (λ (e : ◌≡◌ {A = ℕ} 0 9). omega arith)
          (write-refusal payload line);
      read = λ line out.
          either_way (λ (r : Answered). r.answer ≡ 9 → ⊥) (eqb (read_refusal line out) 0) _ _
          (either_way (λ (a : ℕ). a ≡ 9 → ⊥) (eqb (reading line).mark 4) 10 0 (λ (e : ◌≡◌ {A = ℕ} 10 9). omega arith)
          (λ (e : ◌≡◌ {A = ℕ} 0 9). omega arith))
          (read-refusal line out);
    }
