-- What opening a file and writing a header answer: request Q-2's 9 is not among it.
use mathlib.Core.Path.{◌≡◌, refl}
use mathlib.Core.List.{List, [], ◌∷◌}
use Prim.Native.Nat.{ℕ}
use native.Mathlib.Omega.{arith}
use lib.Dec.{eqb, leb}
use lib.ListN.{length}
use Rattle.scheme.specs.Demand3.{◌∈◌}
use Rattle.rectangle.specs.Refusals.{sides_fit}
use Rattle.rectangle.proofs.Tests.{refusal-in, not-among, either_way}
use Rattle.storefile.specs.Header.{HeaderWritten, header_bytes, header_refusal, write_header}
use Rattle.storefile.specs.Opening.{rows_in, columns_in, sides_within, contents_fit, open_refusal, opened, Opened}
use Rattle.storefile.specs.Promises.{NineNotGiven}

abbrev pub open_answers : List ℕ
open_answers = 0 ∷ 1 ∷ 2 ∷ 3 ∷ 4 ∷ []

pub opening-answers : (limit : ℕ) (file : List ℕ) → open_refusal limit file ∈ open_answers
unfolding open_refusal
opening-answers limit file =
    refusal-in
    ((leb header_bytes (length file), 1)
    ∷ (sides_fit (rows_in file) (columns_in file), 2)
    ∷ (sides_within limit (rows_in file) (columns_in file), 3)
    ∷ (contents_fit file (rows_in file) (columns_in file), 4)
    ∷ [])

header-refusal : (rows columns : ℕ) (out : List ℕ) → header_refusal rows columns out ≡ 9 → ⊥
unfolding header_refusal
header-refusal rows columns out =
    not-among 9 (0 ∷ 2 ∷ 7 ∷ []) refl (refusal-in ((sides_fit rows columns, 2) ∷ (eqb (length out) header_bytes, 7) ∷ []))

pub nine-not-given : NineNotGiven
unfolding opened write_header
nine-not-given =
    record {
      opening = λ limit file.
          either_way (λ (o : Opened). o.answer ≡ 9 → ⊥) (eqb (open_refusal limit file) 0) _ _ (λ (e : ◌≡◌ {A = ℕ} 0 9). omega arith)
          (not-among 9 open_answers refl (opening-answers limit file));
      header = λ rows columns out.
          either_way (λ (w : HeaderWritten). w.answer ≡ 9 → ⊥) (eqb (header_refusal rows columns out) 0) _ _
          (λ (e : ◌≡◌ {A = ℕ} 0 9). omega arith) (header-refusal rows columns out);
    }
