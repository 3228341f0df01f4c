-- Summing a group: its lines added one after the other to its parity line.
use mathlib.Core.Path.{◌≡◌, refl, sym, ap, ap₂, ◌∙◌}
use mathlib.Core.List.{List}
use Prim.Native.Nat.{ℕ, ◌+◌, ◌*◌, ◌≤◌}
use native.Mathlib.Numerals.{add-one}
use native.Mathlib.Omega.{arith}
use lib.ListN.{length}
use Rattle.gf2.specs.Word.{Word, ◌⊕◌}
use Rattle.gf2.proofs.Xor.{xor_comm, xor_assoc}
use Rattle.linecode.specs.Places.{places, xor_bytes}
use Rattle.linecode.proofs.Line.{places-xor}
use Rattle.linecode.proofs.Bytes.{length-xor_bytes}
use Rattle.scheme.specs.Visit.{sum}
use Rattle.rectangle.specs.Store.{bytes_at, places_at, stride}
use Rattle.rectangle.proofs.Stride.{sum-snoc}

-- after i lines the sum has the places of these and of the parity line
pub record Summing (out parity : List ℕ) (first step count : ℕ) (acc : List ℕ) (i : ℕ) : Type 0 where
  pub long : length acc ≡ 70
  pub total : places acc ≡ sum (places_at out) (stride first step i) ⊕ places parity

pub summing_start : (out parity : List ℕ) (first step count : ℕ) → length parity ≡ 70
    → Summing out parity first step count parity 0
summing_start out parity first step count e = record { long = e; total = refl }

-- a line added last is added before the parity line
last-first : (a p l : Word) → (a ⊕ p) ⊕ l ≡ (a ⊕ l) ⊕ p
last-first a p l = xor_assoc a p l ∙ ap (λ (w : Word). a ⊕ w) (xor_comm p l) ∙ sym (xor_assoc a l p)

module _ (out parity : List ℕ) (first step count : ℕ) (acc : List ℕ) (i : ℕ) (s : Summing out parity first step count acc i) where
  pub summing-next : (line next : List ℕ) (n : ℕ) → n ≡ first + i * step → length line ≡ 70 → line ≡ bytes_at out n → next ≡ xor_bytes acc line
      → Summing out parity first step count next (i + 1)
  unfolding places_at
  summing-next line next n here full e q =
      record {
        long = ap length q ∙ length-xor_bytes acc line (s.long ∙ sym full) ∙ s.long;
        total =
            ap places q
            ∙ places-xor acc line s.long full
            ∙ ap₂ ◌⊕◌ s.total (ap places (e ∙ ap (bytes_at out) here))
            ∙ last-first (sum (places_at out) (stride first step i)) (places parity) (places_at out (first + i * step))
            ∙ ap (λ (w : Word). w ⊕ places parity)
            (sym (ap (λ (k : ℕ). sum (places_at out) (stride first step k)) (add-one i) ∙ sum-snoc (places_at out) first step i));
      }

  pub summing-end : i ≤ count → count ≤ i → places acc ≡ sum (places_at out) (stride first step count) ⊕ places parity
  summing-end few h =
      let all : i ≡ count = omega arith in
      s.total ∙ ap (λ (k : ℕ). sum (places_at out) (stride first step k) ⊕ places parity) all
