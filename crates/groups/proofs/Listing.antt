-- The loop that lists the set places of a line.
use mathlib.Core.Path.{◌≡◌, refl, sym, ap, ◌∙◌}
use mathlib.Core.Bool.{true, false}
use mathlib.Core.List.{List, [], ◌∷◌, ◌++◌, append-nil, append_assoc}
use Prim.Native.Nat.{ℕ, zero, suc, ◌+◌, ◌-◌, ◌/◌, ◌%◌, ◌≤◌, ◌<◌}
use native.Mathlib.Numerals.{add-one}
use native.Mathlib.Omega.{arith}
use lib.ListN.{length, drop, get_or, length-append, drop_of_length-le}
use lib.Seq.{drop-cons}
use Rattle.gf2.specs.Word.{Word}
use Rattle.gf2.specs.Check.{bit}
use Rattle.gf2.proofs.Hamming.{bit-zero}
use Rattle.linecode.specs.Places.{places}
use Rattle.promises.proofs.LineLayout.{layout}
use Rattle.scheme.specs.Visit.{set_places}

-- of the first i places of a line's 553 those that are set are found, and no more than so many
pub record Listing (w : Word) (most : ℕ) (found : List ℕ) (i : ℕ) : Type 0 where
  pub long : length w ≡ 553
  pub far : i ≤ 553
  pub few : length found ≤ most
  pub total : set_places 0 w ≡ found ++ set_places i (drop i w)

pub listing_start : (w : Word) (most : ℕ) → length w ≡ 553 → Listing w most [] 0
listing_start w most e = record { long = e; far = omega arith; few = omega arith; total = refl }

module _ (w : Word) (i : ℕ) (inside : i < length w) where
  pub next-set : get_or w i false ≡ true → set_places i (drop i w) ≡ i ∷ set_places (i + 1) (drop (i + 1) w)
  next-set e = rw (drop-cons w i false inside, e, add-one i)

  pub next-clear : get_or w i false ≡ false → set_places i (drop i w) ≡ set_places (i + 1) (drop (i + 1) w)
  next-clear e = rw (drop-cons w i false inside, e, add-one i)

-- places that are not set are passed over
pub next-past : (w : Word) (i r : ℕ) → i ≤ r → r ≤ length w → ((k : ℕ) → i ≤ k → k < r → get_or w k false ≡ false)
    → set_places i (drop i w) ≡ set_places r (drop r w)
next-past w i r l h f = go (r - i) i (omega arith) f
  where
    go : (m j : ℕ) → j + m ≡ r → ((k : ℕ) → j ≤ k → k < r → get_or w k false ≡ false) → set_places j (drop j w) ≡ set_places r (drop r w)
    go zero j p q = let last : j ≡ r = omega arith in ap (λ (n : ℕ). set_places n (drop n w)) last
    go (suc m) j p q =
        next-clear w j (omega arith) (q j (omega arith) (omega arith))
        ∙ go m (j + 1) (omega arith) (λ k x y. q k (omega arith) y)

module _ (w : Word) (most : ℕ) (found : List ℕ) (i : ℕ) (l : Listing w most found i) where
  -- place i, and those passed over after it
  module _ (more : i < 553) (r : ℕ) (after : (i < r) × (r ≤ 553) × ((k : ℕ) → i < k → k < r → get_or w k false ≡ false)) where
    past : set_places (i + 1) (drop (i + 1) w) ≡ set_places r (drop r w)
    past = next-past w (i + 1) r (omega arith) (omega (arith, l.long)) (λ k a b. after.2 k (omega arith) b)

    pub listing-clear : get_or w i false ≡ false → Listing w most found r
    listing-clear e =
        record {
          long = l.long;
          far = after.1;
          few = l.few;
          total = l.total ∙ ap (λ (p : List ℕ). found ++ p) (next-clear w i (omega (arith, l.long)) e ∙ past);
        }

    pub listing-set : get_or w i false ≡ true → length found < most → Listing w most (found ++ i ∷ []) r
    listing-set e h =
        record {
          long = l.long;
          far = after.1;
          few = omega (arith, length-append found (i ∷ []));
          total =
              l.total
              ∙ ap (λ (p : List ℕ). found ++ p) (next-set w i (omega (arith, l.long)) e ∙ ap (λ (p : List ℕ). i ∷ p) past)
              ∙ sym (append_assoc found (i ∷ []) (set_places r (drop r w)));
        }

  -- one more than there may be
  pub listing_full : i < 553 → get_or w i false ≡ true → length found ≡ most → most < length (set_places 0 w)
  listing_full more e h =
      omega (
        arith,
        ap length (l.total ∙ ap (λ (p : List ℕ). found ++ p) (next-set w i (omega (arith, l.long)) e)),
        length-append found (i ∷ set_places (i + 1) (drop (i + 1) w)),
      )

  pub listing-end : 553 ≤ i → (found ≡ set_places 0 w) × (length found ≤ most)
  listing-end h =
      (sym (l.total ∙ ap (λ (p : Word). found ++ set_places i p) (drop_of_length-le w (omega (arith, l.long))) ∙ append-nil found), l.few)

-- a byte of zeros has no set place
pub byte_past : (line : List ℕ) → length line ≡ 70 → (i : ℕ) → i < 536 → i % 8 ≡ 0 → get_or line (i / 8) 0 ≡ 0
    → (k : ℕ) → i < k → k < i + 8 → get_or (places line) k false ≡ false
byte_past line e i h m z k a b =
    let low : k < 543 = omega arith in
    let same : k / 8 ≡ i / 8 = omega arith in
    layout.bits line e k low
    ∙ ap (bit (k % 8)) (ap (λ (x : ℕ). get_or line x 0) same ∙ z)
    ∙ bit-zero (k % 8)
