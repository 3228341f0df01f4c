-- What both sums of a line tell, by whether their number is below 65536.
use mathlib.Core.Path.{◌≡◌, refl, sym, ap, ap₂, ◌∙◌}
use mathlib.Core.Bool.{Bool, true, false}
use mathlib.Core.List.{List, [], ◌∷◌}
use Prim.Native.Nat.{ℕ, ◌+◌, ◌-◌, ◌*◌, ◌/◌, ◌%◌, ◌≤◌, ◌<◌}
use native.Mathlib.Omega.{arith}
use borrow.Author.Tests.{eq-eqb}
use lib.ListN.{length, get_or, set}
use lib.Seq.{sets, set-get_or}
use Rattle.gf2.specs.Word.{Word, number}
use Rattle.gf2.specs.Check.{column_sum}
use Rattle.linecode.specs.Places.{places}
use Rattle.linecode.specs.Code.{positions, protected, stored_hamming}
use Rattle.linecode.specs.Entry.{reading}
use Rattle.linecode.proofs.Bytes.{Bytes, byte_at}
use Rattle.linecode.proofs.Line.{length-places}
use Rattle.linecode.proofs.Positions.{position-sum-lt}
use Rattle.linecode.proofs.Stores.{stored-sum, stored_hamming-number}
use Rattle.linecode.proofs.ReadAlone.{mark-when}
use Rattle.paper_order.specs.PaperOrder.{crc_matches}
use Rattle.paper_order.proofs.InOrder.{reads-matched}
use Rattle.sweep.specs.Sums.{both_sums}
use Rattle.sweep.proofs.BothSums.{sums-when}

module _ (w : Word) (s : ℕ) (e : s ≡ both_sums w) where
  by-test : (b : Bool) → crc_matches w ≡ b
      → (s < 65536 → (crc_matches w ≡ true) × (s ≡ column_sum positions (protected w)))
      × (65536 ≤ s → (crc_matches w ≡ false) × (s - 65536 ≡ column_sum positions (protected w)))
  by-test true q =
      let p = column_sum positions (protected w) in
      let whole = e ∙ sums-when w true q in
      let small = position-sum-lt (protected w) in (
        λ h. (q, omega arith),
        λ h. let z : ⊥ = omega arith in absurd z,
      )
  by-test false q =
      let whole = e ∙ sums-when w false q in (
        λ h. let z : ⊥ = omega arith in absurd z,
        λ h. (q, omega arith),
      )

  -- its lower half is the sum of positions either way
  pub lower-half : s % 65536 ≡ column_sum positions (protected w)
  lower-half = go (crc_matches w) refl
    where
      go : (b : Bool) → crc_matches w ≡ b → s % 65536 ≡ column_sum positions (protected w)
      go true q =
          let whole = e ∙ sums-when w true q in
          let small = position-sum-lt (protected w) in
          omega arith
      go false q =
          let whole = e ∙ sums-when w false q in
          let small = position-sum-lt (protected w) in
          omega arith

  pub below : s < 65536 → (crc_matches w ≡ true) × (s ≡ column_sum positions (protected w))
  below = (by-test (crc_matches w) refl).0

  pub above : 65536 ≤ s → (crc_matches w ≡ false) × (s - 65536 ≡ column_sum positions (protected w))
  above = (by-test (crc_matches w) refl).1

-- a line whose number is that of its last two bytes, and whose spare bit is 0, reads as it stands
pub untouched : (l : List ℕ) (s : ℕ) → length l ≡ 70 → Bytes l → s ≡ both_sums (places l)
    → get_or l 67 0 < 128 → s ≡ get_or l 68 0 + 256 * get_or l 69 0 → reading l ≡ record { line = l; mark = 0 }
untouched l s whole bytes e h q =
    let small : s < 65536 = omega (arith, byte_at l 68 bytes, byte_at l 69 bytes) in
    let b = below (places l) s e small in
    let low : s % 256 ≡ get_or l 68 0 = omega (arith, byte_at l 68 bytes) in
    let high : s / 256 ≡ get_or l 69 0 = omega (arith, byte_at l 68 bytes) in
    let kept : get_or l 67 0 % 128 ≡ get_or l 67 0 = omega arith in
    let held = stored_hamming-number l whole bytes in
    let right : column_sum positions (protected (places l)) ≡ number (stored_hamming (places l)) =
    omega (arith, b.1, position-sum-lt (protected (places l))) in
    sym (reads-matched l whole b.0 0 (mark-when (places l) (length-places l whole) true (eq-eqb _ _ right)))
    ∙ ap (λ (x : List ℕ). record { line = x; mark = 0 })
    (sym (stored-sum l whole bytes s b.1)
    ∙ ap (λ (x : ℕ). sets l 67 (x ∷ s % 256 ∷ s / 256 ∷ [])) kept
    ∙ ap₂ (λ (y z : ℕ). sets l 67 (get_or l 67 0 ∷ y ∷ z ∷ [])) low high
    ∙ same)
  where
    same : sets l 67 (get_or l 67 0 ∷ get_or l 68 0 ∷ get_or l 69 0 ∷ []) ≡ l
    same =
        ap (λ (t : List ℕ). set (set t 68 (get_or l 68 0)) 69 (get_or l 69 0)) (set-get_or l 67 0)
        ∙ ap (λ (t : List ℕ). set t 69 (get_or l 69 0)) (set-get_or l 68 0)
        ∙ set-get_or l 69 0
