-- The tables' rule, by the same computed test as the lent table's.
use mathlib.Core.Path.{◌≡◌, sym, ap, ap₂, ◌∙◌, subst}
use mathlib.Core.Bool.{Bool, true, ◌&&◌}
use mathlib.Core.List.{List, [], ◌∷◌, ◌++◌, map}
use Prim.Native.Nat.{ℕ, zero, suc, ◌+◌, ◌*◌, ◌/◌, ◌%◌, ◌^◌, ◌<◌}
use native.Mathlib.Nat.{not-suc-le-zero, le_of_suc-le-suc, zero-add}
use native.Mathlib.Omega.{arith}
use lib.Dec.{T, eqb, eqb→eq}
use lib.ListN.{length, get_or, length-map, get_or-append}
use lib.Seq.{get_or-append-add}
use Rattle.gf2.specs.Generator.{generator, generator_polynomial}
use Rattle.register.specs.Slices.{slice_table}
use Rattle.register.proofs.TableRule.{and_parts, get_d_map, slice-table}
use Rattle.slice_table.specs.declared.TheConstants.{PAIRS}

abbrev joined : List (List ℕ) → List ℕ
joined [] = []
joined (t ∷ ts) = t ++ joined ts

abbrev wide : List (List ℕ) → Bool
wide [] = true
wide (t ∷ ts) = eqb (length t) 256 && wide ts

in-joined : (ts : List (List ℕ)) (k b : ℕ) → T (wide ts) → k < length ts → b < 256
    → get_or (joined ts) (256 * k + b) 0 ≡ get_or (get_or ts k []) b 0
in-joined [] k b w h j = absurd (not-suc-le-zero h)
in-joined (t ∷ ts) zero b w h j =
    ap (λ (i : ℕ). get_or (t ++ joined ts) i 0) (zero-add b)
    ∙ get_or-append t (joined ts) 0 b
    (subst (λ (n : ℕ). b < n) (sym (eqb→eq (length t) 256 (and_parts (eqb (length t) 256) (wide ts) w).0)) j)
in-joined (t ∷ ts) (suc k) b w h j =
    ap (λ (i : ℕ). get_or (t ++ joined ts) i 0) (block k b ∙ ap (λ (n : ℕ). n + (256 * k + b)) (sym (eqb→eq (length t) 256 p.0)))
    ∙ get_or-append-add t (joined ts) (256 * k + b) 0
    ∙ in-joined ts k b p.1 (le_of_suc-le-suc h) j
  where
    p : T (eqb (length t) 256) × T (wide ts)
    p = and_parts (eqb (length t) 256) (wide ts) w

    block : (k b : ℕ) → 256 * suc k + b ≡ 256 + (256 * k + b)
    block k b = omega arith

-- the sixteen tables, from the eight
abbrev parted : List ℕ → List ℕ
parted ns = map (λ n. n % 2 ^ 32) ns ++ map (λ n. n / 2 ^ 32) ns

parted-rule : parted (joined PAIRS) ≡ slice_table
unfolding generator generator_polynomial
parted-rule = slice-table (parted (joined PAIRS)) tt

length-joined : length (joined PAIRS) ≡ 2048
length-joined = eqb→eq (length (joined PAIRS)) 2048 tt

module _ (ns : List ℕ) (i : ℕ) (h : i < length ns) where
  part-below : get_or ns i 0 % 2 ^ 32 ≡ get_or (parted ns) i 0
  part-below =
      sym (get_or-append (map (λ n. n % 2 ^ 32) ns) (map (λ n. n / 2 ^ 32) ns) 0 i (subst (λ (k : ℕ). i < k) (sym (length-map ns (λ n. n % 2 ^ 32))) h)
      ∙ get_d_map (λ n. n % 2 ^ 32) ns i h)

  part-above : get_or ns i 0 / 2 ^ 32 ≡ get_or (parted ns) (length ns + i) 0
  part-above =
      sym (ap (λ (k : ℕ). get_or (parted ns) (k + i) 0) (sym (length-map ns (λ n. n % 2 ^ 32)))
      ∙ get_or-append-add (map (λ n. n % 2 ^ 32) ns) (map (λ n. n / 2 ^ 32) ns) i 0
      ∙ get_d_map (λ n. n / 2 ^ 32) ns i h)

module _ (k b : ℕ) (h : k < 8) (j : b < 256) where
  looked-at : get_or (get_or PAIRS k []) b 0 ≡ get_or (joined PAIRS) (256 * k + b) 0
  looked-at = sym (in-joined PAIRS k b tt h j)

  room : 256 * k + b < length (joined PAIRS)
  room = subst (λ (n : ℕ). 256 * k + b < n) (sym length-joined) (omega arith)

  pub near-entry : get_or (get_or PAIRS k []) b 0 % 2 ^ 32 ≡ get_or slice_table (256 * k + b) 0
  near-entry =
      ap (λ (n : ℕ). n % 2 ^ 32) looked-at
      ∙ part-below (joined PAIRS) (256 * k + b) room
      ∙ ap (λ (t : List ℕ). get_or t (256 * k + b) 0) parted-rule

  pub far-entry : get_or (get_or PAIRS k []) b 0 / 2 ^ 32 ≡ get_or slice_table (256 * (8 + k) + b) 0
  far-entry =
      ap (λ (n : ℕ). n / 2 ^ 32) looked-at
      ∙ part-above (joined PAIRS) (256 * k + b) room
      ∙ ap₂ (λ (t : List ℕ) (i : ℕ). get_or t i 0) parted-rule (ap (λ (n : ℕ). n + (256 * k + b)) length-joined ∙ eight-tables k b)
    where
      eight-tables : (k b : ℕ) → 2048 + (256 * k + b) ≡ 256 * (8 + k) + b
      eight-tables k b = omega arith
