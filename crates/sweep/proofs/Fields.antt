-- The sum of positions, from the fields of a line's blocks.
use mathlib.Core.Path.{◌≡◌, refl, sym, ap, ap₂, ◌∙◌, subst}
use mathlib.Core.Bool.{false}
use mathlib.Core.List.{List, [], ◌∷◌, ◌++◌, map, append_assoc}
use Prim.Native.Nat.{ℕ, suc, ◌+◌, ◌*◌, ◌/◌, ◌%◌, ◌^◌, ◌≤◌, ◌<◌}
use native.Mathlib.Omega.{arith}
use lib.Bits.{bit_and, bit_xor}
use lib.Dec.{T, eqb}
use lib.ListN.{length, take, drop, get_or, length-map, length-drop}
use lib.Seq.{take-add, drop-drop, length-take-le}
use Rattle.gf2.specs.Word.{Word, digits, number}
use Rattle.gf2.specs.Check.{column_sum}
use Rattle.gf2.proofs.Digits.{digits_number, number_lt}
use Rattle.gf2.proofs.Hamming.{column_sum-append}
use Rattle.register.specs.Slices.{up_from}
use Rattle.register.proofs.Additive.{Additive, add-shr}
use Rattle.register.proofs.TableRule.{alike, alike-sound, length-up_from}
use Rattle.linecode.specs.Places.{hamming_places, bits_of, places}
use Rattle.linecode.specs.Code.{positions, hamming_columns, protected, stored_crc}
use Rattle.linecode.proofs.Bytes.{Bytes, length-bits_of, bits_of-append}
use Rattle.linecode.proofs.Line.{data_of-line}
use Rattle.linecode.proofs.Stores.{length-stored_crc, protected-parts, stored_crc-number}
use Rattle.line_table.specs.Table.{field, fields}
use Rattle.std.specs.Int.{w32, from_le_bytes}
use Rattle.register.specs.Slices.{after}
use Rattle.linecode.proofs.Line.{length-places}
use Rattle.linecode.proofs.CrcRegister.{crc-after}
use Rattle.paper_order.specs.PaperOrder.{crc_matches}
use Rattle.paper_order.proofs.Matching.{matches-numbers}
use Rattle.sweep.specs.Sums.{Summed, at_first, at_second, at_third, at_fourth, at_last}
use Rattle.sweep.proofs.Columns.{add-and, add-xor, additive-sum, sum_first}
use Rattle.line_table.proofs.TableRule.{field_numbers, fields-are}

-- ---- each block's positions come out of its fields, by one computed test
abbrev from_fields : List ℕ → List ℕ
from_fields fs =
    map at_first fs ++ (map at_second fs ++ (map at_third fs ++ (map at_fourth fs ++ take 31 (drop 1 (map at_last fs)))))

positions-test : T (alike positions (from_fields field_numbers))
unfolding field_numbers positions hamming_columns hamming_places
positions-test = tt

positions-from : positions ≡ from_fields fields
positions-from = alike-sound positions (from_fields field_numbers) positions-test ∙ ap from_fields (sym fields-are)

length_fields : length fields ≡ 128
unfolding fields
length_fields = length-map (up_from 0 128) field ∙ length-up_from 0 128

same : Additive (λ n. n)
same a b = refl

add-first : Additive at_first
add-first = add-and (λ n. n) 255 same

add-second : Additive at_second
add-second = add-and (λ n. n / 2 ^ 8) 511 (add-shr 8)

add-third : Additive at_third
add-third = add-and (λ n. n / 2 ^ 17) 511 (add-shr 17)

masked : (k m : ℕ) → Additive (λ n. bit_and (n / 2 ^ k) m)
masked k m = add-and (λ n. n / 2 ^ k) m (add-shr k)

add-fourth : Additive at_fourth
add-fourth =
    add-xor (λ x. bit_xor (bit_xor (bit_xor (at_third x) (bit_and (x / 2 ^ 18) 128)) (bit_and (x / 2 ^ 26) 15)) (bit_and (x / 2 ^ 22) 256)) (λ x. bit_and (x / 2 ^ 21) 512)
    (add-xor (λ x. bit_xor (bit_xor (at_third x) (bit_and (x / 2 ^ 18) 128)) (bit_and (x / 2 ^ 26) 15)) (λ x. bit_and (x / 2 ^ 22) 256)
    (add-xor (λ x. bit_xor (at_third x) (bit_and (x / 2 ^ 18) 128)) (λ x. bit_and (x / 2 ^ 26) 15)
    (add-xor at_third (λ x. bit_and (x / 2 ^ 18) 128) add-third (masked 18 128)) (masked 26 15)) (masked 22 256)) (masked 21 512)

add-last : Additive at_last
add-last = add-xor (λ x. bit_and (x / 2 ^ 17) 255) (λ x. bit_and (x / 2 ^ 16) 512) (masked 17 255) (masked 16 512)

-- ---- the CRC stands one place up
digits-double : (c : ℕ) → digits 32 (2 * c) ≡ false ∷ digits 31 c
digits-double c = ap₂ (λ (m n : ℕ). eqb m 1 ∷ digits 31 n) (even c) (half c)
  where
    even : (c : ℕ) → 2 * c % 2 ≡ 0
    even c = omega arith

    half : (c : ℕ) → 2 * c / 2 ≡ c
    half c = omega arith

sum-up : (cs : List ℕ) (w : Word) → column_sum (drop 1 cs) w ≡ column_sum cs (false ∷ w)
sum-up [] w = refl
sum-up (c ∷ cs) w = refl

module _ (l : List ℕ) (whole : length l ≡ 70) (bytes : Bytes l) where
  abbrev block_of : ℕ → List ℕ
  block_of i = take 16 (drop i l)

  long : (g : ℕ → ℕ) (i : ℕ) → i + 16 ≤ 70 → length (map g fields) ≡ length (bits_of (block_of i))
  long g i h =
      length-map fields g
      ∙ length_fields
      ∙ sym (length-bits_of (block_of i) ∙ ap (λ (n : ℕ). 8 * n) (length-take-le 16 (drop i l) (omega (arith, length-drop i l))))

  apart : (i m : ℕ) (c : Word)
      → bits_of (take (16 + m) (drop i l)) ++ c ≡ bits_of (block_of i) ++ (bits_of (take m (drop (i + 16) l)) ++ c)
  apart i m c =
      ap (λ (t : List ℕ). bits_of t ++ c) (take-add 16 m (drop i l))
      ∙ ap (λ (w : Word). w ++ c) (bits_of-append (block_of i) (take m (drop 16 (drop i l))))
      ∙ append_assoc (bits_of (block_of i)) (bits_of (take m (drop 16 (drop i l)))) c
      ∙ ap (λ (t : List ℕ). bits_of (block_of i) ++ (bits_of (take m t) ++ c)) (drop-drop 16 i l)

  protected-blocks : protected (places l)
      ≡ bits_of (block_of 0) ++ (bits_of (block_of 16) ++ (bits_of (block_of 32) ++ (bits_of (block_of 48) ++ stored_crc (places l))))
  protected-blocks =
      let c = stored_crc (places l) in
      protected-parts l whole bytes
      ∙ ap (λ (w : Word). w ++ c) (data_of-line l whole)
      ∙ apart 0 48 c
      ∙ ap (λ (w : Word). bits_of (block_of 0) ++ w)
      (apart 16 32 c ∙ ap (λ (w : Word). bits_of (block_of 16) ++ w) (apart 32 16 c))

  -- a block's part of the sum
  block-part : (g : ℕ → ℕ) → Additive g → (i x : ℕ) (cs : List ℕ) (w : Word) → i + 16 ≤ 70
      → x ≡ column_sum fields (bits_of (block_of i))
      → bit_xor (g x) (column_sum cs w) ≡ column_sum (map g fields ++ cs) (bits_of (block_of i) ++ w)
  block-part g l i x cs w h e =
      ap (λ (n : ℕ). bit_xor n (column_sum cs w)) (ap g e ∙ additive-sum g l fields (bits_of (block_of i)))
      ∙ sym (column_sum-append (map g fields) cs (bits_of (block_of i)) w (long g i h))

  crc-part : (c x : ℕ) → c ≡ number (stored_crc (places l)) → x ≡ column_sum fields (digits 32 (2 * c))
      → at_last x ≡ column_sum (take 31 (drop 1 (map at_last fields))) (stored_crc (places l))
  crc-part c x e f =
      ap at_last (f ∙ ap (column_sum fields) (digits-double c ∙ ap (λ (w : Word). false ∷ w) bits))
      ∙ additive-sum at_last add-last fields (false ∷ stored_crc (places l))
      ∙ sym (sum_first 31 (drop 1 (map at_last fields)) (stored_crc (places l)) (omega (arith, length-stored_crc l whole bytes))
      ∙ sum-up (map at_last fields) (stored_crc (places l)))
    where
      bits : digits 31 c ≡ stored_crc (places l)
      bits =
          ap₂ digits (sym (length-stored_crc l whole bytes)) e ∙ digits_number (stored_crc (places l))

  pub positions-sum : (x0 x1 x2 x3 x4 c : ℕ)
      → x0 ≡ column_sum fields (bits_of (block_of 0)) → x1 ≡ column_sum fields (bits_of (block_of 16))
      → x2 ≡ column_sum fields (bits_of (block_of 32)) → x3 ≡ column_sum fields (bits_of (block_of 48))
      → c ≡ number (stored_crc (places l)) → x4 ≡ column_sum fields (digits 32 (2 * c))
      → bit_xor (at_first x0) (bit_xor (at_second x1) (bit_xor (at_third x2) (bit_xor (at_fourth x3) (at_last x4))))
      ≡ column_sum positions (protected (places l))
  positions-sum x0 x1 x2 x3 x4 c e0 e1 e2 e3 e f =
      ap (bit_xor (at_first x0))
      (ap (bit_xor (at_second x1))
      (ap (bit_xor (at_third x2))
      (ap (bit_xor (at_fourth x3)) (crc-part c x4 e f)
      ∙ block-part at_fourth add-fourth 48 x3 _ _ (omega arith) e3)
      ∙ block-part at_third add-third 32 x2 _ _ (omega arith) e2)
      ∙ block-part at_second add-second 16 x1 _ _ (omega arith) e1)
      ∙ block-part at_first add-first 0 x0 _ _ (omega arith) e0
      ∙ ap₂ column_sum (sym positions-from) (sym protected-blocks)

  -- the data are the four blocks
  pub block-length : (i : ℕ) → i + 16 ≤ 70 → length (block_of i) ≡ 16
  block-length i h = length-take-le 16 (drop i l) (omega (arith, length-drop i l))

  pub data-blocks : ((block_of 0 ++ block_of 16) ++ block_of 32) ++ block_of 48 ≡ take 64 l
  data-blocks =
      sym (take-add 48 16 l
      ∙ ap (λ (t : List ℕ). t ++ block_of 48)
      (take-add 32 16 l ∙ ap (λ (t : List ℕ). t ++ block_of 32) (take-add 16 16 l)))

  pub stored-lt : (c : ℕ) → c ≡ number (stored_crc (places l)) → c < 2 ^ 31
  stored-lt c e =
      subst (λ (n : ℕ). n < 2 ^ 31) (sym e)
      (subst (λ (k : ℕ). number (stored_crc (places l)) < 2 ^ k) (length-stored_crc l whole bytes) (number_lt (stored_crc (places l))))

  pub stored-number : (r : ℕ) → r ≡ get_or l 64 0 + 256 * (get_or l 65 0 + 256 * (get_or l 66 0 + 256 * (get_or l 67 0 % 128)))
      → r ≡ number (stored_crc (places l))
  stored-number r e = e ∙ apart-bytes (get_or l 64 0) (get_or l 65 0) (get_or l 66 0) (get_or l 67 0 % 128) ∙ stored_crc-number l whole bytes
    where
      apart-bytes : (a b c d : ℕ) → a + 256 * (b + 256 * (c + 256 * d)) ≡ a + 256 * b + 65536 * c + 16777216 * d
      apart-bytes a b c d = omega arith

-- what a slice tells of its bytes
pub all-bytes : (l : List ℕ) → ((i : ℕ) → get_or l i 0 < 256) → Bytes l
all-bytes [] h = tt
all-bytes (b ∷ l) h = (h 0, all-bytes l (λ i. h (suc i)))

-- ---- what the numbers of a line tell, as the code works them out: a for its blocks, and the CRC that it holds
module _ (l : List ℕ) (whole : length l ≡ 70) (fits : (i : ℕ) → get_or l i 0 < 256)
    (a : List ℕ) (each : (k : ℕ) → k < 4 → Summed (take 16 (drop (16 * k) l)) (get_or a k 0))
    (stored : ℕ) (held : stored ≡ from_le_bytes w32 (get_or l 64 0 ∷ get_or l 65 0 ∷ get_or l 66 0 ∷ get_or l 67 0 % 128 ∷ [])) where
  bytes : Bytes l
  bytes = all-bytes l fits

  holds : stored ≡ number (stored_crc (places l))
  holds = stored-number l whole bytes stored (held ∙ omega arith)

  pub held-lt : stored < 2 ^ 31
  held-lt = stored-lt l whole bytes stored holds

  pub line-positions : (c p : ℕ) → c / 2 ^ 32 ≡ column_sum fields (digits 32 (2 * stored))
      → p ≡ bit_xor (at_first (get_or a 0 0 / 2 ^ 32)) (bit_xor (at_second (get_or a 1 0 / 2 ^ 32)) (bit_xor (at_third (get_or a 2 0 / 2 ^ 32)) (bit_xor (at_fourth (get_or a 3 0 / 2 ^ 32)) (at_last (c / 2 ^ 32)))))
      → p ≡ column_sum positions (protected (places l))
  line-positions c p e q =
      q ∙ positions-sum l whole bytes _ _ _ _ _ stored
      (each 0 (omega arith)).above (each 1 (omega arith)).above (each 2 (omega arith)).above (each 3 (omega arith)).above holds e

  pub line-matches : (r : ℕ)
      → ((b0 b1 b2 b3 : List ℕ) → length b1 ≡ 16 → length b2 ≡ 16 → length b3 ≡ 16
      → Summed b0 (get_or a 0 0) → Summed b1 (get_or a 1 0) → Summed b2 (get_or a 2 0) → Summed b3 (get_or a 3 0)
      → r ≡ after 0 (((b0 ++ b1) ++ b2) ++ b3))
      → eqb r stored ≡ crc_matches (places l)
  line-matches r e =
      matches-numbers (places l) r stored (length-places l whole)
      (crc-after l r whole
      (e _ _ _ _ (block-length l whole bytes 16 (omega arith)) (block-length l whole bytes 32 (omega arith)) (block-length l whole bytes 48 (omega arith))
      (each 0 (omega arith)) (each 1 (omega arith)) (each 2 (omega arith)) (each 3 (omega arith))
      ∙ ap (after 0) (data-blocks l whole bytes)))
      holds
