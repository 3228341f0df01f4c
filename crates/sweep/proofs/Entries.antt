-- The table's entries, and what some of them come to together.
use mathlib.Core.Path.{◌≡◌, refl, sym, ap, ap₂, ◌∙◌, subst}
use mathlib.Core.List.{List, [], ◌∷◌, ◌++◌, map, append-nil}
use Prim.Native.Nat.{ℕ, zero, suc, ◌+◌, ◌-◌, ◌*◌, ◌/◌, ◌%◌, ◌^◌, ◌≤◌, ◌<◌}
use native.Mathlib.Nat.{le_of_suc-le-suc, not-suc-le-zero, zero-add}
use native.Mathlib.Omega.{arith}
use lib.Bits.{bit_xor, xor_comm, xor_zero_l, xor_zero_r}
use lib.ListN.{length, drop, get_or, length-map, length-append, length-drop}
use lib.Pow.{shr-shr}
use lib.Seq.{drop-drop, drop-cons}
use Rattle.gf2.specs.Word.{Word, digits}
use Rattle.gf2.specs.Check.{column_sum}
use Rattle.gf2.specs.Generator.{generator, generator_polynomial}
use Rattle.gf2.proofs.Digits.{length_digits, digits_mod, digits-add}
use Rattle.register.specs.Slices.{up_from, eight_steps, slices_from, slice_table, after}
use Rattle.register.proofs.Bytes.{Bytes}
use Rattle.register.proofs.Slicing.{times, times-lt, late, after-lt, after-append, after-added, after-zero, after-apart}
use Rattle.register.proofs.Additive.{add-shr, add-mod, additive-late}
use Rattle.register.proofs.TableRule.{get_or-up_from, get_d_map, length-up_from, entry_at, entry_of}
use Rattle.linecode.specs.Places.{bits_of}
use Rattle.line_table.specs.Table.{fields, fields_at, beside, line_table}
use Rattle.sweep.specs.Sums.{Summed}
use Rattle.sweep.proofs.Columns.{sum-none, sum-split}

-- ---- one entry
get_d_beside : (low high : List ℕ) (i : ℕ) → i < length low → i < length high
    → get_or (beside low high) i 0 ≡ get_or low i 0 + 2 ^ 32 * get_or high i 0
get_d_beside [] high i h k = absurd (not-suc-le-zero h)
get_d_beside (n ∷ low) [] i h k = absurd (not-suc-le-zero k)
get_d_beside (n ∷ low) (m ∷ high) zero h k = refl
get_d_beside (n ∷ low) (m ∷ high) (suc i) h k = get_d_beside low high i (le_of_suc-le-suc h) (le_of_suc-le-suc k)

length-slices : (n : ℕ) (from : List ℕ) → length (slices_from n from) ≡ n * length from
length-slices zero from = omega arith
length-slices (suc n) from =
    length-append (map eight_steps from) (slices_from n (map eight_steps from))
    ∙ ap₂ ◌+◌ width (length-slices n (map eight_steps from) ∙ ap (λ (k : ℕ). n * k) width)
    ∙ more n (length from)
  where
    width : length (map eight_steps from) ≡ length from
    width = length-map from eight_steps

    more : (n k : ℕ) → k + n * k ≡ suc n * k
    more n k = omega arith

length-table : length slice_table ≡ 4096
unfolding slice_table
length-table = length-slices 16 (up_from 0 256) ∙ ap (λ (k : ℕ). 16 * k) (length-up_from 0 256)

inside : (k b : ℕ) → k < 16 → b < 256 → 256 * k + b < 4096
inside k b h j = omega arith

entry-parts : (k b : ℕ) → k < 16 → b < 256
    → get_or line_table (256 * k + b) 0 ≡ times (suc k) b + 2 ^ 32 * column_sum (drop (8 * (15 - k)) fields) (digits 8 b)
unfolding line_table
entry-parts k b h j =
    get_d_beside slice_table (map fields_at (up_from 0 4096)) (256 * k + b)
    (subst (λ (n : ℕ). 256 * k + b < n) (sym length-table) (inside k b h j))
    (subst (λ (n : ℕ). 256 * k + b < n) (sym (length-map (up_from 0 4096) fields_at ∙ length-up_from 0 4096)) (inside k b h j))
    ∙ ap₂ (λ (n m : ℕ). n + 2 ^ 32 * m) (entry_at k b h j)
    (get_d_map fields_at (up_from 0 4096) (256 * k + b) (subst (λ (n : ℕ). 256 * k + b < n) (sym (length-up_from 0 4096)) (inside k b h j))
    ∙ ap fields_at (get_or-up_from 0 4096 (256 * k + b) (inside k b h j) ∙ zero-add (256 * k + b))
    ∙ ap₂ (λ (n m : ℕ). column_sum (drop (8 * (15 - n)) fields) (digits 8 m)) (slot k b j) (byte k b j))
  where
    slot : (k b : ℕ) → b < 256 → (256 * k + b) / 256 ≡ k
    slot k b j = omega arith

    byte : (k b : ℕ) → b < 256 → (256 * k + b) % 256 ≡ b
    byte k b j = omega arith

low_part : (n m : ℕ) → n < 2 ^ 31 → (n + 2 ^ 32 * m) % 2 ^ 32 ≡ n
low_part n m h = omega arith

high_part : (n m : ℕ) → n < 2 ^ 31 → (n + 2 ^ 32 * m) / 2 ^ 32 ≡ m
high_part n m h = omega arith

entry_of-is : (table : List ℕ) → table ≡ line_table → (k b : ℕ) → k < 16 → b < 256
    → entry_of table k b ≡ times (suc k) b + 2 ^ 32 * column_sum (drop (8 * (15 - k)) fields) (digits 8 b)
entry_of-is table e zero b h j =
    ap (λ (t : List ℕ). get_or t b 0) e ∙ ap (λ (i : ℕ). get_or line_table i 0) (sym (zero-add b)) ∙ entry-parts 0 b h j
entry_of-is table e (suc k) b h j = ap (λ (t : List ℕ). get_or t (256 * suc k + b) 0) e ∙ entry-parts (suc k) b h j

pub entry-low : (table : List ℕ) → table ≡ line_table → (k b : ℕ) → k < 16 → b < 256 → entry_of table k b % 2 ^ 32 ≡ times (suc k) b
entry-low table e k b h j =
    ap (λ (n : ℕ). n % 2 ^ 32) (entry_of-is table e k b h j)
    ∙ low_part (times (suc k) b) (column_sum (drop (8 * (15 - k)) fields) (digits 8 b)) (times-lt k b)

pub entry-high : (table : List ℕ) → table ≡ line_table → (k b : ℕ) → k < 16 → b < 256
    → entry_of table k b / 2 ^ 32 ≡ column_sum (drop (8 * (15 - k)) fields) (digits 8 b)
entry-high table e k b h j =
    ap (λ (n : ℕ). n / 2 ^ 32) (entry_of-is table e k b h j)
    ∙ high_part (times (suc k) b) (column_sum (drop (8 * (15 - k)) fields) (digits 8 b)) (times-lt k b)

-- ---- the fields of some bytes, which m bytes of a block follow
late-fields : (entry : ℕ → ℕ → ℕ) (m : ℕ)
    → ((k b : ℕ) → m + k < 16 → b < 256 → entry k b ≡ column_sum (drop (8 * (15 - (m + k))) fields) (digits 8 b))
    → (bs : List ℕ) → length bs + m ≤ 16 → Bytes bs
    → late entry bs ≡ column_sum (drop (8 * (16 - (length bs + m))) fields) (bits_of bs)
late-fields entry m rule [] h p = sym (sum-none (drop (8 * (16 - (0 + m))) fields))
late-fields entry m rule (b ∷ []) h p =
    rule 0 b (omega arith) p.0
    ∙ ap₂ (λ (n : ℕ) (w : Word). column_sum (drop n fields) w) (index m) (sym (append-nil (digits 8 b)))
  where
    index : (m : ℕ) → 8 * (15 - (m + 0)) ≡ 8 * (16 - (1 + m))
    index m = omega arith
late-fields entry m rule (b ∷ c ∷ bs) h p =
    xor_comm (late entry (c ∷ bs)) (entry (suc (length bs)) b)
    ∙ ap₂ bit_xor
    (rule (suc (length bs)) b (omega arith) p.0 ∙ ap (λ (n : ℕ). column_sum (drop n fields) (digits 8 b)) (first (length bs) m))
    (late-fields entry m rule (c ∷ bs) (omega arith) p.1
    ∙ ap (λ (cs : List ℕ). column_sum cs (bits_of (c ∷ bs)))
    (ap (λ (n : ℕ). drop n fields) (second (length bs) m h)
    ∙ sym (drop-drop 8 (8 * (16 - (suc (suc (length bs)) + m))) fields)
    ∙ ap (λ (n : ℕ). drop n (drop (8 * (16 - (suc (suc (length bs)) + m))) fields)) (sym (length_digits 8 b))))
    ∙ sym (sum-split (drop (8 * (16 - (suc (suc (length bs)) + m))) fields) (digits 8 b) (bits_of (c ∷ bs)))
  where
    first : (n m : ℕ) → 8 * (15 - (m + suc n)) ≡ 8 * (16 - (suc (suc n) + m))
    first n m = omega arith

    second : (n m : ℕ) → suc (suc n) + m ≤ 16 → 8 * (16 - (suc n + m)) ≡ 8 * (16 - (suc (suc n) + m)) + 8
    second n m h = omega arith

-- ---- sixteen bytes
pub block-summed : (table : List ℕ) → table ≡ line_table → (bs : List ℕ) → length bs ≡ 16 → Bytes bs
    → Summed bs (late (entry_of table) bs)
block-summed table e bs h p =
    record {
      register =
          additive-late (λ n. n % 2 ^ 32) (add-mod 32) (entry_of table) bs
          ∙ sym (after-zero (λ k b. entry_of table k b % 2 ^ 32) 16 (entry-low table e) bs (omega (arith, h)) p);
      above =
          additive-late (λ n. n / 2 ^ 32) (add-shr 32) (entry_of table) bs
          ∙ late-fields (λ k b. entry_of table k b / 2 ^ 32) 0 (λ k b i j. entry-high table e k b (room k i) j ∙ ap (λ (n : ℕ). column_sum (drop (8 * (15 - n)) fields) (digits 8 b)) (sym (zero-add k))) bs (omega (arith, h)) p
          ∙ ap (λ (n : ℕ). column_sum (drop (8 * (16 - (n + 0))) fields) (bits_of bs)) h;
    }
  where
    room : (k : ℕ) → 0 + k < 16 → k < 16
    room k i = omega arith

-- a turn of the loop over them, from the last: k bytes are added
pub late-turn : (table bytes : List ℕ) (k n : ℕ) → length bytes ≡ 16 → k < 16 → n ≡ late (entry_of table) (drop (16 - k) bytes)
    → bit_xor n (get_or table (256 * k + get_or bytes (15 - k) 0) 0) ≡ late (entry_of table) (drop (16 - (k + 1)) bytes)
late-turn table bytes k n e h q =
    ap (λ (m : ℕ). bit_xor m (get_or table (256 * k + get_or bytes (15 - k) 0) 0)) q
    ∙ sym (ap (late (entry_of table)) next ∙ more (get_or bytes (15 - k) 0) (drop (16 - k) bytes) (omega (arith, length-drop (16 - k) bytes)))
  where
    here : 16 - (k + 1) ≡ 15 - k
    here = omega arith

    after-here : suc (15 - k) ≡ 16 - k
    after-here = omega arith

    next : drop (16 - (k + 1)) bytes ≡ get_or bytes (15 - k) 0 ∷ drop (16 - k) bytes
    next =
        ap (λ (i : ℕ). drop i bytes) here
        ∙ drop-cons bytes (15 - k) 0 (omega arith)
        ∙ ap (λ (i : ℕ). get_or bytes (15 - k) 0 ∷ drop i bytes) after-here

    more : (b : ℕ) (bs : List ℕ) → length bs ≡ k → late (entry_of table) (b ∷ bs) ≡ bit_xor (late (entry_of table) bs) (get_or table (256 * k + b) 0)
    more b [] l =
        let same : b ≡ 256 * k + b = omega arith in
        ap (λ (i : ℕ). get_or table i 0) same ∙ sym (xor_zero_l (get_or table (256 * k + b) 0))
    more b (c ∷ bs) l = ap (λ (j : ℕ). bit_xor (late (entry_of table) (c ∷ bs)) (get_or table (256 * j + b) 0)) l

-- ---- a register that sixteen bytes follow
abbrev zeros12 : List ℕ
zeros12 = 0 ∷ 0 ∷ 0 ∷ 0 ∷ 0 ∷ 0 ∷ 0 ∷ 0 ∷ 0 ∷ 0 ∷ 0 ∷ 0 ∷ []

after-zeros : after 0 (0 ∷ 0 ∷ 0 ∷ 0 ∷ zeros12) ≡ 0
unfolding after generator generator_polynomial
after-zeros = refl

late-zeros : late (λ k b. times (suc k) b) zeros12 ≡ 0
unfolding generator generator_polynomial
late-zeros = refl

abbrev pub bytes_of32 : ℕ → List ℕ
bytes_of32 r = r % 256 ∷ r / 256 % 256 ∷ r / 65536 % 256 ∷ r / 16777216 % 256 ∷ []

low : (n : ℕ) → n % 256 < 256
low n = omega arith

bytes_small : (r : ℕ) → Bytes (bytes_of32 r)
bytes_small r = (low r, (low (r / 256), (low (r / 65536), (low (r / 16777216), tt))))

times-sixteen : (r : ℕ) → r < 2 ^ 31 → late (λ k b. times (suc (12 + k)) b) (bytes_of32 r) ≡ times 16 r
times-sixteen r h =
    ap (λ (n : ℕ). bit_xor (bit_xor (bit_xor (bit_xor n (times 13 (r / 16777216 % 256))) (times 14 (r / 65536 % 256))) (times 15 (r / 256 % 256))) (times 16 (r % 256))) (sym late-zeros)
    ∙ sym (after-zero (λ k b. times (suc k) b) 16 (λ k b i j. refl) (bytes_of32 r ++ zeros12) (omega arith)
    (low r, (low (r / 256), (low (r / 65536), (low (r / 16777216), (none, (none, (none, (none, (none, (none, (none, (none, (none, (none, (none, (none, tt)))))))))))))))))
    ∙ after-added r r 0 0 0 0 zeros12 h (sym (xor_zero_r r)) none none none
    ∙ after-apart r (0 ∷ 0 ∷ 0 ∷ 0 ∷ zeros12) h
    ∙ ap (λ (n : ℕ). bit_xor n (times 16 r)) after-zeros
  where
    none : 0 < 256
    none = omega arith

bits-of-32 : (r : ℕ) → bits_of (bytes_of32 r) ≡ digits 32 r
bits-of-32 r =
    ap₂ ◌++◌ (digits_mod 8 r)
    (ap₂ ◌++◌ (digits_mod 8 (r / 256))
    (ap₂ ◌++◌ (digits_mod 8 (r / 65536) ∙ ap (digits 8) (sym (shr-shr r 8 8)))
    (append-nil (digits 8 (r / 16777216 % 256)) ∙ digits_mod 8 (r / 16777216) ∙ ap (digits 8) (sym (shr-shr r 8 16) ∙ sym (shr-shr (r / 2 ^ 8) 8 8)))
    ∙ sym (digits-add 8 8 (r / 2 ^ 8 / 2 ^ 8)))
    ∙ sym (digits-add 8 16 (r / 2 ^ 8)))
    ∙ sym (digits-add 8 24 r)

pub carried-low : (table : List ℕ) → table ≡ line_table → (r : ℕ) → r < 2 ^ 31 → (bs : List ℕ) → length bs ≡ 16
    → after r bs ≡ bit_xor (after 0 bs) (late (λ k b. entry_of table (12 + k) b) (bytes_of32 r) % 2 ^ 32)
carried-low table e r h bs n =
    after-apart r bs h
    ∙ ap (bit_xor (after 0 bs))
    (ap (λ (k : ℕ). times k r) n
    ∙ sym (additive-late (λ n. n % 2 ^ 32) (add-mod 32) (λ k b. entry_of table (12 + k) b) (bytes_of32 r)
    ∙ ap₂ bit_xor (ap₂ bit_xor (ap₂ bit_xor
    (entry-low table e 12 (r / 16777216 % 256) (omega arith) (low (r / 16777216)))
    (entry-low table e 13 (r / 65536 % 256) (omega arith) (low (r / 65536))))
    (entry-low table e 14 (r / 256 % 256) (omega arith) (low (r / 256))))
    (entry-low table e 15 (r % 256) (omega arith) (low r))
    ∙ times-sixteen r h))

pub carried-high : (table : List ℕ) → table ≡ line_table → (r : ℕ)
    → late (λ k b. entry_of table (12 + k) b) (bytes_of32 r) / 2 ^ 32 ≡ column_sum fields (digits 32 r)
carried-high table e r =
    additive-late (λ n. n / 2 ^ 32) (add-shr 32) (λ k b. entry_of table (12 + k) b) (bytes_of32 r)
    ∙ late-fields (λ k b. entry_of table (12 + k) b / 2 ^ 32) 12 (λ k b i j. entry-high table e (12 + k) b i j) (bytes_of32 r) (omega arith) (bytes_small r)
    ∙ ap (column_sum fields) (bits-of-32 r)

-- ---- from block to block
pub register-step : (r n a : ℕ) (xs bs : List ℕ)
    → (r < 2 ^ 31 → (bs : List ℕ) → length bs ≡ 16 → after r bs ≡ bit_xor (after 0 bs) (n % 2 ^ 32))
    → r ≡ after 0 xs → length bs ≡ 16 → a % 2 ^ 32 ≡ after 0 bs → bit_xor n a % 2 ^ 32 ≡ after 0 (xs ++ bs)
register-step r n a xs bs carried e h f =
    add-mod 32 n a
    ∙ xor_comm (n % 2 ^ 32) (a % 2 ^ 32)
    ∙ ap (λ (m : ℕ). bit_xor m (n % 2 ^ 32)) f
    ∙ sym (carried (subst (λ (m : ℕ). m < 2 ^ 31) (sym e) (after-lt 0 xs (omega arith))) bs h)
    ∙ ap (λ (m : ℕ). after m bs) e
    ∙ sym (after-append 0 xs bs)
