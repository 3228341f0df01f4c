-- The sum of positions by words of 64 bits. What the code computes is linear, so a computed test at the single bits says
-- which sum it is.
use mathlib.Core.Path.{◌≡◌, refl, sym, ap, ap₂, ◌∙◌, subst, subst₂}
use mathlib.Core.Bool.{Bool, true, false}
use mathlib.Core.List.{List, [], ◌∷◌, ◌++◌}
use Prim.Native.Nat.{ℕ, zero, suc, ◌*◌, ◌/◌, ◌%◌, ◌^◌, ◌<◌}
use native.Mathlib.Omega.{arith}
use lib.Bits.{bit_and, bit_xor}
use lib.Dec.{T, eqb}
use lib.ListN.{length, get_or, replicate, length-append, length-replicate}
use Rattle.gf2.specs.Word.{Word, digits}
use Rattle.gf2.specs.Check.{column_sum}
use Rattle.gf2.proofs.Digits.{length_digits}
use Rattle.gf2.proofs.Hamming.{column_sum-append}
use Rattle.register.proofs.TableRule.{length-up_from}
use Rattle.linecode.specs.Places.{hamming_places}
use Rattle.linecode.specs.Code.{positions, hamming_columns, up_from}
use Rattle.linecode.proofs.Positions.{length-positions}
use Rattle.linecode.proofs.Linear.{together, Words, joined, Linear, lin_at, lin_and, lin_shr, lin_shl, lin_xor, lin_columns, words_are, words-sum, quick_xor, quick_and, quick-xor, quick-and}

-- ---- what the code computes, with any exclusive or and any mask: the tests have their own
module _ (xor and : ℕ → ℕ → ℕ) where
  unfoldable pub folded_by : ℕ → ℕ → ℕ → ℕ
  folded_by by mask x = and (xor x (x / 2 ^ by)) mask

  unfoldable pub added_by : ℕ → ℕ → ℕ → ℕ
  added_by by mask x = xor x (and (x / 2 ^ by) mask)

  unfoldable pub paired_by : ℕ → ℕ → ℕ → ℕ → ℕ → ℕ
  paired_by by low high a b = xor (and (xor a (a / 2 ^ by)) low) (and (xor b (b * 2 ^ by % 2 ^ 64)) high)

  unfoldable pub nibbles_by : ℕ → ℕ → ℕ
  nibbles_by low high =
      xor (xor (xor (xor (xor
      (and low 0xa)
      (and low 0xc * 2 ^ 4 % 2 ^ 64))
      (and low 0xff0 * 2 ^ 4 % 2 ^ 64))
      (and low 0xf0000))
      (and (low / 2 ^ 12) 0xf00000))
      (high * 2 ^ 24 % 2 ^ 64)

  -- the nibbles of bits 6 to 9, and those of bits 0 to 5 before they are side by side
  unfoldable pub high_by : ℕ → ℕ → ℕ → ℕ → ℕ
  high_by b6 b7 b8 b9 =
      folded_by 24 0xffff (folded_by 12 0xff000000ff (folded_by 4 0x000f000f000f000f (folded_by 8 0x00ff00ff00ff00ff
      (paired_by 16 0x0000ffff0000ffff 0xffff0000ffff0000
      (paired_by 32 0xffffffff 0xffffffff00000000 b6 b8)
      (paired_by 32 0xffffffff 0xffffffff00000000 b7 b9)))))

  unfoldable pub low_by : ℕ → ℕ
  low_by all =
      added_by 4 0x0f0f0f0f0f (added_by 8 0x00ff00ff00ff00ff (added_by 16 0x0000ffff0000ffff (added_by 32 0xffffffff all)))

  unfoldable pub sum_by : List ℕ → ℕ
  sum_by p =
      folded_by 24 0x3ff (folded_by 12 0x3000000ff (folded_by 6 0x3000f000f (folded_by 3 0x0303030303
      (folded_by 1 0x1111111111 (folded_by 2 0x3333333333
      (nibbles_by (low_by (get_or p 0 0)) (high_by (get_or p 1 0) (get_or p 2 0) (get_or p 3 0) (get_or p 4 0))))))))

  -- the places of eight words and a half, each at its position: the first word by runs, the others across two words
  unfoldable pub spread_by : ℕ → ℕ
  spread_by d =
      xor (xor (xor (xor
      (and d 0x1 * 2 ^ 3 % 2 ^ 64)
      (and d 0xe * 2 ^ 4 % 2 ^ 64))
      (and d 0x7f0 * 2 ^ 5 % 2 ^ 64))
      (and d 0x3fff800 * 2 ^ 6 % 2 ^ 64))
      (and d 0x1fffffffc000000 * 2 ^ 7 % 2 ^ 64)

  unfoldable pub across_by : ℕ → ℕ → ℕ → ℕ → ℕ
  across_by down up a b = xor (a / 2 ^ down) (b * 2 ^ up % 2 ^ 64)

  -- from the words of places to the five words of `number_sum`
  abbrev pub five_of : (p0 p1 p2 p3 p4 p5 p6 p7 p8 : ℕ) → List ℕ
  five_of p0 p1 p2 p3 p4 p5 p6 p7 p8 =
      xor (xor (xor (xor (xor (xor (xor (xor p0 p1) p2) p3) p4) p5) p6) p7) p8
      ∷ xor (xor (xor p1 p3) p5) p7
      ∷ xor (xor (xor p2 p3) p6) p7
      ∷ xor (xor (xor p4 p5) p6) p7
      ∷ p8
      ∷ []

  abbrev pub placed_by : List ℕ → List ℕ
  placed_by d =
      five_of
      (spread_by (get_or d 0 0))
      (and (across_by 56 8 (get_or d 0 0) (get_or d 1 0)) 0xfffffffffffffffe)
      (and (across_by 55 9 (get_or d 1 0) (get_or d 2 0)) 0xfffffffffffffffe)
      (across_by 55 9 (get_or d 2 0) (get_or d 3 0))
      (and (across_by 54 10 (get_or d 3 0) (get_or d 4 0)) 0xfffffffffffffffe)
      (across_by 54 10 (get_or d 4 0) (get_or d 5 0))
      (across_by 54 10 (get_or d 5 0) (get_or d 6 0))
      (across_by 54 10 (get_or d 6 0) (get_or d 7 0))
      (and (across_by 53 11 (get_or d 7 0) (get_or d 8 0)) 0x3fffffffffe)

-- ---- the sum of the columns of a number's set bits, which ends where no bit is left
add_if : Bool → ℕ → ℕ → ℕ
add_if false c n = n
add_if true c n = bit_xor c n

unfoldable columns_of : List ℕ → ℕ → ℕ
unfolding add_if
columns_of [] p = 0
columns_of (c ∷ cs) zero = 0
columns_of (c ∷ cs) (suc p) = add_if (eqb (suc p % 2) 1) c (columns_of cs (suc p / 2))

columns-are : (cs : List ℕ) (p : ℕ) → columns_of cs p ≡ column_sum cs (digits (length cs) p)
unfolding columns_of add_if
columns-are [] p = refl
columns-are (c ∷ cs) zero = sym (none (c ∷ cs))
  where
    none : (cs : List ℕ) → column_sum cs (digits (length cs) 0) ≡ 0
    none [] = refl
    none (c ∷ cs) = none cs
columns-are (c ∷ cs) (suc p) = go (eqb (suc p % 2) 1) (columns-are cs (suc p / 2))
  where
    go : (b : Bool) → columns_of cs (suc p / 2) ≡ column_sum cs (digits (length cs) (suc p / 2))
        → add_if b c (columns_of cs (suc p / 2)) ≡ column_sum (c ∷ cs) (b ∷ digits (length cs) (suc p / 2))
    go false rest = rest
    go true rest = ap (bit_xor c) rest

columns-64 : (cs : List ℕ) (p : ℕ) → length cs ≡ 64 → columns_of cs p ≡ column_sum cs (digits 64 p)
columns-64 cs p e = columns-are cs p ∙ ap (λ (k : ℕ). column_sum cs (digits k p)) e

-- the columns of `number_sum`: the numbers of the bits of the first word, and one number for each other word
five_columns : List ℕ
five_columns = up_from 0 64 ++ (replicate 64 64 ++ (replicate 64 128 ++ (replicate 64 256 ++ replicate 64 512)))

five_sum : List ℕ → ℕ
five_sum p =
    bit_xor (columns_of (up_from 0 64) (get_or p 0 0))
    (bit_xor (columns_of (replicate 64 64) (get_or p 1 0))
    (bit_xor (columns_of (replicate 64 128) (get_or p 2 0))
    (bit_xor (columns_of (replicate 64 256) (get_or p 3 0)) (columns_of (replicate 64 512) (get_or p 4 0)))))

five-sum : (p : List ℕ)
    → column_sum five_columns (digits 64 (get_or p 0 0) ++ (digits 64 (get_or p 1 0) ++ (digits 64 (get_or p 2 0) ++ (digits 64 (get_or p 3 0) ++ digits 64 (get_or p 4 0)))))
    ≡ five_sum p
unfolding five_columns five_sum
five-sum p =
    go (up_from 0 64) (replicate 64 64) (replicate 64 128) (replicate 64 256) (replicate 64 512)
    (get_or p 0 0) (get_or p 1 0) (get_or p 2 0) (get_or p 3 0) (get_or p 4 0)
    (length-up_from 0 64) (alike 64) (alike 128) (alike 256) (alike 512)
  where
    alike : (c : ℕ) → length (replicate 64 c) ≡ 64
    alike c = length-replicate 64 c

    before : (c : List ℕ) (n : ℕ) (cs : List ℕ) (w : Word) {r : ℕ} → length c ≡ 64 → column_sum cs w ≡ r
        → column_sum (c ++ cs) (digits 64 n ++ w) ≡ bit_xor (columns_of c n) r
    before c n cs w e f =
        column_sum-append c cs (digits 64 n) w (e ∙ sym (length_digits 64 n)) ∙ ap₂ bit_xor (sym (columns-64 c n e)) f

    go : (a b c d e : List ℕ) (i j k m n : ℕ) → length a ≡ 64 → length b ≡ 64 → length c ≡ 64 → length d ≡ 64 → length e ≡ 64
        → column_sum (a ++ (b ++ (c ++ (d ++ e)))) (digits 64 i ++ (digits 64 j ++ (digits 64 k ++ (digits 64 m ++ digits 64 n))))
        ≡ bit_xor (columns_of a i) (bit_xor (columns_of b j) (bit_xor (columns_of c k) (bit_xor (columns_of d m) (columns_of e n))))
    go a b c d e i j k m n ha hb hc hd he =
        before a i (b ++ (c ++ (d ++ e))) (digits 64 j ++ (digits 64 k ++ (digits 64 m ++ digits 64 n))) ha
        (before b j (c ++ (d ++ e)) (digits 64 k ++ (digits 64 m ++ digits 64 n)) hb
        (before c k (d ++ e) (digits 64 m ++ digits 64 n) hc
        (before d m e (digits 64 n) hd (sym (columns-64 e n he)))))

-- ---- what the code computes is linear
abbrev pub folded_form : ℕ → ℕ → ℕ → ℕ
folded_form = folded_by bit_xor bit_and

abbrev pub added_form : ℕ → ℕ → ℕ → ℕ
added_form = added_by bit_xor bit_and

abbrev pub paired_form : ℕ → ℕ → ℕ → ℕ → ℕ → ℕ
paired_form = paired_by bit_xor bit_and

abbrev pub nibbles_form : ℕ → ℕ → ℕ
nibbles_form = nibbles_by bit_xor bit_and

abbrev pub high_form : ℕ → ℕ → ℕ → ℕ → ℕ
high_form = high_by bit_xor bit_and

abbrev pub low_form : ℕ → ℕ
low_form = low_by bit_xor bit_and

abbrev pub sum_form : List ℕ → ℕ
sum_form = sum_by bit_xor bit_and

abbrev pub placed_form : List ℕ → List ℕ
placed_form = placed_by bit_xor bit_and

lin_folded : {f : List ℕ → ℕ} (by mask : ℕ) → Linear f → Linear (λ (d : List ℕ). folded_form by mask (f d))
unfolding folded_by
lin_folded by mask l = lin_and mask (lin_xor l (lin_shr by l))

lin_added : {f : List ℕ → ℕ} (by mask : ℕ) → Linear f → Linear (λ (d : List ℕ). added_form by mask (f d))
unfolding added_by
lin_added by mask l = lin_xor l (lin_and mask (lin_shr by l))

lin_paired : {f g : List ℕ → ℕ} (by low high : ℕ) → Linear f → Linear g → Linear (λ (d : List ℕ). paired_form by low high (f d) (g d))
unfolding paired_by
lin_paired by low high l m =
    lin_xor (lin_and low (lin_xor l (lin_shr by l))) (lin_and high (lin_xor m (lin_shl by 64 m)))

lin_nibbles : {f g : List ℕ → ℕ} → Linear f → Linear g → Linear (λ (d : List ℕ). nibbles_form (f d) (g d))
unfolding nibbles_by
lin_nibbles l m =
    lin_xor (lin_xor (lin_xor (lin_xor (lin_xor
    (lin_and 0xa l)
    (lin_shl 4 64 (lin_and 0xc l)))
    (lin_shl 4 64 (lin_and 0xff0 l)))
    (lin_and 0xf0000 l))
    (lin_and 0xf00000 (lin_shr 12 l)))
    (lin_shl 24 64 m)

lin_high : {a b c d : List ℕ → ℕ} → Linear a → Linear b → Linear c → Linear d
    → Linear (λ (p : List ℕ). high_form (a p) (b p) (c p) (d p))
unfolding high_by
lin_high a b c d =
    lin_folded 24 0xffff (lin_folded 12 0xff000000ff (lin_folded 4 0x000f000f000f000f (lin_folded 8 0x00ff00ff00ff00ff
    (lin_paired 16 0x0000ffff0000ffff 0xffff0000ffff0000
    (lin_paired 32 0xffffffff 0xffffffff00000000 a c)
    (lin_paired 32 0xffffffff 0xffffffff00000000 b d)))))

lin_low : {f : List ℕ → ℕ} → Linear f → Linear (λ (p : List ℕ). low_form (f p))
unfolding low_by
lin_low l =
    lin_added 4 0x0f0f0f0f0f (lin_added 8 0x00ff00ff00ff00ff (lin_added 16 0x0000ffff0000ffff (lin_added 32 0xffffffff l)))

lin_sum : Linear (λ (p : List ℕ). sum_form p)
unfolding sum_by
lin_sum =
    lin_folded 24 0x3ff (lin_folded 12 0x3000000ff (lin_folded 6 0x3000f000f (lin_folded 3 0x0303030303
    (lin_folded 1 0x1111111111 (lin_folded 2 0x3333333333
    (lin_nibbles (lin_low (lin_at 0)) (lin_high (lin_at 1) (lin_at 2) (lin_at 3) (lin_at 4))))))))

lin_spread : {f : List ℕ → ℕ} → Linear f → Linear (λ (d : List ℕ). spread_by bit_xor bit_and (f d))
unfolding spread_by
lin_spread l =
    lin_xor (lin_xor (lin_xor (lin_xor
    (lin_shl 3 64 (lin_and 0x1 l))
    (lin_shl 4 64 (lin_and 0xe l)))
    (lin_shl 5 64 (lin_and 0x7f0 l)))
    (lin_shl 6 64 (lin_and 0x3fff800 l)))
    (lin_shl 7 64 (lin_and 0x1fffffffc000000 l))

lin_across : {f g : List ℕ → ℕ} (down up : ℕ) → Linear f → Linear g → Linear (λ (d : List ℕ). across_by bit_xor bit_and down up (f d) (g d))
unfolding across_by
lin_across down up l m = lin_xor (lin_shr down l) (lin_shl up 64 m)

lin_columns_of : {f : List ℕ → ℕ} (cs : List ℕ) → Linear f → Linear (λ (d : List ℕ). columns_of cs (f d))
lin_columns_of {f} cs l =
    record {
      adds =
          λ x y. columns-are cs (f (together x y))
          ∙ (lin_columns cs (length cs) l).adds x y
          ∙ ap₂ bit_xor (sym (columns-are cs (f x))) (sym (columns-are cs (f y)));
    }

lin_five : {a b c d e : List ℕ → ℕ} → Linear a → Linear b → Linear c → Linear d → Linear e
    → Linear (λ (w : List ℕ). five_sum (a w ∷ b w ∷ c w ∷ d w ∷ e w ∷ []))
unfolding five_sum
lin_five a b c d e =
    lin_xor (lin_columns_of (up_from 0 64) a)
    (lin_xor (lin_columns_of (replicate 64 64) b)
    (lin_xor (lin_columns_of (replicate 64 128) c)
    (lin_xor (lin_columns_of (replicate 64 256) d) (lin_columns_of (replicate 64 512) e))))

lin_placed : Linear (λ (d : List ℕ). five_sum (placed_form d))
lin_placed =
    let p0 = lin_spread (lin_at 0) in
    let p1 = lin_and 0xfffffffffffffffe (lin_across 56 8 (lin_at 0) (lin_at 1)) in
    let p2 = lin_and 0xfffffffffffffffe (lin_across 55 9 (lin_at 1) (lin_at 2)) in
    let p3 = lin_across 55 9 (lin_at 2) (lin_at 3) in
    let p4 = lin_and 0xfffffffffffffffe (lin_across 54 10 (lin_at 3) (lin_at 4)) in
    let p5 = lin_across 54 10 (lin_at 4) (lin_at 5) in
    let p6 = lin_across 54 10 (lin_at 5) (lin_at 6) in
    let p7 = lin_across 54 10 (lin_at 6) (lin_at 7) in
    let p8 = lin_and 0x3fffffffffe (lin_across 53 11 (lin_at 7) (lin_at 8)) in
    lin_five
    (lin_xor (lin_xor (lin_xor (lin_xor (lin_xor (lin_xor (lin_xor (lin_xor p0 p1) p2) p3) p4) p5) p6) p7) p8)
    (lin_xor (lin_xor (lin_xor p1 p3) p5) p7)
    (lin_xor (lin_xor (lin_xor p2 p3) p6) p7)
    (lin_xor (lin_xor (lin_xor p4 p5) p6) p7)
    p8

-- ---- the tests at the single bits
unfoldable numbers_test : (ℕ → ℕ → ℕ) → (ℕ → ℕ → ℕ) → Bool
numbers_test xor and = words_are 4 (sum_by xor and) five_columns

numbers-test : T (numbers_test quick_xor quick_and)
unfolding numbers_test five_columns sum_by low_by high_by folded_by added_by paired_by nibbles_by
numbers-test = tt

numbers-right : T (numbers_test bit_xor bit_and)
numbers-right = subst₂ (λ (xor and : ℕ → ℕ → ℕ). T (numbers_test xor and)) quick-xor quick-and numbers-test

-- each protected place stands at its position, and the spare bit nowhere
unfoldable positions_test : (ℕ → ℕ → ℕ) → (ℕ → ℕ → ℕ) → Bool
positions_test xor and = words_are 8 (λ (d : List ℕ). five_sum (placed_by xor and d)) (positions ++ (0 ∷ []))

positions-test : T (positions_test quick_xor quick_and)
unfolding positions_test spread_by across_by five_sum columns_of add_if positions hamming_columns hamming_places
positions-test = tt

positions-right : T (positions_test bit_xor bit_and)
positions-right = subst₂ (λ (xor and : ℕ → ℕ → ℕ). T (positions_test xor and)) quick-xor quick-and positions-test

-- ---- so what the code computes are those sums
-- a column of 0 adds nothing
sum-zero : (cs : List ℕ) (w : Word) → column_sum (cs ++ (0 ∷ [])) w ≡ column_sum cs w
sum-zero [] [] = refl
sum-zero [] (false ∷ w) = refl
sum-zero [] (true ∷ w) = refl
sum-zero (c ∷ cs) [] = refl
sum-zero (c ∷ cs) (false ∷ w) = sum-zero cs w
sum-zero (c ∷ cs) (true ∷ w) = ap (bit_xor c) (sum-zero cs w)

length-five : length five_columns ≡ 320
unfolding five_columns
length-five = refl

pub sum-words : (all b6 b7 b8 b9 : ℕ) → Words (all ∷ b6 ∷ b7 ∷ b8 ∷ []) → b9 < 2 ^ 64
    → sum_form (all ∷ b6 ∷ b7 ∷ b8 ∷ b9 ∷ [])
    ≡ column_sum (up_from 0 64 ++ (replicate 64 64 ++ (replicate 64 128 ++ (replicate 64 256 ++ replicate 64 512))))
    (digits 64 all ++ (digits 64 b6 ++ (digits 64 b7 ++ (digits 64 b8 ++ digits 64 b9))))
unfolding numbers_test five_columns
sum-words all b6 b7 b8 b9 ws l =
    words-sum sum_form lin_sum five_columns (all ∷ b6 ∷ b7 ∷ b8 ∷ []) 64 b9 numbers-right (omega (arith, length-five)) ws l

module _ (ds : List ℕ) (eight : length ds ≡ 8) (words : Words ds) (n : ℕ) where
  abbrev placed : List ℕ
  placed = placed_form (ds ++ (n ∷ []))

  pub position-words : n < 2 ^ 32
      → column_sum (up_from 0 64 ++ (replicate 64 64 ++ (replicate 64 128 ++ (replicate 64 256 ++ replicate 64 512))))
      (digits 64 (get_or placed 0 0) ++ (digits 64 (get_or placed 1 0) ++ (digits 64 (get_or placed 2 0) ++ (digits 64 (get_or placed 3 0) ++ digits 64 (get_or placed 4 0)))))
      ≡ column_sum positions (joined ds (digits 32 n))
  unfolding positions_test five_columns
  position-words l =
      five-sum placed
      ∙ words-sum (λ (d : List ℕ). five_sum (placed_form d)) lin_placed (positions ++ (0 ∷ [])) ds 32 n
      (subst (λ (k : ℕ). T (words_are k (λ (d : List ℕ). five_sum (placed_form d)) (positions ++ (0 ∷ [])))) (sym eight) positions-right)
      (omega (arith, eight, length-append positions (0 ∷ []), length-positions)) words l
      ∙ sum-zero positions (joined ds (digits 32 n))

-- ---- a step of the code, from what is known of its words
pub folded-step : (by mask : ℕ) {x y r : ℕ} → x ≡ y → r ≡ bit_and (bit_xor x (x / 2 ^ by)) mask → r ≡ folded_form by mask y
unfolding folded_by
folded-step by mask e f = f ∙ ap (folded_form by mask) e

pub added-step : (by mask : ℕ) {x y r : ℕ} → x ≡ y → r ≡ bit_xor x (bit_and (x / 2 ^ by) mask) → r ≡ added_form by mask y
unfolding added_by
added-step by mask e f = f ∙ ap (added_form by mask) e

pub paired-step : (by low high : ℕ) {a b x y r : ℕ} → a ≡ x → b ≡ y
    → r ≡ bit_xor (bit_and (bit_xor a (a / 2 ^ by)) low) (bit_and (bit_xor b (b * 2 ^ by % 2 ^ 64)) high)
    → r ≡ paired_form by low high x y
unfolding paired_by
paired-step by low high e f g = g ∙ ap₂ (paired_form by low high) e f
