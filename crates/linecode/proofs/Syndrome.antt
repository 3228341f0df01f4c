-- The syndrome: its two parts, and the place that it names.
use mathlib.Core.Path.{◌≡◌, refl, sym, ap, ap₂, ◌∙◌, subst}
use mathlib.Core.Bool.{Bool, true, false, not, ◌&&◌, cond}
use mathlib.Core.Logic.{◌⊎◌, inl, inr}
use mathlib.Core.List.{List, [], ◌∷◌, ◌++◌, map}
use Prim.Native.Nat.{ℕ, zero, suc, ◌+◌, ◌-◌, ◌*◌, ◌^◌, ◌≤◌, ◌<◌}
use native.Mathlib.Nat.{pow-suc, not-suc-le-zero, le_of_suc-le-suc}
use native.Mathlib.Omega.{arith}
use native.Mathlib.Decide.{dec_le, dec_lt}
use borrow.Author.Tests.{lt-ltb, le-ltb}
use lib.Bits.{bit_xor, xor_comm, xor_shifted}
use lib.Dec.{T, eqb, ltb, eqb→eq, ltb→lt}
use lib.ListN.{length, take, drop, get_or, take-append-drop, length-append, length-drop, get_or-append}
use lib.Pow.{pow-lt}
use lib.Seq.{length-take-le, get_or-append-add}
use Rattle.gf2.specs.Word.{Word, flip, number}
use Rattle.gf2.specs.Check.{column_sum}
use Rattle.gf2.proofs.Hamming.{column_sum-append, column_sum-flip}
use Rattle.linecode.specs.Places.{protected_places, hamming_places, line_places}
use Rattle.linecode.specs.Code.{protected, stored_hamming, positions, hamming_columns, columns, up_from, syndrome}
use Rattle.linecode.specs.Code.{index_of, naming, answer_to, member, PositionTable}
use Rattle.linecode.specs.declared.hamming.Answer.{Answer}
use Rattle.linecode.specs.declared.hamming.Answer.TheVariants.{None, Hamming, Protected}
use Rattle.linecode.proofs.Line.{protected-is, places_is}
use Rattle.linecode.proofs.IndexOf.{index_of-le, index_of-found, index_of-absent}
use lib.Count.{ones}
use Rattle.std.specs.Int.{is_power_of_two}
use Rattle.std.specs.Int.Count.{count_trailing_zeros}
use Rattle.std.specs.List.Sorted.{IsBinarySearchResult}
use Rattle.std.specs.Ordering.{nat_cmp}
use Rattle.std.proofs.Common.{Ok, Err}
use Rattle.std.proofs.lemmas.List.Sorted.{searched}
use Rattle.linecode.proofs.Positions.{length-positions, length-hamming_columns, length-table, column-power, all_below, no-power-of, and_parts}

-- ---- the powers of two at set places make the number of the word
power-sum : (i n : ℕ) (w : Word) → length w ≤ n → column_sum (map (λ k. 2 ^ k) (up_from i n)) w ≡ number w * 2 ^ i
power-sum i zero [] h = omega arith
power-sum i zero (b ∷ w) h = absurd (not-suc-le-zero h)
power-sum i (suc n) [] h = omega arith
power-sum i (suc n) (false ∷ w) h =
    power-sum (suc i) n w (le_of_suc-le-suc h) ∙ ap (λ (m : ℕ). number w * m) (pow-suc 2 i) ∙ omega arith
power-sum i (suc n) (true ∷ w) h =
    ap (bit_xor (2 ^ i)) (power-sum (suc i) n w (le_of_suc-le-suc h))
    ∙ xor_comm (2 ^ i) (number w * 2 ^ suc i)
    ∙ xor_shifted (number w) (suc i) (2 ^ i) (pow-lt (omega arith))
    ∙ ap (λ (m : ℕ). number w * m + 2 ^ i) (pow-suc 2 i)
    ∙ omega arith

pub hamming-sum : (w : Word) → length w ≤ 10 → column_sum hamming_columns w ≡ number w
unfolding hamming_columns hamming_places
hamming-sum w h = power-sum 0 10 w h ∙ one (number w)
  where
    one : (n : ℕ) → n * 1 ≡ n
    one n = omega arith

-- ---- the syndrome is the sum of positions and the stored Hamming bits, as numbers
pub syndrome-parts : (w : Word) → length w ≡ line_places
    → bit_xor (column_sum positions (protected w)) (number (stored_hamming w)) ≡ syndrome w
unfolding syndrome columns protected stored_hamming
syndrome-parts w e =
    ap (bit_xor (column_sum positions (take protected_places w))) (sym (hamming-sum (drop protected_places w) short))
    ∙ sym (column_sum-append positions hamming_columns (take protected_places w) (drop protected_places w) same)
    ∙ ap (column_sum (positions ++ hamming_columns)) (take-append-drop protected_places w)
  where
    short : length (drop protected_places w) ≤ 10
    short = omega (arith, length-drop protected_places w, protected-is, places_is, e)

    same : length positions ≡ length (take protected_places w)
    same =
        let h : protected_places ≤ length w = omega (arith, protected-is, places_is, e) in
        length-positions ∙ sym (length-take-le protected_places w h ∙ protected-is)

-- ---- the answer: the columns, one for each place, of which each names its place, and which are all numbers from 1 to 553
pub length-columns : length columns ≡ 553
unfolding columns
length-columns = length-append positions hamming_columns ∙ ap₂ ◌+◌ length-positions length-hamming_columns

pub column-protected : (i : ℕ) → i < 543 → get_or columns i 0 ≡ get_or positions i 0
unfolding columns
column-protected i h = get_or-append positions hamming_columns 0 i (omega (arith, length-positions))

pub column-hamming : (k : ℕ) → k < 10 → get_or columns (543 + k) 0 ≡ 2 ^ k
unfolding columns
column-hamming k h =
    ap (λ (n : ℕ). get_or (positions ++ hamming_columns) (n + k) 0) (sym length-positions)
    ∙ get_or-append-add positions hamming_columns k 0 ∙ column-power k h

abbrev every : (ℕ → Bool) → ℕ → Bool
every f zero = true
every f (suc n) = f n && every f n

every-at : (f : ℕ → Bool) (n k : ℕ) → T (every f n) → k < n → T (f k)
every-at f zero k t h = absurd (not-suc-le-zero h)
every-at f (suc n) k t h = go (λ l. every-at f n k (and_parts (f n) (every f n) t).1 l) (dec_lt k n)
  where
    go : (k < n → T (f k)) → Dec (k < n) → T (f k)
    go before (yes l) = before l
    go before (no l) = let e : k ≡ n = omega arith in subst (λ (m : ℕ). T (f m)) (sym e) (and_parts (f n) (every f n) t).0

named : ℕ → Bool
named i = eqb (index_of (get_or columns i 0) columns) i

all_named : T (every named 553)
unfolding named columns positions hamming_columns hamming_places
all_named = tt

pub column-named : (i : ℕ) → i < 553 → index_of (get_or columns i 0) columns ≡ i
unfolding named
column-named i h = eqb→eq (index_of (get_or columns i 0) columns) i (every-at named 553 i all_named h)

held : ℕ → Bool
held n = ltb (index_of (suc n) columns) 553

all_held : T (every held 553)
unfolding held columns positions hamming_columns hamming_places
all_held = tt

pub column-held : (s : ℕ) → 0 < s → s ≤ 553 → index_of s columns < 553
unfolding held
column-held zero l h = absurd (not-suc-le-zero l)
column-held (suc s) l h = ltb→lt (index_of (suc s) columns) 553 (every-at held 553 s all_held h)

-- ---- the cases of the answer, by the number of the place
pub naming-protected : (i : ℕ) → i < 543 → naming i ≡ Protected i
unfolding naming protected_places
naming-protected i h = ap (λ (b : Bool). cond b (Protected i) (cond (ltb i line_places) (Hamming (i - 543)) None)) (lt-ltb i 543 h)

pub naming-hamming : (k : ℕ) → k < 10 → naming (543 + k) ≡ Hamming k
unfolding naming protected_places line_places
naming-hamming k h =
    let m : 543 + k < 553 = omega arith in
    let e : 543 + k - 543 ≡ k = omega arith in
    ap₂ (λ (b c : Bool). cond b (Protected (543 + k)) (cond c (Hamming (543 + k - 543)) None))
    (le-ltb (543 + k) 543 (omega arith)) (lt-ltb (543 + k) 553 m)
    ∙ ap Hamming e

pub naming-none : naming 553 ≡ None
unfolding naming protected_places line_places
naming-none = refl

-- what holds of a protected place by its position, of a Hamming place by its power of two, and of none, holds of the answer
pub by-case : (s : ℕ) (P : Answer → Type 0) → ((i : ℕ) → i < 543 → get_or positions i 0 ≡ s → P (Protected i))
    → ((k : ℕ) → k < 10 → 2 ^ k ≡ s → P (Hamming k)) → (index_of s columns ≡ 553 → P None) → P (answer_to s)
unfolding answer_to
by-case s P protected hamming none = go (dec_lt at 543) (dec_lt at 553)
  where
    at : ℕ
    at = index_of s columns

    found : at < 553 → get_or columns at 0 ≡ s
    found h = index_of-found s columns (omega (arith, length-columns))

    go : Dec (at < 543) → Dec (at < 553) → P (naming at)
    go (yes h) d = subst P (sym (naming-protected at h)) (protected at h (sym (column-protected at h) ∙ found (omega arith)))
    go (no h) (yes d) =
        let e : at ≡ 543 + (at - 543) = omega arith in
        let l : at - 543 < 10 = omega arith in
        subst P (sym (ap naming e ∙ naming-hamming (at - 543) l))
        (hamming (at - 543) l (sym (column-hamming (at - 543) l) ∙ ap (λ (i : ℕ). get_or columns i 0) (sym e) ∙ found d))
    go (no h) (no d) =
        let e : at ≡ 553 = omega (arith, index_of-le s columns, length-columns) in
        subst P (sym (ap naming e ∙ naming-none)) (none e)

-- the position of a protected place names that place, and a power of two a Hamming place
pub position-named : (i : ℕ) → i < 543 → answer_to (get_or positions i 0) ≡ Protected i
unfolding answer_to
position-named i h =
    ap naming (ap (λ (s : ℕ). index_of s columns) (sym (column-protected i h)) ∙ column-named i (omega arith)) ∙ naming-protected i h

pub power-named : (k : ℕ) → k < 10 → answer_to (2 ^ k) ≡ Hamming k
unfolding answer_to
power-named k h =
    ap naming (ap (λ (s : ℕ). index_of s columns) (sym (column-hamming k h)) ∙ column-named (543 + k) (omega arith)) ∙ naming-hamming k h

-- none is answered to 0 and above 553, and to nothing else
absent : (s n : ℕ) (cs : List ℕ) → T (all_below n cs) → n ≤ s → index_of s cs ≡ length cs
absent s n cs t h =
    index_of-absent s cs (λ (j : ℕ) (l : j < length cs) (e : get_or cs j 0 ≡ s). let z : ⊥ = omega (arith, below cs t j l) in z)
  where
    below : (cs : List ℕ) → T (all_below n cs) → (j : ℕ) → j < length cs → get_or cs j 0 < n
    below [] t j l = absurd (not-suc-le-zero l)
    below (c ∷ cs) t zero l = ltb→lt c n (and_parts (ltb c n) (all_below n cs) t).0
    below (c ∷ cs) t (suc j) l = below cs (and_parts (ltb c n) (all_below n cs) t).1 j (le_of_suc-le-suc l)

pub none-zero : answer_to 0 ≡ None
unfolding answer_to columns positions hamming_columns hamming_places
none-zero = ap naming (eqb→eq (index_of 0 columns) 553 tt) ∙ naming-none

pub none_above : (s : ℕ) → 553 < s → answer_to s ≡ None
unfolding answer_to columns positions hamming_columns hamming_places
none_above s h = ap naming (absent s 554 columns tt h) ∙ naming-none

-- the tags of two cases of the enum differ
pub apart : ◌≡◌ {A = ℕ} 0 1 → ⊥
apart z = omega arith

pub none-exactly : (s : ℕ) → answer_to s ≡ None → (s ≡ 0) ⊎ (553 < s)
none-exactly s =
    by-case s (λ (a : Answer). a ≡ None → (s ≡ 0) ⊎ (553 < s))
    (λ (i : ℕ) (h : i < 543) (q : get_or positions i 0 ≡ s) (e : Protected i ≡ None). let z : ◌≡◌ {A = ℕ} 0 1 = cc in absurd (apart z))
    (λ (k : ℕ) (h : k < 10) (q : 2 ^ k ≡ s) (e : Hamming k ≡ None). let z : ◌≡◌ {A = ℕ} 0 1 = cc in absurd (apart z))
    (λ (q : index_of s columns ≡ 553) (e : None ≡ None). go s q (dec_le s 553))
  where
    go : (s : ℕ) → index_of s columns ≡ 553 → Dec (s ≤ 553) → (s ≡ 0) ⊎ (553 < s)
    go zero q d = inl refl
    go (suc s) q (yes h) = let z : ⊥ = omega (arith, column-held (suc s) (omega arith) h) in absurd z
    go (suc s) q (no h) = inr (omega arith)

-- ---- what the code finds: a place of the table, or none there; then a power of two, whose exponent is told by its lowest set bit, or none
told : ℕ → Bool
told s = let k = count_trailing_zeros 16 s in cond (is_power_of_two s) (eqb (2 ^ k) s && ltb k 10) (not (member s hamming_columns) && ltb s 1024)

all_told : T (every told 554)
unfolding told hamming_columns hamming_places ones count_trailing_zeros
all_told = tt

pub told-power : (s : ℕ) → s ≤ 553 → is_power_of_two s ≡ true → answer_to s ≡ Hamming (count_trailing_zeros 16 s)
unfolding told
told-power s h e =
    let k = count_trailing_zeros 16 s in
    let t : T (eqb (2 ^ k) s && ltb k 10) =
    subst (λ (b : Bool). T (cond b (eqb (2 ^ k) s && ltb k 10) (not (member s hamming_columns) && ltb s 1024))) e (every-at told 554 s all_told (omega arith)) in
    let p = and_parts (eqb (2 ^ k) s) (ltb k 10) t in
    ap answer_to (sym (eqb→eq (2 ^ k) s p.0)) ∙ power-named k (ltb→lt k 10 p.1)

told-none : (s : ℕ) → s ≤ 553 → is_power_of_two s ≡ false → (k : ℕ) → k < 10 → 2 ^ k ≡ s → ⊥
unfolding told
told-none s h e k l q =
    let i = count_trailing_zeros 16 s in
    let t : T (not (member s hamming_columns) && ltb s 1024) =
    subst (λ (b : Bool). T (cond b (eqb (2 ^ i) s && ltb i 10) (not (member s hamming_columns) && ltb s 1024))) e (every-at told 554 s all_told (omega arith)) in
    no-power-of s k t (sym q)

module _ (table : List ℕ) (rule : PositionTable table) (s : ℕ) where
  rises : (i j : ℕ) → i ≤ j → j < length table → get_or table i 0 ≤ get_or table j 0
  rises i j h l = go (dec_lt i j)
    where
      go : Dec (i < j) → get_or table i 0 ≤ get_or table j 0
      go (yes d) = omega (arith, rule.ascending i j d l)
      go (no d) = let e : i ≡ j = omega arith in subst (λ (k : ℕ). get_or table i 0 ≤ get_or table k 0) e (omega arith)

  pub found-place : (i : ℕ) → IsBinarySearchResult (λ y. nat_cmp y s) table (Ok i) → answer_to s ≡ Protected i
  found-place i h =
      let at = searched table s (Ok i) h rises in
      ap answer_to (sym (ap (λ (t : List ℕ). get_or t i 0) (sym rule.all) ∙ at.1))
      ∙ position-named i (omega (arith, at.0, length-table table rule))

  -- every position is below the syndrome or above it
  missed : (i : ℕ) → IsBinarySearchResult (λ y. nat_cmp y s) table (Err i) → (j : ℕ) → j < 543 → get_or positions j 0 ≡ s → ⊥
  missed i h j l e = go (dec_lt j i)
    where
      at : (i ≤ length table) × ((k : ℕ) → k < i → get_or table k 0 < s) × ((k : ℕ) → i ≤ k → k < length table → s < get_or table k 0)
      at = searched table s (Err i) h rises

      there : get_or table j 0 ≡ s
      there = ap (λ (t : List ℕ). get_or t j 0) rule.all ∙ e

      go : Dec (j < i) → ⊥
      go (yes d) = omega (arith, at.1 j d, there)
      go (no d) = omega (arith, at.2 j (omega arith) (omega (arith, length-table table rule)), there)

  pub found-none : (i : ℕ) → IsBinarySearchResult (λ y. nat_cmp y s) table (Err i) → s ≤ 553 → is_power_of_two s ≡ false
      → answer_to s ≡ None
  found-none i h small q =
      by-case s (λ (a : Answer). a ≡ None)
      (λ j l e. absurd (missed i h j l e))
      (λ k l e. absurd (told-none s small q k l e))
      (λ e. refl)

-- a protected place turned over adds its position to the syndrome
pub column-position : (w : Word) (i : ℕ) → length w ≡ line_places → i < 543
    → syndrome (flip i w) ≡ bit_xor (syndrome w) (get_or positions i 0)
unfolding syndrome columns
column-position w i e h =
    column_sum-flip (positions ++ hamming_columns) w i (omega (arith, e, places_is))
    (omega (arith, length-append positions hamming_columns, length-positions))
    ∙ ap (bit_xor (column_sum (positions ++ hamming_columns) w))
    (get_or-append positions hamming_columns 0 i (omega (arith, length-positions)))
