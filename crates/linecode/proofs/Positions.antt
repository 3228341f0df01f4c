-- The positions: the rule of the constant table, and the Hamming bits as a sum of positions.
use mathlib.Core.Path.{◌≡◌, refl, sym, ap, ◌∙◌, subst}
use mathlib.Core.Bool.{Bool, true, false, not, ◌&&◌, ◌||◌}
use mathlib.Core.List.{List, [], ◌∷◌, ◌++◌, map}
use Prim.Native.Nat.{ℕ, zero, suc, ◌+◌, ◌/◌, ◌^◌, ◌≤◌, ◌<◌}
use native.Mathlib.Nat.{not-suc-le-zero, le_of_suc-le-suc, zero-add}
use native.Mathlib.Decide.{dec_lt}
use native.Mathlib.Omega.{arith}
use borrow.Author.Tests.{eq-eqb}
use lib.Bits.{xor_lt}
use lib.Dec.{T, eqb, ltb, ltb→lt}
use lib.ListN.{length, get_or}
use lib.Pow.{pow_pos, pow_mono, shr-shr}
use Rattle.gf2.specs.Word.{Word, digits}
use Rattle.gf2.specs.Check.{column_sum, bit}
use Rattle.gf2.proofs.Hamming.{hamming_bit-bit}
pub use Rattle.register.proofs.TableRule.{and_parts}
use Rattle.register.proofs.TableRule.{alike, alike-sound, get_d_map, get_or-up_from, length-up_from}
use Rattle.linecode.specs.Places.{hamming_places}
use Rattle.linecode.specs.Code.{positions, NamedPositions, PositionTable, hamming_columns, up_from, member, hamming, with_hamming}

-- ---- the positions that document 01 names
pub length-positions : length positions ≡ 543
unfolding positions
length-positions = refl

pub named-positions : NamedPositions
unfolding positions
named-positions = record { all = refl; first = refl; below512 = refl; above512 = refl; last = refl }

-- ---- the table's rule by one computed test: it has the positions, ascending from 3, and no power of two
abbrev ascends : ℕ → List ℕ → Bool
ascends last [] = true
ascends last (n ∷ ns) = ltb last n && ascends n ns

abbrev no_powers : List ℕ → Bool
no_powers [] = true
no_powers (n ∷ ns) = (not (member n hamming_columns) && ltb n 1024) && no_powers ns

abbrev pub is_position_table : List ℕ → Bool
is_position_table table = alike table positions && (ascends 2 table && no_powers table)

ascends-from : (last : ℕ) (ns : List ℕ) → T (ascends last ns) → (i : ℕ) → i < length ns → last < get_or ns i 0
ascends-from last [] t i h = absurd (not-suc-le-zero h)
ascends-from last (n ∷ ns) t zero h = ltb→lt last n (and_parts (ltb last n) (ascends n ns) t).0
ascends-from last (n ∷ ns) t (suc i) h =
    let p = and_parts (ltb last n) (ascends n ns) t in
    omega (arith, ltb→lt last n p.0, ascends-from n ns p.1 i (le_of_suc-le-suc h))

ascends-at : (last : ℕ) (ns : List ℕ) → T (ascends last ns) → (i j : ℕ) → i < j → j < length ns → get_or ns i 0 < get_or ns j 0
ascends-at last ns t i zero l h = absurd (not-suc-le-zero l)
ascends-at last [] t i (suc j) l h = absurd (not-suc-le-zero h)
ascends-at last (n ∷ ns) t zero (suc j) l h =
    ascends-from n ns (and_parts (ltb last n) (ascends n ns) t).1 j (le_of_suc-le-suc h)
ascends-at last (n ∷ ns) t (suc i) (suc j) l h =
    ascends-at n ns (and_parts (ltb last n) (ascends n ns) t).1 i j (le_of_suc-le-suc l) (le_of_suc-le-suc h)

no_powers-at : (ns : List ℕ) → T (no_powers ns) → (i : ℕ) → i < length ns
    → T (not (member (get_or ns i 0) hamming_columns) && ltb (get_or ns i 0) 1024)
no_powers-at [] t i h = absurd (not-suc-le-zero h)
no_powers-at (n ∷ ns) t zero h = (and_parts (not (member n hamming_columns) && ltb n 1024) (no_powers ns) t).0
no_powers-at (n ∷ ns) t (suc i) h =
    no_powers-at ns (and_parts (not (member n hamming_columns) && ltb n 1024) (no_powers ns) t).1 i (le_of_suc-le-suc h)

-- the power of two of each Hamming bit
pub column-power : (k : ℕ) → k < 10 → get_or hamming_columns k 0 ≡ 2 ^ k
unfolding hamming_columns hamming_places
column-power k h =
    get_d_map (λ j. 2 ^ j) (up_from 0 10) k (subst (λ (n : ℕ). k < n) (sym (length-up_from 0 10)) h)
    ∙ ap (λ (j : ℕ). 2 ^ j) (get_or-up_from 0 10 k h ∙ zero-add k)

pub length-hamming_columns : length hamming_columns ≡ 10
unfolding hamming_columns hamming_places
length-hamming_columns = refl

member-at : (n : ℕ) (ns : List ℕ) (i : ℕ) → i < length ns → n ≡ get_or ns i 0 → member n ns ≡ true
member-at n [] i h e = absurd (not-suc-le-zero h)
member-at n (m ∷ ms) zero h e = ap (λ (b : Bool). b || member n ms) (eq-eqb n m e)
member-at n (m ∷ ms) (suc i) h e = go (eqb n m) (member-at n ms i (le_of_suc-le-suc h) e)
  where
    go : (b : Bool) → member n ms ≡ true → b || member n ms ≡ true
    go true q = refl
    go false q = q

pub no-power-of : (n k : ℕ) → T (not (member n hamming_columns) && ltb n 1024) → n ≡ 2 ^ k → ⊥
no-power-of n k t e = go (dec_lt k 10)
  where
    p : T (not (member n hamming_columns)) × T (ltb n 1024)
    p = and_parts (not (member n hamming_columns)) (ltb n 1024) t

    go : Dec (k < 10) → ⊥
    go (yes h) =
        let q : k < length hamming_columns = omega (arith, length-hamming_columns) in
        subst (λ (b : Bool). T (not b)) (member-at n hamming_columns k q (e ∙ sym (column-power k h))) p.0
    go (no h) = let l : 2 ^ 10 ≤ 2 ^ k = pow_mono {i = 10} {j = k} (omega arith) in omega (arith, ltb→lt n 1024 p.1)

pub position-table : (table : List ℕ) → T (is_position_table table) → PositionTable table
position-table table t =
    record {
      all = alike-sound table positions p.0;
      ascending = ascends-at 2 table q.0;
      no_power = λ (i k : ℕ) (h : i < length table). no-power-of (get_or table i 0) k (no_powers-at table q.1 i h);
    }
  where
    p : T (alike table positions) × T (ascends 2 table && no_powers table)
    p = and_parts (alike table positions) (ascends 2 table && no_powers table) t

    q : T (ascends 2 table) × T (no_powers table)
    q = and_parts (ascends 2 table) (no_powers table) p.1

pub length-table : (table : List ℕ) → PositionTable table → length table ≡ 543
length-table table p = ap length p.all ∙ length-positions

-- ---- a sum of columns that are below 2^k is below 2^k
abbrev pub all_below : ℕ → List ℕ → Bool
all_below n [] = true
all_below n (c ∷ cs) = ltb c n && all_below n cs

column_sum-lt : (k : ℕ) (cs : List ℕ) (w : Word) → T (all_below (2 ^ k) cs) → column_sum cs w < 2 ^ k
column_sum-lt k [] w t = pow_pos k
column_sum-lt k (c ∷ cs) [] t = pow_pos k
column_sum-lt k (c ∷ cs) (false ∷ w) t = column_sum-lt k cs w (and_parts (ltb c (2 ^ k)) (all_below (2 ^ k) cs) t).1
column_sum-lt k (c ∷ cs) (true ∷ w) t =
    let p = and_parts (ltb c (2 ^ k)) (all_below (2 ^ k) cs) t in
    xor_lt k c (column_sum cs w) (ltb→lt c (2 ^ k) p.0) (column_sum-lt k cs w p.1)

pub position-sum-lt : (w : Word) → column_sum positions w < 1024
unfolding positions
position-sum-lt w = column_sum-lt 10 positions w tt

pub sum_lt : (r : ℕ) (w : Word) → r ≡ column_sum positions w → r < 1024
sum_lt r w e = let h = position-sum-lt w in omega arith

-- ---- the Hamming bits are the digits of the sum of positions
digits-up_from : (i k n : ℕ) → map (λ j. bit j n) (up_from i k) ≡ digits k (n / 2 ^ i)
digits-up_from i zero n = refl
digits-up_from i (suc k) n =
    ap (λ (w : Word). bit i n ∷ w)
    (digits-up_from (suc i) k n
    ∙ ap (digits k) (ap (λ (j : ℕ). n / 2 ^ j) (sym (one i)) ∙ sym (shr-shr n i 1)))
  where
    one : (i : ℕ) → i + 1 ≡ suc i
    one i = omega arith

pub hamming-digits : (p : Word) → hamming p ≡ digits 10 (column_sum positions p)
unfolding hamming hamming_places
hamming-digits p =
    simp (hamming_bit-bit positions p) (digits-up_from 0 10 (column_sum positions p) ∙ ap (digits 10) (one (column_sum positions p)))
  where
    one : (n : ℕ) → n / 1 ≡ n
    one n = omega arith

pub with_hamming-digits : (p : Word) → with_hamming p ≡ p ++ digits 10 (column_sum positions p)
unfolding with_hamming
with_hamming-digits p = ap (λ (h : Word). p ++ h) (hamming-digits p)
