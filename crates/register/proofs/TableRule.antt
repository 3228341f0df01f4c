-- The lent table's rule, by one computed test; and its entries, as slicing asks for them.
use mathlib.Core.Path.{◌≡◌, refl, sym, ap, ap₂, ◌∙◌, subst}
use mathlib.Core.Bool.{Bool, true, false, ◌&&◌}
use mathlib.Core.List.{List, [], ◌∷◌, ◌++◌, map}
use Prim.Native.Nat.{ℕ, zero, suc, ◌+◌, ◌*◌, ◌/◌, ◌%◌, ◌^◌, ◌<◌}
use native.Mathlib.Nat.{not-suc-le-zero, le_of_suc-le-suc, zero-add, suc-add, add-suc}
use native.Mathlib.Omega.{arith}
use lib.Bits.{bit_xor}
use lib.Dec.{T, eqb, eqb→eq}
use lib.ListN.{length, take, drop, get_or, length-map, take-append-drop, get_or-append}
use lib.Seq.{get_or-append-add}
use Rattle.register.specs.Slices.{up_from, eight_steps, slices_from, slice_table}
use Rattle.register.proofs.Slicing.{eight-lt, eight-split, times}

pub and_parts : (a b : Bool) → T (a && b) → T a × T b
and_parts true b t = (tt, t)
and_parts false b t = absurd t

-- two lists of numbers are the same
abbrev pub alike : List ℕ → List ℕ → Bool
alike [] [] = true
alike [] (n ∷ ns) = false
alike (m ∷ ms) [] = false
alike (m ∷ ms) (n ∷ ns) = eqb m n && alike ms ns

pub alike-sound : (ms ns : List ℕ) → T (alike ms ns) → ms ≡ ns
alike-sound [] [] t = refl
alike-sound [] (n ∷ ns) t = absurd t
alike-sound (m ∷ ms) [] t = absurd t
alike-sound (m ∷ ms) (n ∷ ns) t =
    let p = and_parts (eqb m n) (alike ms ns) t in
    ap₂ ◌∷◌ (eqb→eq m n p.0) (alike-sound ms ns p.1)

-- eight steps by the table of the 256 bytes, which compute quickly
abbrev quick : List ℕ → ℕ → ℕ
quick bytes n = bit_xor (get_or bytes (n % 256) 0) (n / 256)

abbrev quick_from : List ℕ → ℕ → List ℕ → List ℕ
quick_from bytes zero from = []
quick_from bytes (suc n) from = let next = map (quick bytes) from in next ++ quick_from bytes n next

abbrev pub is_slice_table : List ℕ → Bool
is_slice_table table =
    let bytes = take 256 table in
    alike bytes (map eight_steps (up_from 0 256)) && alike (drop 256 table) (quick_from bytes 15 bytes)

-- ---- the test says the rule
abbrev Small : List ℕ → Type 0
Small [] = Unit {0}
Small (n ∷ ns) = (n < 2 ^ 31) × Small ns

small-eight : (ns : List ℕ) → Small (map eight_steps ns)
small-eight [] = tt
small-eight (n ∷ ns) = (eight-lt n, small-eight ns)

pub length-up_from : (n k : ℕ) → length (up_from n k) ≡ k
length-up_from n zero = refl
length-up_from n (suc k) = ap suc (length-up_from (suc n) k)

pub get_or-up_from : (n k i : ℕ) → i < k → get_or (up_from n k) i 0 ≡ n + i
get_or-up_from n zero i h = absurd (not-suc-le-zero h)
get_or-up_from n (suc k) zero h = omega arith
get_or-up_from n (suc k) (suc i) h = get_or-up_from (suc n) k i (le_of_suc-le-suc h) ∙ suc-add n i ∙ sym (add-suc n i)

pub get_d_map : (f : ℕ → ℕ) (ns : List ℕ) (i : ℕ) → i < length ns → get_or (map f ns) i 0 ≡ f (get_or ns i 0)
get_d_map f [] i h = absurd (not-suc-le-zero h)
get_d_map f (n ∷ ns) zero h = refl
get_d_map f (n ∷ ns) (suc i) h = get_d_map f ns i (le_of_suc-le-suc h)

byte-entry : (i : ℕ) → i < 256 → get_or (map eight_steps (up_from 0 256)) i 0 ≡ eight_steps i
byte-entry i h =
    get_d_map eight_steps (up_from 0 256) i (subst (λ (k : ℕ). i < k) (sym (length-up_from 0 256)) h)
    ∙ ap eight_steps (get_or-up_from 0 256 i h ∙ zero-add i)

quick-eight : (bytes : List ℕ) (n : ℕ) → bytes ≡ map eight_steps (up_from 0 256) → n < 2 ^ 31 → quick bytes n ≡ eight_steps n
quick-eight bytes n e h =
    ap (λ (t : List ℕ). bit_xor (get_or t (n % 256) 0) (n / 256)) e
    ∙ ap (λ (m : ℕ). bit_xor m (n / 256)) (byte-entry (n % 256) (low n))
    ∙ sym (eight-split n h)
  where
    low : (n : ℕ) → n % 256 < 256
    low n = omega arith

map-quick : (bytes ns : List ℕ) → bytes ≡ map eight_steps (up_from 0 256) → Small ns → map (quick bytes) ns ≡ map eight_steps ns
map-quick bytes [] e p = refl
map-quick bytes (n ∷ ns) e p = ap₂ ◌∷◌ (quick-eight bytes n e p.0) (map-quick bytes ns e p.1)

quick_from-is : (bytes : List ℕ) (n : ℕ) (from : List ℕ) → bytes ≡ map eight_steps (up_from 0 256) → Small from
    → quick_from bytes n from ≡ slices_from n from
quick_from-is bytes zero from e p = refl
quick_from-is bytes (suc n) from e p =
    ap (λ (l : List ℕ). l ++ quick_from bytes n l) (map-quick bytes from e p)
    ∙ ap (λ (l : List ℕ). map eight_steps from ++ l) (quick_from-is bytes n (map eight_steps from) e (small-eight from))

pub slice-table : (table : List ℕ) → T (is_slice_table table) → table ≡ slice_table
unfolding slice_table
slice-table table t =
    sym (take-append-drop 256 table)
    ∙ ap₂ ◌++◌ first (alike-sound (drop 256 table) (quick_from bytes 15 bytes) p.1
    ∙ quick_from-is bytes 15 bytes first (subst Small (sym first) (small-eight (up_from 0 256)))
    ∙ ap (slices_from 15) first)
  where
    bytes : List ℕ
    bytes = take 256 table

    p : T (alike bytes (map eight_steps (up_from 0 256))) × T (alike (drop 256 table) (quick_from bytes 15 bytes))
    p = and_parts (alike bytes (map eight_steps (up_from 0 256))) (alike (drop 256 table) (quick_from bytes 15 bytes)) t

    first : bytes ≡ map eight_steps (up_from 0 256)
    first = alike-sound bytes (map eight_steps (up_from 0 256)) p.0

-- ---- entry 256 k + b is the register after byte b and k bytes more
entry-from : (n : ℕ) (from : List ℕ) (k b : ℕ) → k < n → length from ≡ 256 → b < 256
    → get_or (slices_from n from) (256 * k + b) 0 ≡ times (suc k) (get_or from b 0)
entry-from zero from k b h e j = absurd (not-suc-le-zero h)
entry-from (suc n) from zero b h e j =
    ap (λ (i : ℕ). get_or (slices_from (suc n) from) i 0) (zero-add b)
    ∙ get_or-append (map eight_steps from) (slices_from n (map eight_steps from)) 0 b (subst (λ (m : ℕ). b < m) (sym (length-map from eight_steps ∙ e)) j)
    ∙ get_d_map eight_steps from b (subst (λ (m : ℕ). b < m) (sym e) j)
entry-from (suc n) from (suc k) b h e j =
    ap (λ (i : ℕ). get_or (slices_from (suc n) from) i 0) (block k b ∙ ap (λ (m : ℕ). m + (256 * k + b)) (sym width))
    ∙ get_or-append-add (map eight_steps from) (slices_from n (map eight_steps from)) (256 * k + b) 0
    ∙ entry-from n (map eight_steps from) k b (le_of_suc-le-suc h) width j
    ∙ ap (times (suc k)) (get_d_map eight_steps from b (subst (λ (m : ℕ). b < m) (sym e) j))
  where
    width : length (map eight_steps from) ≡ 256
    width = length-map from eight_steps ∙ e

    block : (k b : ℕ) → 256 * suc k + b ≡ 256 + (256 * k + b)
    block k b = omega arith

pub entry_at : (k b : ℕ) → k < 16 → b < 256 → get_or slice_table (256 * k + b) 0 ≡ times (suc k) b
unfolding slice_table
entry_at k b h j =
    entry-from 16 (up_from 0 256) k b h (length-up_from 0 256) j
    ∙ ap (times (suc k)) (get_or-up_from 0 256 b j ∙ zero-add b)

-- the same as slicing asks for it
abbrev pub entry_of : List ℕ → ℕ → ℕ → ℕ
entry_of table zero b = get_or table b 0
entry_of table (suc k) b = get_or table (256 * suc k + b) 0
