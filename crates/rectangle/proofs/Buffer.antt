-- Lines in a buffer: how many bytes, which line is read where, and what writing one line leaves.
use mathlib.Core.Path.{◌≡◌, sym, ap, ap₂, ◌∙◌}
use mathlib.Core.Bool.{true}
use mathlib.Core.List.{List, [], ◌∷◌, ◌++◌, map, append-nil, append_assoc}
use Prim.Native.Nat.{ℕ, zero, suc, ◌+◌, ◌-◌, ◌*◌, ◌≤◌, ◌<◌}
use native.Mathlib.Nat.{suc-mul, zero-mul, zero-add, add-zero, suc-add, add-suc, le_of_suc-le-suc, not-suc-le-zero, mul-le-mul_right}
use native.Mathlib.Decide.{dec_le}
use native.Mathlib.Omega.{arith}
use borrow.Author.Tests.{eqb-true, eq-eqb}
use lib.ListN.{length, take, drop, get_or, set, length-append, length-drop, length-map, get_or-append}
use lib.Seq.{take-add, take_at, drop_at, take-append-add, drop-append-add, get_or-append-add, get_or-take, get_or-drop, length-take-le, ext_get_or}
use Rattle.gf2.specs.Word.{Word}
use Rattle.linecode.specs.Places.{line_places, line_bytes, places, line_of}
use Rattle.linecode.specs.Code.{up_from}
use Rattle.sweep.specs.Sums.{line_at, both_sums}
use Rattle.scheme.specs.Demand3.{word_at}
use Rattle.rectangle.specs.Store.{bytes_at, places_at, lines_in, buffer_of, put_bytes, put_line}
use Rattle.rectangle.specs.Refusals.{holds}
use Rattle.rectangle.proofs.Members.{length-up_from, map-up_from}
use Rattle.rectangle.proofs.Spare.{bytes-is, length-places, length-line_of, places-line_of}

-- the bytes up to line n lie inside k lines
pub lines-le : (n k : ℕ) → n ≤ k → n * line_bytes ≤ k * line_bytes
lines-le n k h = mul-le-mul_right line_bytes h

pub holds-length : (k : ℕ) (buffer : List ℕ) → holds k buffer ≡ true → length buffer ≡ k * line_bytes
unfolding holds
holds-length k buffer e = eqb-true _ _ e

pub length-holds : (k : ℕ) (buffer : List ℕ) → length buffer ≡ k * line_bytes → holds k buffer ≡ true
unfolding holds
length-holds k buffer e = eq-eqb _ _ e

-- byte i of line n
pub byte_of : (buffer : List ℕ) (n i : ℕ) → i < line_bytes → get_or (bytes_at buffer n) i 0 ≡ get_or buffer (n * line_bytes + i) 0
unfolding bytes_at
byte_of buffer n i h = get_or-take line_bytes (drop (n * line_bytes) buffer) i 0 h ∙ get_or-drop (n * line_bytes) buffer i 0

-- both sums of so many lines, from line n on, as the sweep gives them
pub piece-sums : (buffer : List ℕ) (n count : ℕ) (sums : List ℕ)
    → ((i : ℕ) → i < count → get_or sums i 0 ≡ both_sums (places (line_at buffer (n + i))))
    → (i : ℕ) → i < count → get_or sums i 0 ≡ both_sums (places (bytes_at buffer (n + i)))
unfolding bytes_at line_bytes
piece-sums buffer n count sums e = e

-- ---- line n of a buffer of k lines
module _ (k : ℕ) (buffer : List ℕ) (whole : length buffer ≡ k * line_bytes) (n : ℕ) (inside : n < k) where
  pub length-bytes_at : length (bytes_at buffer n) ≡ line_bytes
  unfolding bytes_at
  length-bytes_at =
      length-take-le line_bytes (drop (n * line_bytes) buffer)
      (omega (arith, length-drop (n * line_bytes) buffer, lines-le (suc n) k inside, suc-mul n line_bytes))

  pub length-places_at : length (places_at buffer n) ≡ line_places
  unfolding places_at
  length-places_at = length-places (bytes_at buffer n) (length-bytes_at ∙ bytes-is)

-- ---- the lines of a buffer
pub length-lines_in : (k : ℕ) (buffer : List ℕ) → length (lines_in k buffer) ≡ k
unfolding lines_in
length-lines_in k buffer = length-map (up_from 0 k) (places_at buffer) ∙ length-up_from 0 k

pub lines_in-at : (k : ℕ) (buffer : List ℕ) (n : ℕ) → n < k → word_at (lines_in k buffer) n ≡ places_at buffer n
unfolding lines_in
lines_in-at k buffer n h = map-up_from (places_at buffer) 0 k n [] h ∙ ap (places_at buffer) (zero-add n)

-- two buffers with the same lines, line by line
pub lines_in-equal : (k : ℕ) (a b : List ℕ) → lines_in k a ≡ lines_in k b → (n : ℕ) → n < k → places_at a n ≡ places_at b n
lines_in-equal k a b e n h = sym (lines_in-at k a n h) ∙ ap (λ (l : List Word). word_at l n) e ∙ lines_in-at k b n h

pub equal-lines_in : (k : ℕ) (a b : List ℕ) → ((n : ℕ) → n < k → places_at a n ≡ places_at b n) → lines_in k a ≡ lines_in k b
equal-lines_in k a b h =
    ext_get_or [] (lines_in k a) (lines_in k b) (length-lines_in k a ∙ sym (length-lines_in k b))
    (λ n i.
    let below : n < k = omega (arith, length-lines_in k a) in
    lines_in-at k a n below ∙ h n below ∙ sym (lines_in-at k b n below))

-- ---- a buffer made from lines
pub length-buffer_of : (ws : List Word) → length (buffer_of ws) ≡ length ws * line_bytes
length-buffer_of [] = sym (zero-mul line_bytes)
length-buffer_of (w ∷ ws) =
    length-append (line_of w) (buffer_of ws)
    ∙ ap₂ ◌+◌ (length-line_of w) (length-buffer_of ws)
    ∙ omega (arith, suc-mul (length ws) line_bytes)

-- the bytes past the first line
past_first : (w : Word) (rest : List ℕ) (n : ℕ) → drop (suc n * line_bytes) (line_of w ++ rest) ≡ drop (n * line_bytes) rest
past_first w rest n =
    let e : suc n * line_bytes ≡ length (line_of w) + n * line_bytes = omega (arith, suc-mul n line_bytes, length-line_of w) in
    ap (λ (i : ℕ). drop i (line_of w ++ rest)) e ∙ drop-append-add (line_of w) rest (n * line_bytes)

up-to-first : (w : Word) (rest : List ℕ) (n : ℕ)
    → take (suc n * line_bytes) (line_of w ++ rest) ≡ line_of w ++ take (n * line_bytes) rest
up-to-first w rest n =
    let e : suc n * line_bytes ≡ length (line_of w) + n * line_bytes = omega (arith, suc-mul n line_bytes, length-line_of w) in
    ap (λ (i : ℕ). take i (line_of w ++ rest)) e ∙ take-append-add (line_of w) rest (n * line_bytes)

pub bytes_at-buffer_of : (ws : List Word) (n : ℕ) → n < length ws → bytes_at (buffer_of ws) n ≡ line_of (word_at ws n)
unfolding bytes_at
bytes_at-buffer_of [] n h = absurd (not-suc-le-zero h)
bytes_at-buffer_of (w ∷ ws) zero h =
    ap (λ (i : ℕ). take line_bytes (drop i (line_of w ++ buffer_of ws))) (zero-mul line_bytes)
    ∙ take_at (line_of w) (buffer_of ws) line_bytes (length-line_of w)
bytes_at-buffer_of (w ∷ ws) (suc n) h =
    ap (take line_bytes) (past_first w (buffer_of ws) n) ∙ bytes_at-buffer_of ws n (le_of_suc-le-suc h)

-- every line has all places
abbrev pub Sized : List Word → Type 0
Sized ws = (n : ℕ) → n < length ws → length (word_at ws n) ≡ line_places

pub places_at-buffer_of : (ws : List Word) → Sized ws → (n : ℕ) → n < length ws → places_at (buffer_of ws) n ≡ word_at ws n
unfolding places_at
places_at-buffer_of ws sized n h = ap places (bytes_at-buffer_of ws n h) ∙ places-line_of (word_at ws n) (sized n h)

-- the lines of a buffer made from lines are those
pub lines_in-buffer_of : (ws : List Word) → Sized ws → lines_in (length ws) (buffer_of ws) ≡ ws
lines_in-buffer_of ws sized =
    ext_get_or [] (lines_in (length ws) (buffer_of ws)) ws (length-lines_in (length ws) (buffer_of ws))
    (λ n i.
    let below : n < length ws = omega (arith, length-lines_in (length ws) (buffer_of ws)) in
    lines_in-at (length ws) (buffer_of ws) n below ∙ places_at-buffer_of ws sized n below)

-- a table of k lines, line n given by a function
module _ (line : ℕ → Word) (k : ℕ) where
  length-table : length (map line (up_from 0 k)) ≡ k
  length-table = length-map (up_from 0 k) line ∙ length-up_from 0 k

  line-of : (n : ℕ) → n < k → word_at (map line (up_from 0 k)) n ≡ line n
  line-of n h = map-up_from line 0 k n [] h ∙ ap line (zero-add n)

  pub table_at : ((n : ℕ) → n < k → length (line n) ≡ line_places) → (n : ℕ) → n < k
      → places_at (buffer_of (map line (up_from 0 k))) n ≡ line n
  table_at sized n h =
      places_at-buffer_of (map line (up_from 0 k))
      (λ m i. let below : m < k = omega (arith, length-table) in ap length (line-of m below) ∙ sized m below) n
      (omega (arith, length-table))
      ∙ line-of n h

  pub length-table-bytes : length (buffer_of (map line (up_from 0 k))) ≡ k * line_bytes
  length-table-bytes = length-buffer_of (map line (up_from 0 k)) ∙ ap (λ (m : ℕ). m * line_bytes) length-table

-- one line more at the end of such a table
table-snoc : (line : ℕ → Word) (n k : ℕ)
    → buffer_of (map line (up_from n (suc k))) ≡ buffer_of (map line (up_from n k)) ++ line_of (line (n + k))
table-snoc line n zero = append-nil (line_of (line n)) ∙ ap (λ (m : ℕ). line_of (line m)) (sym (add-zero n))
table-snoc line n (suc k) =
    ap (λ (l : List ℕ). line_of (line n) ++ l)
    (table-snoc line (suc n) k
    ∙ ap (λ (m : ℕ). buffer_of (map line (up_from (suc n) k)) ++ line_of (line m)) (suc-add n k ∙ sym (add-suc n k)))
    ∙ sym (append_assoc (line_of (line n)) (buffer_of (map line (up_from (suc n) k))) (line_of (line (n + suc k))))

-- a buffer whose first k lines are those
pub table_of : (line : ℕ → Word) (sums : List ℕ) (k : ℕ) → ((n : ℕ) → n < k → bytes_at sums n ≡ line_of (line n))
    → take (k * 70) sums ≡ buffer_of (map line (up_from 0 k))
unfolding bytes_at line_bytes
table_of line sums zero h = ap (λ (i : ℕ). take i sums) (zero-mul 70)
table_of line sums (suc k) h =
    ap (λ (i : ℕ). take i sums) (suc-mul k 70)
    ∙ take-add (k * 70) 70 sums
    ∙ ap₂ ◌++◌ (table_of line sums k (λ n i. h n (omega arith))) (h k (omega arith))
    ∙ ap (λ (m : ℕ). buffer_of (map line (up_from 0 k)) ++ line_of (line m)) (sym (zero-add k))
    ∙ sym (table-snoc line 0 k)

-- a line put into a buffer made from lines
pub put_line-buffer_of : (ws : List Word) (n : ℕ) (w : Word) → n < length ws → put_line (buffer_of ws) n w ≡ buffer_of (set ws n w)
unfolding put_line put_bytes
put_line-buffer_of [] n w h = absurd (not-suc-le-zero h)
put_line-buffer_of (v ∷ ws) zero w h =
    ap₂ (λ (a b : List ℕ). (a ++ line_of w) ++ b)
    (ap (λ (i : ℕ). take i (line_of v ++ buffer_of ws)) (zero-mul line_bytes))
    (past_first v (buffer_of ws) zero ∙ ap (λ (i : ℕ). drop i (buffer_of ws)) (zero-mul line_bytes))
put_line-buffer_of (v ∷ ws) (suc n) w h =
    ap₂ (λ (a b : List ℕ). (a ++ line_of w) ++ b) (up-to-first v (buffer_of ws) n) (past_first v (buffer_of ws) (suc n))
    ∙ ap (λ (a : List ℕ). a ++ drop (suc n * line_bytes) (buffer_of ws))
    (append_assoc (line_of v) (take (n * line_bytes) (buffer_of ws)) (line_of w))
    ∙ append_assoc (line_of v) (take (n * line_bytes) (buffer_of ws) ++ line_of w) (drop (suc n * line_bytes) (buffer_of ws))
    ∙ ap (λ (a : List ℕ). line_of v ++ a) (put_line-buffer_of ws n w (le_of_suc-le-suc h))

-- ---- one line written into a buffer of k lines
module _ (k : ℕ) (buffer : List ℕ) (whole : length buffer ≡ k * line_bytes) (n : ℕ) (inside : n < k) where
  front : List ℕ
  front = take (n * line_bytes) buffer

  length_front : length front ≡ n * line_bytes
  unfolding front
  length_front = length-take-le (n * line_bytes) buffer (omega (arith, lines-le (suc n) k inside, suc-mul n line_bytes))

  -- any bytes, as many as a line has
  module _ (line : List ℕ) (full : length line ≡ line_bytes) where
    length_both : length (front ++ line) ≡ suc n * line_bytes
    length_both = length-append front line ∙ ap₂ ◌+◌ length_front full ∙ omega (arith, suc-mul n line_bytes)

    pub length-put_bytes : length (put_bytes buffer n line) ≡ k * line_bytes
    unfolding put_bytes front
    length-put_bytes =
        length-append (front ++ line) (drop (suc n * line_bytes) buffer)
        ∙ ap₂ ◌+◌ length_both (length-drop (suc n * line_bytes) buffer)
        ∙ omega (arith, lines-le (suc n) k inside)

    -- the other bytes keep their values
    byte-before : (i : ℕ) → i < n * line_bytes → get_or (put_bytes buffer n line) i 0 ≡ get_or buffer i 0
    unfolding put_bytes front
    byte-before i h =
        get_or-append (front ++ line) (drop (suc n * line_bytes) buffer) 0 i
        (omega (arith, length_both, suc-mul n line_bytes))
        ∙ get_or-append front line 0 i (omega (arith, length_front))
        ∙ get_or-take (n * line_bytes) buffer i 0 h

    byte-after : (i : ℕ) → suc n * line_bytes ≤ i → get_or (put_bytes buffer n line) i 0 ≡ get_or buffer i 0
    unfolding put_bytes front
    byte-after i h =
        let e : i ≡ length (front ++ line) + (i - suc n * line_bytes) = omega (arith, length_both) in
        let f : suc n * line_bytes + (i - suc n * line_bytes) ≡ i = omega arith in
        ap (λ (j : ℕ). get_or (put_bytes buffer n line) j 0) e
        ∙ get_or-append-add (front ++ line) (drop (suc n * line_bytes) buffer) (i - suc n * line_bytes) 0
        ∙ get_or-drop (suc n * line_bytes) buffer (i - suc n * line_bytes) 0
        ∙ ap (λ (j : ℕ). get_or buffer j 0) f

    pub bytes_at-put_bytes : bytes_at (put_bytes buffer n line) n ≡ line
    unfolding bytes_at put_bytes front
    bytes_at-put_bytes =
        ap (λ (l : List ℕ). take line_bytes (drop (n * line_bytes) l)) (append_assoc front line (drop (suc n * line_bytes) buffer))
        ∙ ap (take line_bytes) (drop_at front (line ++ drop (suc n * line_bytes) buffer) (n * line_bytes) length_front)
        ∙ take_at line (drop (suc n * line_bytes) buffer) line_bytes full

    -- another line stays
    pub bytes_at-still : (m : ℕ) → m < k → (m ≡ n → ⊥) → bytes_at (put_bytes buffer n line) m ≡ bytes_at buffer m
    bytes_at-still m h d =
        ext_get_or 0 (bytes_at (put_bytes buffer n line) m) (bytes_at buffer m) (length-one ∙ sym (length-bytes_at k buffer whole m h)) each
      where
        length-one : length (bytes_at (put_bytes buffer n line) m) ≡ line_bytes
        length-one = length-bytes_at k (put_bytes buffer n line) length-put_bytes m h

        keeps : (i : ℕ) → i < line_bytes → Dec (n ≤ m)
            → get_or (put_bytes buffer n line) (m * line_bytes + i) 0 ≡ get_or buffer (m * line_bytes + i) 0
        keeps i b (yes p) =
            let later : n < m = omega arith in
            byte-after (m * line_bytes + i) (omega (arith, lines-le (suc n) m later))
        keeps i b (no p) =
            let earlier : m < n = omega arith in
            byte-before (m * line_bytes + i) (omega (arith, lines-le (suc m) n earlier, suc-mul m line_bytes))

        each : (i : ℕ) → i < length (bytes_at (put_bytes buffer n line) m)
            → get_or (bytes_at (put_bytes buffer n line) m) i 0 ≡ get_or (bytes_at buffer m) i 0
        each i j =
            let b : i < line_bytes = omega (arith, length-one) in
            byte_of (put_bytes buffer n line) m i b ∙ keeps i b (dec_le n m) ∙ sym (byte_of buffer m i b)

  -- the bytes of some places
  module _ (w : Word) where
    pub length-put_line : length (put_line buffer n w) ≡ k * line_bytes
    unfolding put_line
    length-put_line = length-put_bytes (line_of w) (length-line_of w)

    pub bytes_at-put : bytes_at (put_line buffer n w) n ≡ line_of w
    unfolding put_line
    bytes_at-put = bytes_at-put_bytes (line_of w) (length-line_of w)

    pub places_at-put : length w ≡ line_places → places_at (put_line buffer n w) n ≡ w
    unfolding places_at
    places_at-put e = ap places bytes_at-put ∙ places-line_of w e

    pub bytes_at-other : (m : ℕ) → m < k → (m ≡ n → ⊥) → bytes_at (put_line buffer n w) m ≡ bytes_at buffer m
    unfolding put_line
    bytes_at-other m h d = bytes_at-still (line_of w) (length-line_of w) m h d

    pub places_at-other : (m : ℕ) → m < k → (m ≡ n → ⊥) → places_at (put_line buffer n w) m ≡ places_at buffer m
    unfolding places_at
    places_at-other m h d = ap places (bytes_at-other m h d)
