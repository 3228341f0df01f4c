-- A line's 70 bytes and its 553 places: what stands in which byte, and that one is made from the other.
use mathlib.Core.Path.{◌≡◌, refl, sym, ap, ap₂, ◌∙◌, subst}
use mathlib.Core.Bool.{Bool, true, false, cond}
use mathlib.Core.List.{List, [], ◌∷◌, ◌++◌, append_assoc}
use Prim.Native.Nat.{ℕ, zero, suc, ◌+◌, ◌-◌, ◌*◌, ◌/◌, ◌%◌, ◌^◌, ◌≤◌, ◌<◌, min}
use native.Mathlib.Omega.{arith}
use native.Mathlib.Decide.{dec_lt}
use borrow.Author.Tests.{lt-ltb, le-ltb}
use lib.Bits.{bit_xor}
use lib.Dec.{ltb}
use lib.ListN.{length, take, drop, get_or, set, length-append, length-take, length-drop, take-append-drop, drop_of_length-le, length-replicate}
use lib.Seq.{take_at, drop_at, drop-cons, take-append-add, drop-append-add, take-append-le, take-take, length-take-le, append_snoc, get_or-take, get_or-drop, get_or-append-add}
use Rattle.gf2.specs.Word.{Word, ◌⊕◌, zeros, flip, digits, number}
use Rattle.gf2.specs.Check.{bit}
use Rattle.gf2.proofs.Xor.{xor-append, take-xor, drop-xor}
use Rattle.gf2.proofs.Weight.{take-flip, drop-flip, drop-flip-add, flip-append, flip-append-add, flip-past}
use Rattle.linecode.specs.Places.{data_places, protected_places, hamming_places, line_places, line_bytes, bits_of, bytes_of, places, line_of, xor_bytes}
use Rattle.linecode.specs.Code.{protected, data_of, stored_hamming}
use Rattle.linecode.proofs.Bytes.{Bytes, length-bits_of, bits_of-append, take-bits_of, bytes_of-append, bits_of-bytes_of, bytes-bytes_of, length-bytes_of, bits_of-xor, xor_bytes-bytes_of, flip-bits_of, get_or-bits_of}

-- ---- the named numbers
pub protected-is : protected_places ≡ 543
unfolding protected_places
protected-is = refl

pub data_is : data_places ≡ 512
unfolding data_places
data_is = refl

pub hamming-is : hamming_places ≡ 10
unfolding hamming_places
hamming-is = refl

pub places_is : line_places ≡ 553
unfolding line_places
places_is = refl

pub bytes-is : line_bytes ≡ 70
unfolding line_bytes
bytes-is = refl

-- ---- a line is 67 bytes and three more
pub split-three : (n : ℕ) (l : List ℕ) → length l ≡ n + 3
    → l ≡ take n l ++ (get_or l n 0 ∷ get_or l (suc n) 0 ∷ get_or l (suc (suc n)) 0 ∷ [])
split-three n l e =
    sym (take-append-drop n l)
    ∙ ap (λ (t : List ℕ). take n l ++ t)
    (drop-cons l n 0 (omega arith)
    ∙ ap (λ (t : List ℕ). get_or l n 0 ∷ t)
    (drop-cons l (suc n) 0 (omega arith)
    ∙ ap (λ (t : List ℕ). get_or l (suc n) 0 ∷ t)
    (drop-cons l (suc (suc n)) 0 (omega arith)
    ∙ ap (λ (t : List ℕ). get_or l (suc (suc n)) 0 ∷ t) (drop_of_length-le l {i = suc (suc (suc n))} (omega arith)))))

module _ (p : List ℕ) (few : length p ≡ 67) where
  bits-before : length (bits_of p) ≡ 536
  bits-before = length-bits_of p ∙ ap (λ (n : ℕ). 8 * n) few

  pub places-bytes : (a b c : ℕ) → places (p ++ (a ∷ b ∷ c ∷ [])) ≡ bits_of p ++ (digits 7 a ++ (digits 8 b ++ digits 2 c))
  unfolding places
  places-bytes a b c =
      ap (λ (w : Word). take protected_places w ++ take hamming_places (drop (suc protected_places) w)) (bits_of-append p (a ∷ b ∷ c ∷ []))
      ∙ ap₂ ◌++◌ front (ap₂ take hamming-is back)
      ∙ append_assoc (bits_of p) (digits 7 a) (digits 8 b ++ digits 2 c)
    where
      rest : Word
      rest = bits_of (a ∷ b ∷ c ∷ [])

      front : take protected_places (bits_of p ++ rest) ≡ bits_of p ++ digits 7 a
      front =
          let h : protected_places ≡ length (bits_of p) + 7 = omega (arith, protected-is, bits-before) in
          ap (λ (n : ℕ). take n (bits_of p ++ rest)) h ∙ take-append-add (bits_of p) rest 7

      back : drop (suc protected_places) (bits_of p ++ rest) ≡ digits 8 b ++ (digits 8 c ++ [])
      back =
          let h : suc protected_places ≡ length (bits_of p) + 8 = omega (arith, protected-is, bits-before) in
          ap (λ (n : ℕ). drop n (bits_of p ++ rest)) h ∙ drop-append-add (bits_of p) rest 8

  pub line_of-bits : (u t : Word) → Bytes p → length u ≡ 7 → line_of (bits_of p ++ (u ++ t)) ≡ p ++ (number u ∷ bytes_of 2 t)
  unfolding line_of
  line_of-bits u t h e =
      ap₂ bytes_of count spread
      ∙ bytes_of-append p 3 (u ++ (false ∷ t)) h
      ∙ ap (λ (l : List ℕ). p ++ l) (last u e)
    where
      before : length (bits_of p ++ u) ≡ 543
      before = length-append (bits_of p) u ∙ ap₂ ◌+◌ bits-before e

      count : line_bytes ≡ length p + 3
      count = omega (arith, bytes-is, few)

      whole : bits_of p ++ (u ++ t) ≡ (bits_of p ++ u) ++ t
      whole = sym (append_assoc (bits_of p) u t)

      spread : take protected_places (bits_of p ++ (u ++ t)) ++ (false ∷ drop protected_places (bits_of p ++ (u ++ t)))
          ≡ bits_of p ++ (u ++ (false ∷ t))
      spread =
          ap (λ (w : Word). take protected_places w ++ (false ∷ drop protected_places w)) whole
          ∙ ap₂ (λ (x y : Word). x ++ (false ∷ y))
          (take_at (bits_of p ++ u) t protected_places (before ∙ sym protected-is))
          (drop_at (bits_of p ++ u) t protected_places (before ∙ sym protected-is))
          ∙ append_assoc (bits_of p) u (false ∷ t)

      last : (u : Word) → length u ≡ 7 → bytes_of 3 (u ++ (false ∷ t)) ≡ number u ∷ bytes_of 2 t
      last u e =
          ap (bytes_of 3) (sym (append_snoc u false t))
          ∙ ap₂ (λ (w v : Word). number w ∷ bytes_of 2 v) (take_at (u ++ (false ∷ [])) t 8 eight) (drop_at (u ++ (false ∷ [])) t 8 eight)
          ∙ ap (λ (a : ℕ). a ∷ bytes_of 2 t) (spare u)
        where
          eight : length (u ++ (false ∷ [])) ≡ 8
          eight = length-append u (false ∷ []) ∙ omega arith

          spare : (u : Word) → number (u ++ (false ∷ [])) ≡ number u
          spare [] = refl
          spare (false ∷ u) = ap (λ (n : ℕ). 2 * n) (spare u)
          spare (true ∷ u) = ap (λ (n : ℕ). suc (2 * n)) (spare u)

-- ---- the places of a line, byte by byte
-- the CRC's bits in byte 67, and the Hamming bits in bytes 68 and 69
unfoldable pub crc_end : List ℕ → Word
crc_end l = digits 7 (get_or l 67 0)

unfoldable pub hamming_end : List ℕ → Word
hamming_end l = digits 8 (get_or l 68 0) ++ digits 2 (get_or l 69 0)

pub length-crc_end : (l : List ℕ) → length (crc_end l) ≡ 7
unfolding crc_end
length-crc_end l = refl

pub length-hamming_end : (l : List ℕ) → length (hamming_end l) ≡ 10
unfolding hamming_end
length-hamming_end l = refl

module _ (l : List ℕ) (whole : length l ≡ 70) where
  pub length_front : length (take 67 l) ≡ 67
  length_front = length-take-le 67 l (omega arith)

  pub places-line : places l ≡ (bits_of (take 67 l) ++ crc_end l) ++ hamming_end l
  unfolding crc_end hamming_end
  places-line =
      ap places (split-three 67 l whole)
      ∙ places-bytes (take 67 l) length_front (get_or l 67 0) (get_or l 68 0) (get_or l 69 0)
      ∙ sym (append_assoc (bits_of (take 67 l)) (crc_end l) (hamming_end l))

  protected-length : length (bits_of (take 67 l) ++ crc_end l) ≡ protected_places
  protected-length =
      length-append (bits_of (take 67 l)) (crc_end l)
      ∙ ap₂ ◌+◌ (bits-before (take 67 l) length_front) (length-crc_end l)
      ∙ sym protected-is

  pub length-places : length (places l) ≡ line_places
  length-places =
      ap length places-line
      ∙ length-append (bits_of (take 67 l) ++ crc_end l) (hamming_end l)
      ∙ ap₂ ◌+◌ (protected-length ∙ protected-is) (length-hamming_end l)
      ∙ sym places_is

  pub protected-line : protected (places l) ≡ bits_of (take 67 l) ++ crc_end l
  unfolding protected
  protected-line =
      ap (take protected_places) places-line ∙ take_at (bits_of (take 67 l) ++ crc_end l) (hamming_end l) protected_places protected-length

  pub stored_hamming-line : stored_hamming (places l) ≡ hamming_end l
  unfolding stored_hamming
  stored_hamming-line =
      ap (drop protected_places) places-line ∙ drop_at (bits_of (take 67 l) ++ crc_end l) (hamming_end l) protected_places protected-length

  -- protected place i is bit i of the bytes
  pub protected-bits : protected (places l) ≡ take protected_places (bits_of l)
  unfolding protected places
  protected-bits =
      take_at (take protected_places (bits_of l)) (take hamming_places (drop (suc protected_places) (bits_of l))) protected_places
      (length-take-le protected_places (bits_of l) (omega (arith, protected-is, length-bits_of l)))

  pub protected-bit : (i : ℕ) → i < 543 → get_or (protected (places l)) i false ≡ bit (i % 8) (get_or l (i / 8) 0)
  protected-bit i h =
      ap (λ (w : Word). get_or w i false) protected-bits
      ∙ get_or-take protected_places (bits_of l) i false (omega (arith, protected-is))
      ∙ ap (λ (n : ℕ). get_or (bits_of l) n false) (parts i)
      ∙ get_or-bits_of l (i / 8) (i % 8) (omega arith) (omega arith)
    where
      parts : (i : ℕ) → i ≡ 8 * (i / 8) + i % 8
      parts i = omega arith

  -- the data are bytes 0 to 63
  pub sixty_four : take 64 (take 67 l) ≡ take 64 l
  sixty_four = take-take 64 67 l (omega arith)

  pub data_of-line : data_of (places l) ≡ bits_of (take 64 l)
  unfolding data_of
  data_of-line =
      ap (take data_places) (places-line ∙ append_assoc (bits_of (take 67 l)) (crc_end l) (hamming_end l))
      ∙ take-append-le data_places (bits_of (take 67 l)) (crc_end l ++ hamming_end l)
      (omega (arith, data_is, length-bits_of (take 67 l), length_front))
      ∙ ap (λ (n : ℕ). take n (bits_of (take 67 l))) data_is
      ∙ take-bits_of 64 (take 67 l)
      ∙ ap bits_of sixty_four

  -- place 543 + k is bit k of the bytes from byte 68 on
  pub hamming-bit : (i : ℕ) → 543 ≤ i → i < 553 → get_or (places l) i false ≡ bit ((i + 1) % 8) (get_or l ((i + 1) / 8) 0)
  unfolding places
  hamming-bit i h j =
      ap (λ (n : ℕ). get_or (take protected_places (bits_of l) ++ rest) n false) (place i h)
      ∙ get_or-append-add (take protected_places (bits_of l)) rest (i - 543) false
      ∙ get_or-take hamming_places (drop (suc protected_places) (bits_of l)) (i - 543) false (omega (arith, hamming-is))
      ∙ get_or-drop (suc protected_places) (bits_of l) (i - 543) false
      ∙ ap (λ (n : ℕ). get_or (bits_of l) n false) (parts i h)
      ∙ get_or-bits_of l ((i + 1) / 8) ((i + 1) % 8) (omega arith) (omega arith)
    where
      rest : Word
      rest = take hamming_places (drop (suc protected_places) (bits_of l))

      front : length (take protected_places (bits_of l)) ≡ protected_places
      front = length-take-le protected_places (bits_of l) (omega (arith, protected-is, length-bits_of l))

      place : (i : ℕ) → 543 ≤ i → i ≡ length (take protected_places (bits_of l)) + (i - 543)
      place i h = omega (arith, front, protected-is)

      parts : (i : ℕ) → 543 ≤ i → suc protected_places + (i - 543) ≡ 8 * ((i + 1) / 8) + (i + 1) % 8
      parts i h = omega (arith, protected-is)

  -- a protected place stands at the same number among all places
  pub protected-place : (i : ℕ) → i < 543 → get_or (places l) i false ≡ get_or (protected (places l)) i false
  unfolding protected
  protected-place i h = sym (get_or-take protected_places (places l) i false (omega (arith, protected-is)))

-- ---- exclusive or of lines
pub places-xor : (a b : List ℕ) → length a ≡ 70 → length b ≡ 70 → places (xor_bytes a b) ≡ places a ⊕ places b
unfolding places
places-xor a b e f =
    ap (λ (w : Word). take protected_places w ++ take hamming_places (drop (suc protected_places) w)) (bits_of-xor a b (e ∙ sym f))
    ∙ ap₂ ◌++◌ (take-xor protected_places (bits_of a) (bits_of b))
    (ap (take hamming_places) (drop-xor (suc protected_places) (bits_of a) (bits_of b))
    ∙ take-xor hamming_places (drop (suc protected_places) (bits_of a)) (drop (suc protected_places) (bits_of b)))
    ∙ sym (xor-append (take protected_places (bits_of a)) (take protected_places (bits_of b))
    (take hamming_places (drop (suc protected_places) (bits_of a)))
    (take hamming_places (drop (suc protected_places) (bits_of b))) (front a e ∙ sym (front b f)))
  where
    front : (l : List ℕ) → length l ≡ 70 → length (take protected_places (bits_of l)) ≡ protected_places
    front l e = length-take-le protected_places (bits_of l) (omega (arith, protected-is, length-bits_of l))

-- of lines with spare bits 0, whose exclusive or then has them 0 too
pub line_of-xor : (w v : Word) → length w ≡ length v → xor_bytes (line_of w) (line_of v) ≡ line_of (w ⊕ v)
unfolding line_of
line_of-xor w v e =
    xor_bytes-bytes_of line_bytes (take protected_places w ++ (false ∷ drop protected_places w))
    (take protected_places v ++ (false ∷ drop protected_places v))
    ∙ ap (bytes_of line_bytes)
    (xor-append (take protected_places w) (take protected_places v) (false ∷ drop protected_places w) (false ∷ drop protected_places v)
    (length-take protected_places w ∙ ap (min protected_places) e ∙ sym (length-take protected_places v))
    ∙ ap₂ (λ (x y : Word). x ++ (false ∷ y)) (sym (take-xor protected_places w v)) (sym (drop-xor protected_places w v)))

-- ---- a place turned over
module _ (l : List ℕ) (whole : length l ≡ 70) where
  room : length (bits_of l) ≡ 560
  room = length-bits_of l ∙ ap (λ (n : ℕ). 8 * n) whole

  front_length : length (take protected_places (bits_of l)) ≡ protected_places
  front_length = length-take-le protected_places (bits_of l) (omega (arith, protected-is, room))

  -- bit n of byte n / 8, turned over in the bytes
  turned : (n : ℕ) → n < 560 → bits_of (set l (n / 8) (bit_xor (get_or l (n / 8) 0) (2 ^ (n % 8)))) ≡ flip n (bits_of l)
  turned n h = flip-bits_of l (n / 8) (n % 8) (omega arith) (omega arith) ∙ ap (λ (k : ℕ). flip k (bits_of l)) (parts n)
    where
      parts : (n : ℕ) → 8 * (n / 8) + n % 8 ≡ n
      parts n = omega arith

  pub flip-protected : (i : ℕ) → i < 543 → places (set l (i / 8) (bit_xor (get_or l (i / 8) 0) (2 ^ (i % 8)))) ≡ flip i (places l)
  unfolding places
  flip-protected i h =
      ap (λ (w : Word). take protected_places w ++ take hamming_places (drop (suc protected_places) w)) (turned i (omega arith))
      ∙ ap₂ ◌++◌ (take-flip protected_places i (bits_of l))
      (ap (take hamming_places) (drop-flip (suc protected_places) i (bits_of l) (omega (arith, protected-is))))
      ∙ sym (flip-append i (take protected_places (bits_of l)) (take hamming_places (drop (suc protected_places) (bits_of l)))
      (omega (arith, front_length, protected-is)))

  pub flip-hamming : (i : ℕ) → 543 ≤ i → i < 553
      → places (set l ((i + 1) / 8) (bit_xor (get_or l ((i + 1) / 8) 0) (2 ^ ((i + 1) % 8)))) ≡ flip i (places l)
  unfolding places
  flip-hamming i h j =
      ap (λ (w : Word). take protected_places w ++ take hamming_places (drop (suc protected_places) w)) (turned (i + 1) (omega arith))
      ∙ ap₂ ◌++◌ front (ap (take hamming_places) back ∙ take-flip hamming_places (i - 543) (drop (suc protected_places) (bits_of l)))
      ∙ sym (flip-append-add (i - 543) (take protected_places (bits_of l)) (take hamming_places (drop (suc protected_places) (bits_of l))))
      ∙ ap (λ (n : ℕ). flip n (take protected_places (bits_of l) ++ take hamming_places (drop (suc protected_places) (bits_of l)))) place
    where
      front : take protected_places (flip (i + 1) (bits_of l)) ≡ take protected_places (bits_of l)
      front =
          take-flip protected_places (i + 1) (bits_of l)
          ∙ flip-past (i + 1) (take protected_places (bits_of l)) (omega (arith, front_length, protected-is))

      back : drop (suc protected_places) (flip (i + 1) (bits_of l)) ≡ flip (i - 543) (drop (suc protected_places) (bits_of l))
      back =
          let e : i + 1 ≡ suc protected_places + (i - 543) = omega (arith, protected-is) in
          ap (λ (n : ℕ). drop (suc protected_places) (flip n (bits_of l))) e
          ∙ drop-flip-add (suc protected_places) (i - 543) (bits_of l)

      place : length (take protected_places (bits_of l)) + (i - 543) ≡ i
      place = omega (arith, front_length, protected-is)

  -- the same of the bit at which a place stands, protected or not
  pub place-bit : (i b : ℕ) → i < 553 → b ≡ cond (ltb i 543) i (i + 1) → get_or (places l) i false ≡ bit (b % 8) (get_or l (b / 8) 0)
  place-bit i b h e = go (dec_lt i 543)
    where
      go : Dec (i < 543) → get_or (places l) i false ≡ bit (b % 8) (get_or l (b / 8) 0)
      go (yes d) =
          subst (λ (n : ℕ). get_or (places l) i false ≡ bit (n % 8) (get_or l (n / 8) 0)) (sym (e ∙ ap (λ (t : Bool). cond t i (i + 1)) (lt-ltb i 543 d)))
          (protected-place l whole i d ∙ protected-bit l whole i d)
      go (no d) =
          subst (λ (n : ℕ). get_or (places l) i false ≡ bit (n % 8) (get_or l (n / 8) 0)) (sym (e ∙ ap (λ (t : Bool). cond t i (i + 1)) (le-ltb i 543 (omega arith))))
          (hamming-bit l whole i (omega arith) h)

  pub flip-bit : (i b : ℕ) → i < 553 → b ≡ cond (ltb i 543) i (i + 1)
      → places (set l (b / 8) (bit_xor (get_or l (b / 8) 0) (2 ^ (b % 8)))) ≡ flip i (places l)
  flip-bit i b h e = go (dec_lt i 543)
    where
      P : ℕ → Type 0
      P n = places (set l (n / 8) (bit_xor (get_or l (n / 8) 0) (2 ^ (n % 8)))) ≡ flip i (places l)

      go : Dec (i < 543) → places (set l (b / 8) (bit_xor (get_or l (b / 8) 0) (2 ^ (b % 8)))) ≡ flip i (places l)
      go (yes d) = subst P (sym (e ∙ ap (λ (t : Bool). cond t i (i + 1)) (lt-ltb i 543 d))) (flip-protected i d)
      go (no d) = subst P (sym (e ∙ ap (λ (t : Bool). cond t i (i + 1)) (le-ltb i 543 (omega arith)))) (flip-hamming i (omega arith) h)

  pub flip-none : (i : ℕ) → 553 ≤ i → places l ≡ flip i (places l)
  flip-none i h = sym (flip-past i (places l) (omega (arith, length-places l whole, places_is)))

-- ---- lines made from places
number-zeros : (j k : ℕ) → number (take j (zeros k)) ≡ 0
number-zeros zero k = refl
number-zeros (suc j) zero = refl
number-zeros (suc j) (suc k) = ap (λ (n : ℕ). 2 * n) (number-zeros j k)

take-pad : (j k : ℕ) (x : Word) → number (take j (x ++ zeros k)) ≡ number (take j x)
take-pad zero k x = refl
take-pad (suc j) k [] = number-zeros (suc j) k
take-pad (suc j) k (false ∷ x) = ap (λ (n : ℕ). 2 * n) (take-pad j k x)
take-pad (suc j) k (true ∷ x) = ap (λ (n : ℕ). suc (2 * n)) (take-pad j k x)

drop-pad : (j k : ℕ) (x : Word) → (m : ℕ) × (drop j (x ++ zeros k) ≡ drop j x ++ zeros m)
drop-pad zero k x = (k, refl)
drop-pad (suc j) zero [] = (zero, refl)
drop-pad (suc j) (suc k) [] = let p = drop-pad j k [] in (p.0, p.1 ∙ ap (λ (w : Word). w ++ zeros p.0) (take_nil' j))
  where
    take_nil' : (j : ℕ) → drop {A = Bool} j [] ≡ []
    take_nil' zero = refl
    take_nil' (suc j) = refl
drop-pad (suc j) k (b ∷ x) = drop-pad j k x

-- bits that are wanting are 0
bytes_of-pad : (n k : ℕ) (x : Word) → bytes_of n (x ++ zeros k) ≡ bytes_of n x
bytes_of-pad zero k x = refl
bytes_of-pad (suc n) k x =
    let p = drop-pad 8 k x in
    ap₂ (λ (a : ℕ) (l : List ℕ). a ∷ l) (take-pad 8 k x) (ap (bytes_of n) p.1 ∙ bytes_of-pad n p.0 (drop 8 x))

pub length-line_of : (w : Word) → length (line_of w) ≡ 70
unfolding line_of
length-line_of w = length-bytes_of line_bytes (take protected_places w ++ (false ∷ drop protected_places w)) ∙ bytes-is

pub bytes-line_of : (w : Word) → Bytes (line_of w)
unfolding line_of
bytes-line_of w = bytes-bytes_of line_bytes (take protected_places w ++ (false ∷ drop protected_places w))

module _ (w : Word) (least : 543 ≤ length w) (most : length w ≤ 553) where
  front : Word
  front = take protected_places w

  length-front-w : length front ≡ protected_places
  unfolding front
  length-front-w = length-take-le protected_places w (omega (arith, protected-is))

  bits-line_of : bits_of (line_of w) ≡ front ++ (false ∷ (drop protected_places w ++ zeros (559 - length w)))
  unfolding line_of front
  bits-line_of =
      ap bits_of (sym (bytes_of-pad line_bytes (559 - length w) x))
      ∙ bits_of-bytes_of line_bytes (x ++ zeros (559 - length w)) full
      ∙ append_assoc front (false ∷ drop protected_places w) (zeros (559 - length w))
    where
      x : Word
      x = front ++ (false ∷ drop protected_places w)

      full : length (x ++ zeros (559 - length w)) ≡ 8 * line_bytes
      full =
          length-append x (zeros (559 - length w))
          ∙ ap₂ ◌+◌ (length-append front (false ∷ drop protected_places w)) (length-replicate (559 - length w) false)
          ∙ omega (arith, length-front-w, length-drop protected_places w, protected-is, bytes-is)

  -- the protected places come back
  pub protected-line_of : protected (places (line_of w)) ≡ take protected_places w
  unfolding front
  protected-line_of =
      protected-bits (line_of w) (length-line_of w)
      ∙ ap (take protected_places) bits-line_of
      ∙ take_at front (false ∷ (drop protected_places w ++ zeros (559 - length w))) protected_places length-front-w

  -- and so do all places, where there are 553
  pub places-line_of : length w ≡ line_places → places (line_of w) ≡ w
  unfolding places front
  places-line_of e =
      ap (λ (x : Word). take protected_places x ++ take hamming_places (drop (suc protected_places) x)) bits-line_of
      ∙ ap₂ ◌++◌ (take_at front (false ∷ (h ++ zeros (559 - length w))) protected_places length-front-w)
      (ap (take hamming_places) back ∙ take_at h (zeros (559 - length w)) hamming_places ten)
      ∙ take-append-drop protected_places w
    where
      h : Word
      h = drop protected_places w

      ten : length h ≡ hamming_places
      ten = length-drop protected_places w ∙ omega (arith, e, protected-is, places_is, hamming-is)

      back : drop (suc protected_places) (front ++ (false ∷ (h ++ zeros (559 - length w)))) ≡ h ++ zeros (559 - length w)
      back =
          ap (drop (suc protected_places)) (sym (append_snoc front false (h ++ zeros (559 - length w))))
          ∙ drop_at (front ++ (false ∷ [])) (h ++ zeros (559 - length w)) (suc protected_places)
          (length-append front (false ∷ []) ∙ omega (arith, length-front-w))
