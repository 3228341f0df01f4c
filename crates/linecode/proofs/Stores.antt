-- What stores into a line's last bytes leave: spare bits cleared, Hamming bits afresh, the CRC afresh.
use mathlib.Core.Path.{◌≡◌, refl, sym, ap, ap₂, ◌∙◌}
use mathlib.Core.List.{List, [], ◌∷◌, ◌++◌, append-nil, append_assoc}
use Prim.Native.Nat.{ℕ, ◌+◌, ◌*◌, ◌/◌, ◌%◌, ◌<◌}
use native.Mathlib.Nat.{div-div-eq-div-mul}
use native.Mathlib.Omega.{arith}
use lib.ListN.{length, take, drop, get_or, set, length-append, drop_of_length-le}
use lib.Seq.{drop_at, sets, sets-eq, set-get_or, length-take-le, get_or-set_other, get_or-take}
use Rattle.gf2.specs.Word.{Word, digits, number}
use Rattle.gf2.specs.Check.{column_sum}
use Rattle.gf2.proofs.Digits.{number_digits, number_small, digits-add, digits_mod, number_append}
use Rattle.linecode.specs.Places.{data_places, bits_of, bytes_of, places, line_of}
use Rattle.linecode.specs.Code.{protected, data_of, stored_crc, stored_hamming, positions, with_hamming}
use Rattle.linecode.proofs.Bytes.{Bytes, bytes_take, bytes-append, byte_at, length-bits_of, bits_of-append}
use Rattle.linecode.proofs.Line.{data_is, sixty_four, data_of-line, split-three, line_of-bits, crc_end, hamming_end, length-crc_end, length_front, places-line, protected-line, stored_hamming-line}
use Rattle.linecode.proofs.Positions.{position-sum-lt, with_hamming-digits}

-- three bytes stored from byte 67 on
store-three : (l : List ℕ) → length l ≡ 70 → (x y z : ℕ) → sets l 67 (x ∷ y ∷ z ∷ []) ≡ take 67 l ++ (x ∷ y ∷ z ∷ [])
store-three l e x y z =
    sets-eq (x ∷ y ∷ z ∷ []) l 67 (omega arith)
    ∙ ap (λ (t : List ℕ). take 67 l ++ (x ∷ y ∷ z ∷ []) ++ t) (drop_of_length-le l {i = 70} (omega arith))
    ∙ append-nil (take 67 l ++ (x ∷ y ∷ z ∷ []))

-- ten bits of a number as two bytes
ten-bytes : (s : ℕ) → s < 1024 → bytes_of 2 (digits 10 s) ≡ s % 256 ∷ s / 256 ∷ []
ten-bytes s h =
    ap (bytes_of 2) (digits-add 8 2 s)
    ∙ ap₂ (λ (y z : ℕ). y ∷ z ∷ []) (number_digits 8 s)
    (number_digits 2 (s / 256) ∙ omega arith)

module _ (l : List ℕ) (whole : length l ≡ 70) (bytes : Bytes l) where
  crc_end-number : number (crc_end l) ≡ get_or l 67 0 % 128
  unfolding crc_end
  crc_end-number = number_digits 7 (get_or l 67 0)

  -- the protected places with ten more, in bytes
  with-ten : (t : Word) (y z : ℕ) → bytes_of 2 t ≡ y ∷ z ∷ []
      → take 67 l ++ (get_or l 67 0 % 128 ∷ y ∷ z ∷ []) ≡ line_of (protected (places l) ++ t)
  with-ten t y z e =
      sym (ap line_of
      (ap (λ (w : Word). w ++ t) (protected-line l whole) ∙ append_assoc (bits_of (take 67 l)) (crc_end l) t)
      ∙ line_of-bits (take 67 l) (length_front l whole) (crc_end l) t (bytes_take 67 l bytes) (length-crc_end l)
      ∙ ap₂ (λ (a : ℕ) (r : List ℕ). take 67 l ++ (a ∷ r)) crc_end-number e)

  hamming_end-bytes : bytes_of 2 (hamming_end l) ≡ get_or l 68 0 ∷ get_or l 69 0 % 4 ∷ []
  unfolding hamming_end
  hamming_end-bytes =
      ap₂ (λ (y z : ℕ). y ∷ z ∷ []) (number_small 8 (get_or l 68 0) (byte_at l 68 bytes)) (number_digits 2 (get_or l 69 0))

  pub stored_hamming-number : get_or l 68 0 + 256 * (get_or l 69 0 % 4) ≡ number (stored_hamming (places l))
  unfolding hamming_end
  stored_hamming-number =
      let h = number_append (digits 8 (get_or l 68 0)) (digits 2 (get_or l 69 0)) in
      let a = number_small 8 (get_or l 68 0) (byte_at l 68 bytes) in
      let b = number_digits 2 (get_or l 69 0) in
      let n : number (hamming_end l) ≡ number (stored_hamming (places l)) = ap number (sym (stored_hamming-line l whole)) in
      omega arith

  -- spare bits cleared
  pub cleared : set (set l 67 (get_or l 67 0 % 128)) 69 (get_or (set l 67 (get_or l 67 0 % 128)) 69 0 % 4) ≡ line_of (places l)
  cleared =
      ap (λ (k : List ℕ). set k 69 (get_or m 69 0 % 4)) (sym (set-get_or m 68 0))
      ∙ store-three l whole (get_or l 67 0 % 128) (get_or m 68 0) (get_or m 69 0 % 4)
      ∙ ap₂ (λ (y z : ℕ). take 67 l ++ (get_or l 67 0 % 128 ∷ y ∷ z % 4 ∷ []))
      (get_or-set_other l 67 68 (get_or l 67 0 % 128) 0 (λ (e : 68 ≡ 67). omega arith))
      (get_or-set_other l 67 69 (get_or l 67 0 % 128) 0 (λ (e : 69 ≡ 67). omega arith))
      ∙ with-ten (hamming_end l) (get_or l 68 0) (get_or l 69 0 % 4) hamming_end-bytes
      ∙ ap (λ (w : Word). line_of (w ++ hamming_end l)) (protected-line l whole)
      ∙ ap line_of (sym (places-line l whole))
    where
      m : List ℕ
      m = set l 67 (get_or l 67 0 % 128)

  -- ten bits of a number stored as the Hamming bits
  stored-ten : (s : ℕ) → s < 1024
      → sets l 67 (get_or l 67 0 % 128 ∷ s % 256 ∷ s / 256 ∷ []) ≡ line_of (protected (places l) ++ digits 10 s)
  stored-ten s h =
      store-three l whole (get_or l 67 0 % 128) (s % 256) (s / 256) ∙ with-ten (digits 10 s) (s % 256) (s / 256) (ten-bytes s h)

  -- the sum of the positions stored as the Hamming bits
  pub stored-sum : (s : ℕ) → s ≡ column_sum positions (protected (places l))
      → sets l 67 (get_or l 67 0 % 128 ∷ s % 256 ∷ s / 256 ∷ []) ≡ line_of (with_hamming (protected (places l)))
  stored-sum s e =
      stored-ten s (omega (arith, position-sum-lt (protected (places l))))
      ∙ ap (λ (n : ℕ). line_of (protected (places l) ++ digits 10 n)) e
      ∙ ap line_of (sym (with_hamming-digits (protected (places l))))

  -- ---- the data and the CRC
  length-data : length (bits_of (take 64 l)) ≡ data_places
  length-data =
      length-bits_of (take 64 l) ∙ ap (λ (n : ℕ). 8 * n) (length-take-le 64 l (omega arith)) ∙ sym data_is

  front_bytes : take 67 l ≡ take 64 l ++ (get_or l 64 0 ∷ get_or l 65 0 ∷ get_or l 66 0 ∷ [])
  front_bytes =
      split-three 64 (take 67 l) (length_front l whole)
      ∙ ap (λ (p : List ℕ). p ++ (get_or (take 67 l) 64 0 ∷ get_or (take 67 l) 65 0 ∷ get_or (take 67 l) 66 0 ∷ [])) (sixty_four l whole)
      ∙ ap (λ (t : List ℕ). take 64 l ++ t)
      (ap₂ (λ (a : ℕ) (t : List ℕ). a ∷ t) (get_or-take 67 l 64 0 (omega arith))
      (ap₂ (λ (a b : ℕ). a ∷ b ∷ []) (get_or-take 67 l 65 0 (omega arith)) (get_or-take 67 l 66 0 (omega arith))))

  -- the stored CRC is bytes 64 to 66 and seven bits of byte 67
  crc-bits : Word
  crc-bits = digits 8 (get_or l 64 0) ++ (digits 8 (get_or l 65 0) ++ (digits 8 (get_or l 66 0) ++ crc_end l))

  protected-crc : protected (places l) ≡ bits_of (take 64 l) ++ crc-bits
  unfolding crc-bits
  protected-crc =
      protected-line l whole
      ∙ ap (λ (w : Word). w ++ crc_end l)
      (ap bits_of front_bytes ∙ bits_of-append (take 64 l) (get_or l 64 0 ∷ get_or l 65 0 ∷ get_or l 66 0 ∷ []))
      ∙ append_assoc (bits_of (take 64 l)) (bits_of (get_or l 64 0 ∷ get_or l 65 0 ∷ get_or l 66 0 ∷ [])) (crc_end l)

  stored_crc-bits : stored_crc (places l) ≡ crc-bits
  unfolding stored_crc
  stored_crc-bits =
      ap (drop data_places) protected-crc ∙ drop_at (bits_of (take 64 l)) crc-bits data_places length-data

  pub length-stored_crc : length (stored_crc (places l)) ≡ 31
  unfolding crc-bits crc_end
  length-stored_crc = ap length stored_crc-bits

  -- a line's protected places are its data and its stored CRC
  pub protected-parts : protected (places l) ≡ data_of (places l) ++ stored_crc (places l)
  protected-parts = protected-crc ∙ sym (ap₂ ◌++◌ (data_of-line l whole) stored_crc-bits)

  pub stored_crc-number : get_or l 64 0 + 256 * get_or l 65 0 + 65536 * get_or l 66 0 + 16777216 * (get_or l 67 0 % 128)
      ≡ number (stored_crc (places l))
  unfolding crc-bits
  stored_crc-number =
      let three = number_append (digits 8 (get_or l 66 0)) (crc_end l) in
      let two = number_append (digits 8 (get_or l 65 0)) (digits 8 (get_or l 66 0) ++ crc_end l) in
      let one = number_append (digits 8 (get_or l 64 0)) (digits 8 (get_or l 65 0) ++ (digits 8 (get_or l 66 0) ++ crc_end l)) in
      let a = number_small 8 (get_or l 64 0) (byte_at l 64 bytes) in
      let b = number_small 8 (get_or l 65 0) (byte_at l 65 bytes) in
      let c = number_small 8 (get_or l 66 0) (byte_at l 66 bytes) in
      let e = crc_end-number in
      let n : number crc-bits ≡ number (stored_crc (places l)) = ap number (sym stored_crc-bits) in
      omega arith

  -- a register of 31 bits stored as the CRC, and ten more places
  stored-both : (r : ℕ) (t : Word) (u v : ℕ) → r < 2147483648 → bytes_of 2 t ≡ u ∷ v ∷ []
      → sets l 64 (r % 256 ∷ r / 256 % 256 ∷ r / 65536 % 256 ∷ r / 16777216 % 256 ∷ u ∷ v ∷ [])
      ≡ line_of ((data_of (places l) ++ digits 31 r) ++ t)
  stored-both r t u v h e =
      sets-eq six l 64 (omega arith)
      ∙ ap (λ (t : List ℕ). take 64 l ++ six ++ t) (drop_of_length-le l {i = 70} (omega arith))
      ∙ append-nil (take 64 l ++ six)
      ∙ sym (append_assoc (take 64 l) (x ∷ y ∷ z ∷ []) (r / 16777216 % 256 ∷ u ∷ v ∷ []))
      ∙ ap₂ (λ (a : ℕ) (b : List ℕ). p ++ (a ∷ b)) (high ∙ sym (number_digits 7 (r / 16777216))) (sym e)
      ∙ sym (line_of-bits p sixty_seven (digits 7 (r / 16777216)) t all refl)
      ∙ ap line_of (sym bits)
    where
      x : ℕ
      x = r % 256

      y : ℕ
      y = r / 256 % 256

      z : ℕ
      z = r / 65536 % 256

      six : List ℕ
      six = x ∷ y ∷ z ∷ r / 16777216 % 256 ∷ u ∷ v ∷ []

      p : List ℕ
      p = take 64 l ++ (x ∷ y ∷ z ∷ [])

      sixty_seven : length p ≡ 67
      sixty_seven = length-append (take 64 l) (x ∷ y ∷ z ∷ []) ∙ ap (λ (n : ℕ). n + 3) (length-take-le 64 l (omega arith))

      all : Bytes p
      all = bytes-append (take 64 l) (x ∷ y ∷ z ∷ []) (bytes_take 64 l bytes) (omega arith, (omega arith, (omega arith, tt)))

      high : r / 16777216 % 256 ≡ r / 16777216 % 128
      high = omega arith

      thirty-one : digits 31 r ≡ digits 8 x ++ (digits 8 y ++ (digits 8 z ++ digits 7 (r / 16777216)))
      thirty-one =
          digits-add 8 23 r
          ∙ ap₂ ◌++◌ (sym (digits_mod 8 r))
          (digits-add 8 15 (r / 256)
          ∙ ap₂ ◌++◌ (sym (digits_mod 8 (r / 256)))
          (ap (digits 15) (div-div-eq-div-mul r 256 256)
          ∙ digits-add 8 7 (r / 65536)
          ∙ ap₂ ◌++◌ (sym (digits_mod 8 (r / 65536))) (ap (digits 7) (div-div-eq-div-mul r 65536 256))))

      bits : (data_of (places l) ++ digits 31 r) ++ t ≡ bits_of p ++ (digits 7 (r / 16777216) ++ t)
      bits =
          ap (λ (w : Word). w ++ t)
          (ap₂ ◌++◌ (data_of-line l whole) thirty-one
          ∙ sym (ap (λ (w : Word). w ++ digits 7 (r / 16777216)) (bits_of-append (take 64 l) (x ∷ y ∷ z ∷ []))
          ∙ append_assoc (bits_of (take 64 l)) (bits_of (x ∷ y ∷ z ∷ [])) (digits 7 (r / 16777216))))
          ∙ append_assoc (bits_of p) (digits 7 (r / 16777216)) t

  -- with ten bits of a number as the Hamming bits
  pub stored-all : (r s : ℕ) → r < 2147483648 → s < 1024
      → sets l 64 (r % 256 ∷ r / 256 % 256 ∷ r / 65536 % 256 ∷ r / 16777216 % 256 ∷ s % 256 ∷ s / 256 ∷ [])
      ≡ line_of ((data_of (places l) ++ digits 31 r) ++ digits 10 s)
  stored-all r s h k = stored-both r (digits 10 s) (s % 256) (s / 256) h (ten-bytes s k)
