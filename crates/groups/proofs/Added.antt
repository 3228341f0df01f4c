-- Lines of zeros, and one of the groups' differences put anew.
use mathlib.Core.Path.{◌≡◌, refl, sym, ap, ◌∙◌}
use mathlib.Core.Bool.{Bool, true, false}
use mathlib.Core.List.{List, [], ◌∷◌}
use Prim.Native.Nat.{ℕ, zero, suc, ◌*◌, ◌<◌}
use native.Mathlib.Omega.{arith}
use borrow.Author.Tests.{eq-eqb, eqb-true}
use lib.Dec.{eqb}
use lib.ListN.{length, get_or, replicate, get_or-replicate, length-replicate}
use lib.Seq.{ext_get_or}
use Rattle.std.specs.Cmp.{both_ways}
use Rattle.std.specs.Prelude.{◌↔◌, IsTrue, EachIndex, slice_index}
use Rattle.gf2.specs.Word.{Word, zeros, is_zero}
use Rattle.linecode.specs.Places.{line_places, line_bytes, places, line_of}
use Rattle.linecode.specs.Code.{up_from}
use Rattle.scheme.specs.Visit.{set_places}
use Rattle.scheme.proofs.Words.{is_zero-zeros}
use Rattle.rectangle.specs.Store.{bytes_at, put_bytes, put_line}
use Rattle.rectangle.specs.Refusals.{every}
use Rattle.rectangle.proofs.Tests.{every-below, below-every}
use Rattle.rectangle.proofs.Buffer.{length-put_line, bytes_at-put, bytes_at-other}
use Rattle.rectangle.proofs.Spare.{bytes-is, seventy-line_of, places-line_of, zero-line}
use Rattle.groups.specs.Lent.{all_zero}

-- ---- a line of zeros
zero-places : places (replicate 70 0) ≡ zeros line_places
zero-places = ap places (sym zero-line) ∙ places-line_of (zeros line_places) (length-replicate line_places false)

zero_word : (w : Word) → is_zero w ≡ true → w ≡ zeros (length w)
zero_word [] e = refl
zero_word (false ∷ w) e = ap (λ (v : Word). false ∷ v) (zero_word w e)
zero_word (true ∷ w) e = cc

zeros-places : (i n : ℕ) → set_places i (zeros n) ≡ []
zeros-places i zero = refl
zeros-places i (suc n) = zeros-places (suc i) n

-- a line whose bytes are all 0
zero-bytes : (line : List ℕ) → length line ≡ 70 → all_zero line ≡ true → line ≡ replicate 70 0
unfolding all_zero
zero-bytes line e z =
    ext_get_or 0 line (replicate 70 0) e
    (λ i h. let below : i < 70 = omega arith in eqb-true _ 0 (below-every (λ k. eqb (get_or line k 0) 0) 70 z i below) ∙ sym (get_or-replicate 70 i 0 0 below))

all-zero : all_zero (replicate 70 0) ≡ true
unfolding all_zero
all-zero = refl

pub zero-no-places : (line : List ℕ) → length line ≡ 70 → all_zero line ≡ true → set_places 0 (places line) ≡ []
zero-no-places line e z = ap (λ (l : List ℕ). set_places 0 (places l)) (zero-bytes line e z) ∙ ap (set_places 0) zero-places ∙ zeros-places 0 line_places

-- the test byte by byte
pub zero-test : (b : Bool) (line : List ℕ) → length line ≡ 70 → IsTrue b ↔ EachIndex line (λ k. slice_index line k ≡ 0) → b ≡ all_zero line
unfolding all_zero
zero-test b line e h =
    both_ways b (every (λ i. eqb (get_or line i 0) 0) (up_from 0 70))
    (λ t. every-below (λ i. eqb (get_or line i 0) 0) 70 (λ k less. eq-eqb _ 0 (h.0 t k (omega arith))))
    (λ z. h.1 (λ k less. eqb-true _ 0 (below-every (λ i. eqb (get_or line i 0) 0) 70 z k (omega arith))))

-- the bytes of a word are 0 where the word is
pub zero-line_of : (w : Word) → length w ≡ line_places → all_zero (line_of w) ≡ is_zero w
zero-line_of w e =
    both_ways (all_zero (line_of w)) (is_zero w)
    (λ z. ap is_zero (sym (places-line_of w e) ∙ ap places (zero-bytes (line_of w) (seventy-line_of w) z) ∙ zero-places) ∙ is_zero-zeros line_places)
    (λ z. ap all_zero (ap line_of (zero_word w z ∙ ap zeros e) ∙ zero-line) ∙ all-zero)

-- ---- line k of so many put anew
module _ (total : ℕ) (lacks : List ℕ) (whole : length lacks ≡ total * 70) (k : ℕ) (inside : k < total) where
  bytes : length lacks ≡ total * line_bytes
  bytes = whole ∙ ap (λ (n : ℕ). total * n) (sym bytes-is)

  module _ (line : List ℕ) (w : Word) (line-is : line ≡ line_of w) where
    put_is : put_bytes lacks k line ≡ put_line lacks k w
    unfolding put_line
    put_is = ap (put_bytes lacks k) line-is

    pub put-length : length (put_bytes lacks k line) ≡ total * 70
    put-length =
        ap length put_is ∙ length-put_line total lacks bytes k inside w ∙ ap (λ (n : ℕ). total * n) bytes-is

    pub put_same : bytes_at (put_bytes lacks k line) k ≡ line_of w
    put_same = ap (λ (b : List ℕ). bytes_at b k) put_is ∙ bytes_at-put total lacks bytes k inside w

    pub put_other : (m : ℕ) → m < total → (m ≡ k → ⊥) → bytes_at (put_bytes lacks k line) m ≡ bytes_at lacks m
    put_other m h d = ap (λ (b : List ℕ). bytes_at b m) put_is ∙ bytes_at-other total lacks bytes k inside w m h d
