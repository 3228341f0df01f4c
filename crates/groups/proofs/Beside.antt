-- One line of the store changes: what becomes of what stands beside a group.
use mathlib.Core.Path.{◌≡◌, sym, ap, ap₂, subst, ◌∙◌}
use mathlib.Core.Logic.{inl, inr}
use mathlib.Core.Bool.{Bool, true, false, not, cond}
use mathlib.Core.List.{List, [], ◌∷◌}
use Prim.Native.Nat.{ℕ, ◌+◌, ◌<◌}
use native.Mathlib.Nat.{lt_irrefl}
use native.Mathlib.Omega.{arith}
use borrow.Author.Tests.{eqb-false, not-true}
use lib.Dec.{eqb}
use lib.ListN.{length}
use Rattle.gf2.specs.Word.{Word, ◌⊕◌}
use Rattle.gf2.proofs.Xor.{xor_comm, xor_assoc, length-xor-same}
use Rattle.linecode.specs.Places.{line_places, places, line_of, xor_bytes}
use Rattle.scheme.specs.Layer.{Cell}
use Rattle.scheme.specs.Visit.{Group, State, cell_at, line_at, is_faulty, select, faulty_of, without, sum}
use Rattle.scheme.specs.Demand3.{◌∈◌, Rising}
use Rattle.scheme.proofs.Lists.{selected, select-ext}
use Rattle.scheme.proofs.Sums.{sum-ext, sum-split}
use Rattle.rectangle.proofs.Spare.{places-line_of, line_of-xor}
use Rattle.groups.specs.Lent.{Beside}

-- a fact as a number
abbrev pub one-if : Bool → ℕ
one-if true = 1
one-if false = 0

-- a difference has its spare bits 0, so that the exclusive or of its bytes and a line's needs no clearing
pub clean-sum : (g : Group) (s : State) (line : List ℕ) (count : ℕ) → Beside g s line count → (w : Word) → length w ≡ line_places
    → xor_bytes line (line_of w) ≡ line_of (places line ⊕ w)
clean-sum g s line count b w e =
    ap (λ (l : List ℕ). xor_bytes l (line_of w)) b.lack
    ∙ line_of-xor v w (b.long ∙ sym e)
    ∙ ap (λ (x : Word). line_of (x ⊕ w)) (sym (ap places b.lack ∙ places-line_of v b.long))
  where
    v : Word
    v = sum (line_at s) g.members ⊕ g.parity

-- how many are selected where the test changes for one of them
pub count-changed : (f g : ℕ → Bool) (n : ℕ) (ns : List ℕ) → Rising ns → n ∈ ns → ((m : ℕ) → (m ≡ n → ⊥) → g m ≡ f m)
    → length (select g ns) + one-if (f n) ≡ length (select f ns) + one-if (g n)
count-changed f g n [] r i h = absurd i
count-changed f g n (m ∷ ms) r (inl p) h =
    step (f n) (g n) (f m) (g m) (ap f (sym p)) (ap g (sym p))
    (ap length (select-ext g f ms (λ k j. h k (λ (e : k ≡ n). lt_irrefl k (subst (λ (x : ℕ). x < k) (sym (e ∙ p)) (r.0 k j))))))
  where
    step : (a b c d : Bool) → c ≡ a → d ≡ b → length (select g ms) ≡ length (select f ms)
        → length (cond d (m ∷ select g ms) (select g ms)) + one-if a ≡ length (cond c (m ∷ select f ms) (select f ms)) + one-if b
    step a b c d p q e =
        subst (λ (x : Bool). length (cond d (m ∷ select g ms) (select g ms)) + one-if a ≡ length (cond x (m ∷ select f ms) (select f ms)) + one-if b) (sym p)
        (subst (λ (x : Bool). length (cond x (m ∷ select g ms) (select g ms)) + one-if a ≡ length (cond a (m ∷ select f ms) (select f ms)) + one-if b) (sym q)
        (cases a b))
      where
        cases : (a b : Bool) → length (cond b (m ∷ select g ms) (select g ms)) + one-if a ≡ length (cond a (m ∷ select f ms) (select f ms)) + one-if b
        cases true true = omega arith
        cases true false = omega arith
        cases false true = omega arith
        cases false false = omega arith
count-changed f g n (m ∷ ms) r (inr i) h =
    step (f m) (g m) (h m (λ (e : m ≡ n). lt_irrefl n (subst (λ (x : ℕ). x < n) e (r.0 n i)))) (count-changed f g n ms r.1 i h)
  where
    step : (a b : Bool) → b ≡ a → length (select g ms) + one-if (f n) ≡ length (select f ms) + one-if (g n)
        → length (cond b (m ∷ select g ms) (select g ms)) + one-if (f n) ≡ length (cond a (m ∷ select f ms) (select f ms)) + one-if (g n)
    step a b p e =
        subst (λ (x : Bool). length (cond x (m ∷ select g ms) (select g ms)) + one-if (f n) ≡ length (cond a (m ∷ select f ms) (select f ms)) + one-if (g n)) (sym p)
        (cases a)
      where
        cases : (a : Bool) → length (cond a (m ∷ select g ms) (select g ms)) + one-if (f n) ≡ length (cond a (m ∷ select f ms) (select f ms)) + one-if (g n)
        cases true = omega arith
        cases false = e

-- the stores s and t differ in line n alone
module _ (s t : State) (n : ℕ) (others : (m : ℕ) → (m ≡ n → ⊥) → cell_at t m ≡ cell_at s m) where
  -- a group without it
  pub beside-elsewhere : (g : Group) (line : List ℕ) (count : ℕ) → (n ∈ g.members → ⊥) → Beside g s line count → Beside g t line count
  beside-elsewhere g line count absent b =
      record {
        wide = b.wide;
        long = ap (λ (w : Word). length (w ⊕ g.parity)) same ∙ b.long;
        lack = b.lack ∙ ap (λ (w : Word). line_of (w ⊕ g.parity)) (sym same);
        number = b.number ∙ ap length (sym faults);
      }
    where
      apart : (m : ℕ) → m ∈ g.members → m ≡ n → ⊥
      apart m i e = absent (subst (λ (k : ℕ). k ∈ g.members) e i)

      same : sum (line_at t) g.members ≡ sum (line_at s) g.members
      same = sum-ext (line_at t) (line_at s) g.members (λ m i. ap (λ (c : Cell). c.line) (others m (apart m i)))

      faults : faulty_of t g.members ≡ faulty_of s g.members
      faults =
          select-ext (λ m. is_faulty (cell_at t m)) (λ m. is_faulty (cell_at s m)) g.members (λ m i. ap is_faulty (others m (apart m i)))

  -- a group that holds it
  module _ (change : Word) (wide : length change ≡ line_places) (changed : line_at t n ≡ line_at s n ⊕ change) where
    sum-changed : (ns : List ℕ) → Rising ns → n ∈ ns → sum (line_at t) ns ≡ sum (line_at s) ns ⊕ change
    sum-changed ns rising i =
        sum-split (line_at t) n ns rising i
        ∙ ap₂ ◌⊕◌ changed (sum-ext (line_at t) (line_at s) (without n ns) apart)
        ∙ xor_assoc (line_at s n) change rest
        ∙ ap (λ (w : Word). line_at s n ⊕ w) (xor_comm change rest)
        ∙ sym (xor_assoc (line_at s n) rest change)
        ∙ ap (λ (w : Word). w ⊕ change) (sym (sum-split (line_at s) n ns rising i))
      where
        rest : Word
        rest = sum (line_at s) (without n ns)

        apart : (m : ℕ) → m ∈ without n ns → line_at t m ≡ line_at s m
        apart m j =
            let e : (m ∈ ns) × (not (eqb m n) ≡ true) = selected (λ k. not (eqb k n)) ns m j in
            ap (λ (c : Cell). c.line) (others m (eqb-false m n (not-true _ e.1)))

    pub beside-here : (g : Group) (line line' : List ℕ) (count count' : ℕ) → Rising g.members → n ∈ g.members → Beside g s line count
        → line' ≡ line_of (places line ⊕ change)
        → count' + one-if (is_faulty (cell_at s n)) ≡ count + one-if (is_faulty (cell_at t n)) → Beside g t line' count'
    beside-here g line line' count count' rising i b e f =
        record {
          wide = b.wide;
          long = ap length total ∙ length-xor-same word change (b.long ∙ sym wide) ∙ b.long;
          lack = e ∙ ap (λ (w : Word). line_of (w ⊕ change)) (ap places b.lack ∙ places-line_of word b.long) ∙ ap line_of (sym total);
          number =
              omega (
                arith,
                b.number,
                count-changed (λ m. is_faulty (cell_at s m)) (λ m. is_faulty (cell_at t m)) n g.members rising i (λ m d. ap is_faulty (others m d)),
              );
        }
      where
        word : Word
        word = sum (line_at s) g.members ⊕ g.parity

        total : sum (line_at t) g.members ⊕ g.parity ≡ word ⊕ change
        total =
            ap (λ (w : Word). w ⊕ g.parity) (sum-changed g.members rising i)
            ∙ xor_assoc (sum (line_at s) g.members) change g.parity
            ∙ ap (λ (w : Word). sum (line_at s) g.members ⊕ w) (xor_comm change g.parity)
            ∙ sym (xor_assoc (sum (line_at s) g.members) g.parity change)
