-- Settling a group: exactly one faulty line is rebuilt, from its own bytes and the group's difference.
use mathlib.Core.Path.{◌≡◌, refl, sym, ap, ◌∙◌, subst}
use mathlib.Core.Logic.{inl}
use mathlib.Core.List.{List, [], ◌∷◌}
use Prim.Native.Nat.{ℕ}
use native.Mathlib.Omega.{arith}
use borrow.Author.Tests.{eqb-true}
use lib.Dec.{eqb}
use lib.ListN.{length, get_or, set}
use Rattle.std.specs.Prelude.{Some, None, slice_get}
use Rattle.gf2.specs.Word.{Word, ◌⊕◌, zeros}
use Rattle.gf2.proofs.Xor.{xor_comm, xor_assoc, xor_self, length-xor-same}
use Rattle.gf2.proofs.Crc.{zeros-xor}
use Rattle.linecode.specs.Places.{line_places}
use Rattle.scheme.specs.Visit.{Group, State, line_at, faulty_of, without, sum, rebuild, rebuild_only, settle}
use Rattle.scheme.specs.Demand3.{◌∈◌, Rising}
use Rattle.scheme.proofs.Lists.{selected}
use Rattle.scheme.proofs.Sums.{sum-split}
use Rattle.groups.specs.Lent.{faulty_among}

-- a list of one, by its first
pub first-only : (l : List ℕ) (n : ℕ) → length l ≡ 1 → Some n ≡ slice_get l 0 → l ≡ n ∷ []
first-only [] n e h = cc
first-only (m ∷ []) n e h = cc
first-only (m ∷ k ∷ l) n e h = absurd (omega arith)

-- a list with no first has none
pub no-first : (l : List ℕ) → None ≡ slice_get l 0 → length l ≡ 0
no-first [] h = refl
no-first (m ∷ l) h = cc

-- the only faulty line of some is one of them, and faulty
module _ (marks ms : List ℕ) (one : length (faulty_among marks ms) ≡ 1) (n : ℕ) (n-is : Some n ≡ slice_get (faulty_among marks ms) 0) where
  pub only-faulty-line : faulty_among marks ms ≡ n ∷ []
  only-faulty-line = first-only (faulty_among marks ms) n one n-is

  pub only-member : (n ∈ ms) × (get_or marks n 0 ≡ 4)
  unfolding faulty_among
  only-member =
      let both = selected (λ m. eqb (get_or marks m 0) 4) ms n (subst (λ (l : List ℕ). n ∈ l) (sym only-faulty-line) (inl refl)) in
      (both.0, eqb-true _ 4 both.1)

-- one line, added to the sum of all lines and the parity line, leaves the parity line and the others
others : (p l r : Word) → length l ≡ line_places → length p ≡ line_places → l ⊕ ((l ⊕ r) ⊕ p) ≡ p ⊕ r
others p l r e f =
    ap (λ (x : Word). l ⊕ x) (xor_assoc l r p)
    ∙ sym (xor_assoc l l (r ⊕ p))
    ∙ ap (λ (x : Word). x ⊕ (r ⊕ p)) (xor_self l)
    ∙ ap (λ (x : Word). zeros (length l) ⊕ x) (xor_comm r p)
    ∙ sym (xor_assoc (zeros (length l)) p r)
    ∙ ap (λ (x : Word). x ⊕ r) (zeros-xor (length l) p (f ∙ sym e))

module _ (g : Group) (s : State) (n : ℕ) where
  -- what the line is rebuilt to
  abbrev pub rebuilt-word : Word
  rebuilt-word = g.parity ⊕ sum (line_at s) (without n g.members)

  pub settled : faulty_of s g.members ≡ n ∷ [] → set s n (record { line = rebuilt-word; mark = 3 }) ≡ settle g s
  unfolding settle rebuild
  settled only = sym (ap (rebuild_only g s) only)

  -- the line itself and the group's difference together are that
  module _ (rising : Rising g.members) (member : n ∈ g.members) (own : length (line_at s n) ≡ line_places)
      (wide : length g.parity ≡ line_places) where
    pub rebuilt-is : line_at s n ⊕ (sum (line_at s) g.members ⊕ g.parity) ≡ rebuilt-word
    rebuilt-is =
        ap (λ (w : Word). line_at s n ⊕ (w ⊕ g.parity)) (sum-split (line_at s) n g.members rising member)
        ∙ others g.parity (line_at s n) (sum (line_at s) (without n g.members)) own wide

    pub rebuilt-long : length (sum (line_at s) g.members ⊕ g.parity) ≡ line_places → length rebuilt-word ≡ line_places
    rebuilt-long e = ap length (sym rebuilt-is) ∙ length-xor-same (line_at s n) _ (own ∙ sym e) ∙ own
