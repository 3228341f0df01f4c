-- When a group's faulty lines try places, and which: each way out of a visit's first half is a case of the trials.
use mathlib.Core.Path.{◌≡◌, refl, sym, ap, ap₂, ◌∙◌}
use mathlib.Core.Bool.{Bool, true, false, cond, ◌&&◌}
use mathlib.Core.List.{List}
use Prim.Native.Nat.{ℕ, ◌≤◌, ◌<◌}
use native.Mathlib.Omega.{arith}
use borrow.Author.Tests.{le-leb, lt-leb}
use lib.Dec.{leb}
use lib.ListN.{length}
use Rattle.gf2.specs.Word.{Word, ◌⊕◌}
use Rattle.scheme.specs.Layer.{read_line}
use Rattle.scheme.specs.Visit.{Group, State, line_at, faulty_of, sum, set_places, mismatch, triable, try_lines, trial}
use Rattle.rectangle.specs.Store.{line_layer}

no_second : (a c : Bool) → a && (false && c) ≡ false
no_second true c = refl
no_second false c = refl

no_third : (a b : Bool) → a && (b && false) ≡ false
no_third true true = refl
no_third true false = refl
no_third false b = refl

module _ (g : Group) (s : State) where
  chosen : (b : Bool) → triable g s ≡ b
      → trial (read_line line_layer) g s ≡ cond b (try_lines (read_line line_layer) (mismatch g s) s g.members) s
  unfolding trial
  chosen b e = ap (λ (b : Bool). cond b (try_lines (read_line line_layer) (mismatch g s) s g.members) s) e

  parts : (a b c : Bool) → leb 2 (length (faulty_of s g.members)) ≡ a → leb 1 (length (mismatch g s)) ≡ b
      → leb (length (mismatch g s)) 6 ≡ c → triable g s ≡ a && (b && c)
  parts a b c p q r = ap₂ ◌&&◌ p (ap₂ ◌&&◌ q r)

  -- fewer than two faulty lines
  pub few-faulty : length (faulty_of s g.members) < 2 → trial (read_line line_layer) g s ≡ s
  few-faulty h = chosen false (parts false _ _ (lt-leb 2 _ h) refl refl)

  -- the places of the group's difference
  module _ (lack : Word) (lack-is : lack ≡ sum (line_at s) g.members ⊕ g.parity) where
    mismatch-is : set_places 0 lack ≡ mismatch g s
    unfolding mismatch
    mismatch-is = ap (set_places 0) lack-is

    -- more than six
    pub many-places : 6 < length (set_places 0 lack) → trial (read_line line_layer) g s ≡ s
    many-places l =
        let m : 6 < length (mismatch g s) = omega (arith, ap length mismatch-is) in
        chosen false (parts _ _ false refl refl (lt-leb _ 6 m)
        ∙ no_third (leb 2 (length (faulty_of s g.members))) (leb 1 (length (mismatch g s))))

    module _ (places : List ℕ) (places-are : places ≡ set_places 0 lack) where
      -- no mismatch
      pub no-mismatch : length places < 1 → trial (read_line line_layer) g s ≡ s
      no-mismatch l =
          let m : length (mismatch g s) < 1 = omega (arith, ap length (places-are ∙ mismatch-is)) in
          chosen false (parts _ false _ refl (lt-leb 1 _ m) refl
          ∙ no_second (leb 2 (length (faulty_of s g.members))) (leb (length (mismatch g s)) 6))

      -- one to six places are tried
      pub places-tried : 2 ≤ length (faulty_of s g.members) → 1 ≤ length places → length places ≤ 6
          → try_lines (read_line line_layer) places s g.members ≡ trial (read_line line_layer) g s
      places-tried two b h =
          let same = ap length (places-are ∙ mismatch-is) in
          let one : 1 ≤ length (mismatch g s) = omega arith in
          let six : length (mismatch g s) ≤ 6 = omega arith in
          ap (λ (ps : List ℕ). try_lines (read_line line_layer) ps s g.members) (places-are ∙ mismatch-is)
          ∙ sym (chosen true (parts true true true (le-leb 2 _ two) (le-leb 1 _ one) (le-leb _ 6 six)))
