-- The pattern's lines are marked one after the other.
use mathlib.Core.Path.{◌≡◌, sym, ◌∙◌}
use mathlib.Core.List.{List, map}
use Prim.Native.Nat.{ℕ, ◌+◌, ◌≤◌, ◌<◌}
use native.Mathlib.Decide.{ℕ_discrete}
use native.Mathlib.Omega.{arith}
use lib.ListN.{length, get_or, set, length-map, length-set, get_or-map}
use lib.Seq.{get_or-set_same, get_or-set_other, ext_get_or}
use Rattle.peeling.specs.Lent.{mark_of}

-- the first n lines are marked
pub record Marking (pattern marks : List ℕ) (n : ℕ) : Type 0 where
  pub few : n ≤ length pattern
  pub room : length marks ≡ length pattern
  pub marked : (m : ℕ) → m < n → get_or marks m 0 ≡ mark_of (get_or pattern m 0)

pub marking-start : (pattern marks : List ℕ) → length marks ≡ length pattern → Marking pattern marks 0
marking-start pattern marks e = record { few = omega arith; room = e; marked = λ m h. let z : ⊥ = omega arith in absurd z }

module _ (pattern marks : List ℕ) (n : ℕ) (w : Marking pattern marks n) where
  pub marking-next : (mark : ℕ) → n < length pattern → mark ≡ mark_of (get_or pattern n 0) → Marking pattern (set marks n mark) (n + 1)
  marking-next mark h e =
      record { few = omega arith; room = length-set marks n mark ∙ w.room; marked = λ m i. go m i (ℕ_discrete m n) }
    where
      go : (m : ℕ) → m < n + 1 → Dec (m ≡ n) → get_or (set marks n mark) m 0 ≡ mark_of (get_or pattern m 0)
      go m i (yes p) = rw p (get_or-set_same marks n mark 0 (omega (arith, w.room)) ∙ e)
      go m i (no d) = get_or-set_other marks n m mark 0 d ∙ w.marked m (omega arith)

  pub marking-end : length pattern ≤ n → marks ≡ map mark_of pattern
  marking-end all =
      ext_get_or 0 marks (map mark_of pattern) (w.room ∙ sym (length-map pattern mark_of))
      (λ m h. w.marked m (omega (arith, w.room)) ∙ sym (get_or-map mark_of pattern m 0))
