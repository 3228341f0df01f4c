-- Every mark that repair gives is one of 0 to 4, and there is one for each line; marks 0 and 1 are those of reading alone.
use mathlib.Core.Path.{◌≡◌, sym, ap, ◌∙◌, subst}
use mathlib.Core.Logic.{◌⊎◌, inl, inr}
use mathlib.Core.List.{List, [], ◌∷◌}
use Prim.Native.Nat.{ℕ, zero, suc, ◌≤◌, ◌<◌}
use native.Mathlib.Decide.{ℕ_discrete}
use native.Mathlib.Omega.{arith}
use lib.ListN.{length, get_or, length-map, get_or-map}
use Rattle.gf2.specs.Word.{Word}
use Rattle.gf2.proofs.Weight.{distance_self}
use Rattle.scheme.specs.Layer.{Cell, Reading, Layer, read_line, Promises}
use Rattle.scheme.specs.Visit.{Group, State, cell_at}
use Rattle.scheme.specs.Repair.{read_all, repair, marks_of}
use Rattle.scheme.specs.Marks.{RepairMarks, MarkTells, MarksTell, RepairMarksTell}
use Rattle.scheme.specs.Demand3.{word_at}
use Rattle.scheme.proofs.Every.{Every, every-passes}
use Rattle.scheme.proofs.Stays.{first-reading-at, repair-stays, repair-length}

-- ---- every mark of a store is one of 0 to 4
abbrev Marked : State → Type 0
Marked = Every (λ n c. c.mark ≤ 4)

module _ (read : Reading) (gives : (n : ℕ) (found : Word) → (read n found).mark ≤ 4) where
  marked-reading : (k : ℕ) (found : List Word) → Marked (read_all read k found)
  marked-reading k [] n = omega arith
  marked-reading k (w ∷ found) zero = gives k w
  marked-reading k (w ∷ found) (suc n) = marked-reading (suc k) found n

  marked-repair : (gs : List Group) (found : List Word) → Marked (repair read gs found).cells
  unfolding repair
  marked-repair gs found =
      every-passes (λ n c. c.mark ≤ 4) read (λ n p c e h i. omega arith) gs (λ g i s f n h e o. omega arith) (read_all read 0 found)
      (marked-reading 0 found)

-- mark n of a store is that of its line n
pub mark-at : (s : State) (n : ℕ) → get_or (marks_of s) n 0 ≡ (cell_at s n).mark
mark-at s n = get_or-map (λ (c : Cell). c.mark) s n (record { line = []; mark = 0 })

marks-high : (s : State) → Marked s → (n : ℕ) → get_or (marks_of s) n 0 ≤ 4
marks-high s h n = rw (mark-at s n) (h n)

-- ---- any layer that keeps the promises
pub repair-marks : (layer : Layer) → Promises layer → RepairMarks layer
repair-marks layer promises gs found =
    record {
      each = length-map (repair read gs found).cells (λ c. c.mark) ∙ repair-length read gs found;
      high = λ n h. marks-high (repair read gs found).cells (marked-repair read gives gs found) n;
    }
  where
    read : Reading
    read = read_line layer

    gives : (n : ℕ) (w : Word) → (read_line layer n w).mark ≤ 4
    gives n w = go (promises.marks (layer.address n) w)
      where
        go : ((read_line layer n w).mark ≤ 1) ⊎ ((read_line layer n w).mark ≡ 4) → (read_line layer n w).mark ≤ 4
        go (inl h) = omega arith
        go (inr e) = omega arith

-- an accepted line stays as read; one that was faulty has mark 2 or more, and is not correct
pub repair-marks-tell : (layer : Layer) → Promises layer → MarksTell layer → RepairMarksTell layer
repair-marks-tell layer promises tells gs found n h l = go (promises.marks (layer.address n) w)
  where
    w : Word
    w = word_at found n

    read : Cell
    read = read_line layer n w

    given : Cell
    given = cell_at (repair (read_line layer) gs found).cells n

    first : cell_at (read_all (read_line layer) 0 found) n ≡ read
    first = first-reading-at (read_line layer) found n h

    alone : MarkTells layer (layer.address n) w read
    alone = tells (layer.address n) w l

    go : (read.mark ≤ 1) ⊎ (read.mark ≡ 4) → MarkTells layer (layer.address n) w given
    go (inl low) =
        subst (MarkTells layer (layer.address n) w)
        (sym ((repair-stays (read_line layer) gs found).accepted n (λ e. omega (arith, ap (λ (c : Cell). c.mark) first)) ∙ first))
        alone
    go (inr four) =
        let high : 2 ≤ given.mark = (repair-stays (read_line layer) gs found).mended n (ap (λ (c : Cell). c.mark) first ∙ four) in
        record {
          clean = (λ e. let z : ⊥ = omega arith in absurd z, λ c. let z : ⊥ = omega (arith, alone.clean.1 c) in absurd z);
          rewritten = (λ e. let z : ⊥ = omega arith in absurd z, λ p. absurd (p.0 four));
        }

-- a line with another mark than 1 is read as found
pub read-as-found : (layer : Layer) → Promises layer → MarksTell layer → (a : ℕ) (found : Word) → length found ≡ layer.width
    → ((layer.read a found).mark ≡ 1 → ⊥) → (layer.read a found).line ≡ found
read-as-found layer promises tell a found e d = go (promises.marks a found)
  where
    go : ((layer.read a found).mark ≤ 1) ⊎ ((layer.read a found).mark ≡ 4) → (layer.read a found).line ≡ found
    go (inr faulty) = promises.kept a found e faulty
    go (inl h) =
        let clean : (layer.read a found).mark ≡ 0 = omega (arith, at_most h) in
        (promises.corrects a found found ((tell a found e).clean.0 clean) e (omega (arith, distance_self found))).gives
      where
        at_most : (layer.read a found).mark ≤ 1 → (layer.read a found).mark < 1
        at_most l = go' (ℕ_discrete (layer.read a found).mark 1)
          where
            go' : Dec ((layer.read a found).mark ≡ 1) → (layer.read a found).mark < 1
            go' (yes one) = absurd (d one)
            go' (no n) = omega arith
