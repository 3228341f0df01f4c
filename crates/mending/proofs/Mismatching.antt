-- When a group's faulty lines try places, and which: the difference that stands beside the group is its mismatch.
use mathlib.Core.Path.{◌≡◌, sym, ap, ◌∙◌, subst}
use mathlib.Core.List.{List}
use Prim.Native.Nat.{ℕ, ◌≤◌, ◌<◌}
use native.Mathlib.Omega.{arith}
use lib.ListN.{length, get_or}
use Rattle.gf2.specs.Word.{Word, ◌⊕◌}
use Rattle.linecode.specs.Places.{places}
use Rattle.scheme.specs.Layer.{read_line}
use Rattle.scheme.specs.Visit.{Group, State, line_at, faulty_of, sum, set_places, try_lines, trial}
use Rattle.rectangle.specs.Store.{line_layer, bytes_at, stride}
use Rattle.rectangle.proofs.Spare.{places-line_of}
use Rattle.groups.specs.Lent.{Carried, Numbered, members_of, group_of}
use Rattle.groups.proofs.Trials as trials

module _ (rows columns : ℕ) (out marks lacks faulty : List ℕ) (k first step count : ℕ) (chosen : Numbered rows columns k first step count)
    (parity : ℕ → Word) (s : State) (c : Carried rows columns parity out marks lacks faulty s) where
  g : Group
  g = group_of rows columns parity k

  number_is : get_or faulty k 0 ≡ length (faulty_of s (members_of rows columns k))
  number_is = (c.beside k chosen.listed).number

  -- fewer than two faulty lines
  pub few-faulty : get_or faulty k 0 < 2 → Carried rows columns parity out marks lacks faulty (trial (read_line line_layer) (group_of rows columns parity k) s)
  unfolding g
  few-faulty l = subst (Carried rows columns parity out marks lacks faulty) (sym (trials.few-faulty g s (omega (arith, number_is)))) c

  module _ (lack : List ℕ) (lack-is : lack ≡ bytes_at lacks k) where
    lack-places : places lack ≡ sum (line_at s) (members_of rows columns k) ⊕ parity k
    lack-places =
        ap places (lack-is ∙ (c.beside k chosen.listed).lack)
        ∙ places-line_of (sum (line_at s) (members_of rows columns k) ⊕ parity k) (c.beside k chosen.listed).long

    -- more than six places
    pub many-places : 6 < length (set_places 0 (places lack))
        → Carried rows columns parity out marks lacks faulty (trial (read_line line_layer) (group_of rows columns parity k) s)
    unfolding g
    many-places l =
        subst (Carried rows columns parity out marks lacks faulty) (sym (trials.many-places g s (places lack) lack-places l)) c

    module _ (ps : List ℕ) (ps-are : ps ≡ set_places 0 (places lack)) where
      -- no mismatch
      pub no-mismatch : length ps < 1 → Carried rows columns parity out marks lacks faulty (trial (read_line line_layer) (group_of rows columns parity k) s)
      unfolding g
      no-mismatch l =
          subst (Carried rows columns parity out marks lacks faulty) (sym (trials.no-mismatch g s (places lack) lack-places ps ps-are l)) c

      -- one to six places are tried
      pub places-tried : (out' marks' lacks' faulty' : List ℕ) → 2 ≤ get_or faulty k 0 → 1 ≤ length ps → length ps ≤ 6
          → Carried rows columns parity out' marks' lacks' faulty' (try_lines (read_line line_layer) ps s (stride first step count))
          → Carried rows columns parity out' marks' lacks' faulty' (trial (read_line line_layer) (group_of rows columns parity k) s)
      unfolding g
      places-tried out' marks' lacks' faulty' a b h t =
          subst (Carried rows columns parity out' marks' lacks' faulty')
          (ap (try_lines (read_line line_layer) ps s) chosen.lines
          ∙ trials.places-tried g s (places lack) lack-places ps ps-are (omega (arith, number_is)) b h)
          t
