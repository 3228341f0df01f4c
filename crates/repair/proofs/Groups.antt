-- All groups by their numbers are the rectangle's groups as repair uses them.
use mathlib.Core.Path.{◌≡◌, refl, ap, ap₂, ◌∙◌, sym}
use mathlib.Core.Bool.{Bool, true, false, cond}
use mathlib.Core.List.{List, map, map-map}
use Prim.Native.Nat.{ℕ, ◌+◌, ◌<◌}
use lib.Dec.{eqb}
use lib.ListN.{get_or}
use Rattle.gf2.specs.Word.{Word, zeros}
use Rattle.linecode.specs.Places.{line_places}
use Rattle.linecode.specs.Code.{up_from}
use Rattle.scheme.specs.Visit.{Group}
use Rattle.scheme.specs.Parity.{read_parity, unusable, no_lines, as_read}
use Rattle.scheme.proofs.Parity.{without-lines}
use Rattle.scheme.proofs.Used.{usable}
use Rattle.rectangle.specs.Store.{line_layer}
use Rattle.rectangle.specs.Repair.{used_groups}
use Rattle.rectangle.proofs.Members.{map_below}
use Rattle.groups.specs.Lent.{group_of}
use Rattle.groups.proofs.Found.{found_group, found-members, found-groups}
use Rattle.parity.specs.Lent.{start_of}
use Rattle.repair.specs.Lent.{used_group, all_groups}

-- ---- what the differences start from
abbrev pub starts_from : ℕ → ℕ → List ℕ → List ℕ → ℕ → Word
starts_from rows columns row_table column_table k = start_of (found_group rows columns row_table column_table k)

-- what a difference starts from
pub starts-zero : (g : Group) → unusable line_layer g ≡ true → start_of g ≡ zeros line_places
unfolding start_of
starts-zero g e = rw e

pub starts-read : (g : Group) → unusable line_layer g ≡ false → start_of g ≡ (read_parity line_layer g).line
unfolding start_of
starts-read g e = rw e

-- ---- all groups, with the parity lines' own marks and what their differences start from
module _ (rows columns : ℕ) (rt ct pm : List ℕ)
    (marked : (k : ℕ) → k < rows + columns → get_or pm k 0 ≡ (read_parity line_layer (found_group rows columns rt ct k)).mark) where
  same_test : (k : ℕ) → k < rows + columns → eqb (get_or pm k 0) 4 ≡ unusable line_layer (found_group rows columns rt ct k)
  unfolding unusable
  same_test k h = ap (λ (m : ℕ). eqb m 4) (marked k h)

  one-group : (k : ℕ) → k < rows + columns
      → used_group rows columns pm (starts_from rows columns rt ct) k ≡ as_read line_layer (found_group rows columns rt ct k)
  unfolding used_group
  one-group k h = go (unusable line_layer g) refl
    where
      g : Group
      g = found_group rows columns rt ct k

      go : (b : Bool) → unusable line_layer g ≡ b
          → cond (eqb (get_or pm k 0) 4) no_lines (group_of rows columns (starts_from rows columns rt ct) k) ≡ as_read line_layer g
      go true e = rw (same_test k h ∙ e) (sym (without-lines line_layer g e))
      go false e =
          rw (same_test k h ∙ e)
          (ap₂ (λ (members : List ℕ) (parity : Word). record { members = members; parity = parity }) (found-members rows columns rt ct k) (starts-read g e)
          ∙ sym (usable line_layer g e))

  pub all-groups : all_groups rows columns pm (starts_from rows columns rt ct) ≡ used_groups line_layer rows columns rt ct
  unfolding all_groups used_groups
  all-groups =
      map_below (used_group rows columns pm (starts_from rows columns rt ct)) (λ (k : ℕ). as_read line_layer (found_group rows columns rt ct k)) (rows + columns) one-group
      ∙ sym (map-map (as_read line_layer) (found_group rows columns rt ct) (up_from 0 (rows + columns)))
      ∙ ap (map (as_read line_layer)) (found-groups rows columns rt ct)
