-- A visit on marks and counts: where a group's number is 1, its one faulty line is rebuilt, and otherwise nothing is done.
use mathlib.Core.Path.{◌≡◌, refl, sym, ap, ◌∙◌}
use mathlib.Core.List.{List, [], ◌∷◌}
use Prim.Native.Nat.{ℕ, ◌+◌, ◌*◌, ◌<◌}
use native.Mathlib.Omega.{arith}
use Rattle.std.specs.Prelude.{Option, Some, None, slice_get}
use lib.Dec.{eqb}
use lib.ListN.{length, get_or, set, get_or-map}
use Rattle.scheme.specs.Layer.{Cell}
use Rattle.scheme.specs.Visit.{State, cell_at, is_faulty, select, faulty_of}
use Rattle.scheme.specs.Repair.{marks_of}
use Rattle.scheme.proofs.Lists.{select-ext, map-set}
use Rattle.scheme.proofs.Within.{only-settles}
use Rattle.rectangle.specs.Store.{stride}
use Rattle.groups.specs.Lent.{Inside, faulty_among, number_of, Within, members_of, Picked}
use Rattle.groups.specs.declared.tracked.Which.{Which}
use Rattle.groups.specs.declared.tracked.Which.TheVariants.{Row, Column}
use Rattle.groups.proofs.Numbers.{members-inside}
use Rattle.scheme.proofs.Steps.{not-one}
use Rattle.groups.proofs.Settled.{no-first, only-faulty-line, only-member, settled}
use Rattle.peeling.specs.Lent.{marked_faulty, Counted, Visits}
use Rattle.peeling.proofs.Touching.{some-columns}

-- the faulty lines of a store by its marks
pub by-marks : (marks : List ℕ) (s : State) → marks ≡ marks_of s → (ms : List ℕ) → faulty_of s ms ≡ select (marked_faulty marks) ms
by-marks marks s e ms =
    select-ext (λ n. is_faulty (cell_at s n)) (marked_faulty marks) ms
    (λ n i.
    ap (λ (m : ℕ). eqb m 4)
    (sym (ap (λ (l : List ℕ). get_or l n 0) e ∙ get_or-map (λ (c : Cell). c.mark) s n (record { line = []; mark = 0 }))))

among : (marks ms : List ℕ) → faulty_among marks ms ≡ select (marked_faulty marks) ms
unfolding faulty_among
among marks ms = refl

-- a row's or a column's place in visiting order
pub listed : (rows columns : ℕ) (which : Which) → Within rows columns which → number_of rows which < rows + columns
listed rows columns (Row r) h = omega arith
listed rows columns (Column c) h = omega arith

-- a group is chosen: its lines, by their first and the step, are its members, and lie among the marks
module _ (rows columns : ℕ) (marks : List ℕ) (which chosen : Which) (same : chosen ≡ which) (first step count : ℕ)
    (picked : Picked rows columns chosen first step count) where
  pub chosen-inside : length marks ≡ rows * columns → Inside first step count (length marks)
  chosen-inside e = rw e picked.numbered.inside

  pub chosen-line : (r : Option ℕ) → r ≡ slice_get (faulty_among marks (stride first step count)) 0
      → r ≡ slice_get (faulty_among marks (members_of rows columns (number_of rows which))) 0
  chosen-line r e =
      e
      ∙ ap (λ (l : List ℕ). slice_get (faulty_among marks l) 0)
      (picked.numbered.lines ∙ ap (λ (w : Which). members_of rows columns (number_of rows w)) same)

module _ (rows columns : ℕ) (marks faulty : List ℕ) (counted : Counted rows columns marks faulty) (k : ℕ) (inside : k < rows + columns) where
  -- exactly one is faulty, and n is it
  module _ (one : get_or faulty k 0 ≡ 1) (n : ℕ) (n-is : Some n ≡ slice_get (faulty_among marks (members_of rows columns k)) 0) where
    alone : length (faulty_among marks (members_of rows columns k)) ≡ 1
    alone = ap length (among marks (members_of rows columns k)) ∙ sym (counted.each k inside) ∙ one

    pub one_inside : (n < rows * columns) × (get_or marks n 0 ≡ 4)
    one_inside =
        let both = only-member marks (members_of rows columns k) alone n n-is in
        (members-inside rows columns (some-columns rows columns faulty counted.sides) n k inside both.0, both.1)

    pub one-visited : Visits (members_of rows columns k) marks (set marks n 3)
    one-visited g e s h =
        ap (λ (l : List ℕ). set l n 3) h
        ∙ sym (map-set (λ (c : Cell). c.mark) s n _)
        ∙ ap marks_of (settled g s n only ∙ sym (only-settles g s))
      where
        only : faulty_of s g.members ≡ n ∷ []
        only =
            by-marks marks s h g.members
            ∙ ap (select (marked_faulty marks)) e
            ∙ sym (among marks (members_of rows columns k))
            ∙ only-faulty-line marks (members_of rows columns k) alone n n-is

  pub none-visited : (get_or faulty k 0 ≡ 1 → ⊥) → Visits (members_of rows columns k) marks marks
  none-visited d g e s h =
      h
      ∙ ap marks_of
      (sym
      (only-settles g s
      ∙ not-one g s (λ f. d (counted.each k inside ∙ ap length (sym (by-marks marks s h g.members ∙ ap (select (marked_faulty marks)) e)) ∙ f))))

-- a visit of a group as the code makes it: its number is read, and where it is 1 the chosen line is rebuilt
module _ (rows columns : ℕ) (marks faulty : List ℕ) (counted : Counted rows columns marks faulty) (which : Which)
    (within : Within rows columns which) where
  -- a group with no first faulty line has none
  pub passed_by : None ≡ slice_get (faulty_among marks (members_of rows columns (number_of rows which))) 0
      → Visits (members_of rows columns (number_of rows which)) marks marks
  passed_by e =
      none-visited rows columns marks faulty counted (number_of rows which) (listed rows columns which within)
      (λ (one : get_or faulty (number_of rows which) 0 ≡ 1).
      omega (
        arith,
        no-first _ e,
        ap length (among marks (members_of rows columns (number_of rows which))),
        counted.each (number_of rows which) (listed rows columns which within),
      ))

  pub passed_over : (get_or faulty (number_of rows which) 0 ≡ 1 → ⊥) → Visits (members_of rows columns (number_of rows which)) marks marks
  passed_over d = none-visited rows columns marks faulty counted (number_of rows which) (listed rows columns which within) d
