-- The ways out of a visit's two halves, on the buffers.
use mathlib.Core.Path.{◌≡◌, sym, ap, ap₂, ◌∙◌, subst}
use mathlib.Core.List.{List}
use Prim.Native.Nat.{ℕ, ◌*◌, ◌/◌, ◌≤◌, ◌<◌}
use native.Mathlib.Omega.{arith}
use lib.ListN.{length, get_or, set}
use Rattle.std.specs.Prelude.{Some, slice_get}
use Rattle.gf2.specs.Word.{Word, ◌⊕◌}
use Rattle.linecode.specs.Places.{line_places, places, line_of}
use Rattle.scheme.specs.Layer.{Cell, read_line}
use Rattle.scheme.specs.Visit.{Group, State, line_at, faulty_of, sum, set_places, settle, try_lines, trial}
use Rattle.scheme.specs.Demand3.{◌∈◌}
use Rattle.rectangle.specs.Store.{line_layer, bytes_at, places_at, put_bytes, stride}
use Rattle.rectangle.proofs.Spare.{length-places}
use Rattle.rectangle.proofs.Stride.{stride-index, rising-stride}
use Rattle.groups.specs.Lent.{Inside, faulty_among}
use Rattle.groups.proofs.Trials as trials
use Rattle.scheme.proofs.Steps.{not-one}
use Rattle.groups.proofs.Settled.{only-faulty-line, only-member, rebuilt-word, settled, rebuilt-is, rebuilt-long}
use Rattle.visiting.specs.Lent.{store_in, Lent, group_at, Becomes}
use Rattle.visiting.proofs.Stores.{store_at, store-faulty, store-sum, store_long}
use Rattle.visiting.proofs.Becoming.{nothing-becomes, line-mended, store-mended}

-- buffers of the same lengths are lent as well
pub still-lent : (out marks out' marks' : List ℕ) (first step count : ℕ) → Lent out marks first step count → length out' ≡ length out
    → length marks' ≡ length marks → Lent out' marks' first step count
still-lent out marks out' marks' first step count l e f =
    record {
      room = e ∙ l.room ∙ ap (λ (k : ℕ). k * 70) (sym f);
      inside = subst (Inside first step count) (sym f) l.inside;
    }

-- the group lies inside the line buffer
pub lent-lines : (out marks : List ℕ) (first step count : ℕ) → Lent out marks first step count → Inside first step count (length out / 70)
lent-lines out marks first step count l = subst (Inside first step count) lines l.inside
  where
    lines : length marks ≡ length out / 70
    lines = omega (arith, l.room)

module _ (out marks : List ℕ) (first step count : ℕ) (l : Lent out marks first step count) where
  member-inside : (n : ℕ) → n ∈ stride first step count → n < length marks
  member-inside n i = let at = stride-index first step count n i in omega (arith, at.2, l.inside.each at.0 at.1)

  -- the only faulty line
  module _ (faulty : ℕ) (counted : faulty ≡ length (faulty_among marks (stride first step count))) (one : faulty ≡ 1) (n : ℕ)
      (n-is : Some n ≡ slice_get (faulty_among marks (stride first step count)) 0) where
    only : length (faulty_among marks (stride first step count)) ≡ 1
    only = sym counted ∙ one

    member : (n ∈ stride first step count) × (get_or marks n 0 ≡ 4)
    member = only-member marks (stride first step count) only n n-is

    pub only-inside : n < length marks
    only-inside = member-inside n member.0

module _ (out marks : List ℕ) (first step count : ℕ) (l : Lent out marks first step count) (parity : List ℕ)
    (full : length parity ≡ 70) where
  g : Group
  g = group_at first step count parity

  s : State
  s = store_in out marks

  -- how many lines are faulty, as counted
  module _ (faulty : ℕ) (counted : faulty ≡ length (faulty_among marks (stride first step count))) where
    faulty-is : faulty ≡ length (faulty_of s (stride first step count))
    unfolding s
    faulty-is = counted ∙ ap length (store-faulty out marks (stride first step count))

    -- fewer than two: no trial
    pub few_faulty : faulty < 2 → Becomes (trial (read_line line_layer) (group_at first step count parity)) out marks out marks
    unfolding g s
    few_faulty h = nothing-becomes _ out marks (trials.few-faulty g s (omega (arith, faulty-is)))

    -- none or several are not rebuilt
    pub not_rebuilt : (faulty ≡ 1 → ⊥) → Becomes (settle (group_at first step count parity)) out marks out marks
    unfolding g s
    not_rebuilt h = nothing-becomes _ out marks (not-one g s (λ e. h (faulty-is ∙ e)))

    -- the group's difference, as summed
    module _ (lack : List ℕ) (summed : places lack ≡ sum (places_at out) (stride first step count) ⊕ places parity) where
      lack-is : places lack ≡ sum (line_at s) (stride first step count) ⊕ places parity
      unfolding s
      lack-is =
          summed ∙ ap (λ (w : Word). w ⊕ places parity) (sym (store-sum out marks (stride first step count) (member-inside out marks first step count l)))

      -- more than six places: no trial
      pub many_places : 6 < length (set_places 0 (places lack))
          → Becomes (trial (read_line line_layer) (group_at first step count parity)) out marks out marks
      unfolding g s
      many_places h = nothing-becomes _ out marks (trials.many-places g s (places lack) lack-is h)

      module _ (ps : List ℕ) (ps-are : ps ≡ set_places 0 (places lack)) where
        -- no mismatch: no trial
        pub no-mismatch : length ps < 1 → Becomes (trial (read_line line_layer) (group_at first step count parity)) out marks out marks
        unfolding g s
        no-mismatch h = nothing-becomes _ out marks (trials.no-mismatch g s (places lack) lack-is ps ps-are h)

        -- one to six places are tried
        pub places-tried : (out' marks' : List ℕ) → 2 ≤ faulty → 1 ≤ length ps → length ps ≤ 6
            → Becomes (λ t. try_lines (read_line line_layer) ps t (stride first step count)) out marks out' marks'
            → Becomes (trial (read_line line_layer) (group_at first step count parity)) out marks out' marks'
        unfolding g s
        places-tried out' marks' two one six b =
            record {
              store =
                  b.store ∙ trials.places-tried g s (places lack) lack-is ps ps-are (omega (arith, faulty-is)) one six;
              bytes = b.bytes;
            }

      -- exactly one is rebuilt
      module _ (one : faulty ≡ 1) (n : ℕ) (n-is : Some n ≡ slice_get (faulty_among marks (stride first step count)) 0) where
        pub rebuilt : (line new out' : List ℕ) → length lack ≡ 70 → line ≡ bytes_at out n → new ≡ line_of (places line ⊕ places lack)
            → out' ≡ put_bytes out n new → Becomes (settle (group_at first step count parity)) out marks out' (set marks n 3)
        unfolding g s places_at
        rebuilt line new out' wide line-is New-is put =
            subst (λ (b : List ℕ). Becomes (settle g) out marks b (set marks n 3))
            (sym (put ∙ ap (put_bytes out n) (New-is ∙ ap line_of word-is)))
            (record {
              store =
                  store-mended out marks l.room n inside is.1 word long 3 (omega arith)
                  ∙ settled g s n (sym (store-faulty out marks (stride first step count))
                  ∙ only-faulty-line marks (stride first step count) (sym counted ∙ one) n n-is);
              bytes = line-mended out marks l.room n inside is.1 word long 3 (omega arith);
            })
          where
            is : (n ∈ stride first step count) × (get_or marks n 0 ≡ 4)
            is = member out marks first step count l faulty counted one n n-is

            inside : n < length marks
            inside = only-inside out marks first step count l faulty counted one n n-is

            word : Word
            word = rebuilt-word g s n

            own : length (line_at s n) ≡ line_places
            own = store_long out marks l.room n inside

            word-is : places line ⊕ places lack ≡ word
            word-is =
                ap₂ ◌⊕◌ (ap places line-is ∙ sym (ap (λ (c : Cell). c.line) (store_at out marks n inside))) lack-is
                ∙ rebuilt-is g s n (rising-stride first step count l.inside.apart) is.0 own (length-places parity full)

            long : length word ≡ line_places
            long =
                rebuilt-long g s n (rising-stride first step count l.inside.apart) is.0 own (length-places parity full)
                (ap length (sym lack-is) ∙ length-places lack wide)
