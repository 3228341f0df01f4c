-- Settling a group on the buffers that hold the store: exactly one faulty line is rebuilt.
use mathlib.Core.Path.{◌≡◌, sym, ap, ap₂, ◌∙◌, subst}
use mathlib.Core.List.{List}
use Prim.Native.Nat.{ℕ, ◌*◌, ◌<◌}
use native.Mathlib.Omega.{arith}
use lib.ListN.{length, get_or, set}
use Rattle.std.specs.Prelude.{Some, None, slice_get}
use Rattle.gf2.specs.Word.{Word, ◌⊕◌}
use Rattle.linecode.specs.Places.{line_places, places, line_of}
use Rattle.scheme.specs.Visit.{Group, State, line_at, faulty_of, settle}
use Rattle.scheme.specs.Demand3.{◌∈◌}
use Rattle.rectangle.specs.Store.{bytes_at, stride}
use Rattle.rectangle.proofs.Spare.{places-line_of}
use Rattle.groups.specs.Lent.{Room, Carried, Some as SomeStore, Inside, Numbered, faulty_among, members_of, group_of}
use Rattle.groups.proofs.Numbers.{members-rising, members-inside}
use Rattle.groups.proofs.Held.{held-count, held-faulty, held_bytes}
use Rattle.scheme.proofs.Steps.{not-one}
use Rattle.groups.proofs.Settled.{no-first, only-faulty-line, only-member, rebuilt-word, settled, rebuilt-is, rebuilt-long}

pub still-inside : (first step count k m : ℕ) → m ≡ k → Inside first step count k → Inside first step count m
still-inside first step count k m e i = subst (Inside first step count) (sym e) i

module _ (rows columns : ℕ) (out marks lacks faulty : List ℕ) (room : Room rows columns out marks lacks faulty) (k first step count : ℕ)
    (chosen : Numbered rows columns k first step count) where
  some-columns : 0 < columns
  some-columns = omega (arith, room.rect.columns_low)

  module _ (parity : ℕ → Word) (s : State) (c : Carried rows columns parity out marks lacks faulty s) where
    same-faulty : faulty_among marks (stride first step count) ≡ faulty_of s (members_of rows columns k)
    same-faulty = held-faulty out marks s c.held (stride first step count) ∙ ap (faulty_of s) chosen.lines

    number_is : get_or faulty k 0 ≡ length (faulty_of s (members_of rows columns k))
    number_is = (c.beside k chosen.listed).number

    -- not exactly one
    pub unsettled : (get_or faulty k 0 ≡ 1 → ⊥) → Carried rows columns parity out marks lacks faulty (settle (group_of rows columns parity k) s)
    unsettled d =
        subst (Carried rows columns parity out marks lacks faulty)
        (sym (not-one (group_of rows columns parity k) s (λ (e : length (faulty_of s (members_of rows columns k)) ≡ 1). d (number_is ∙ e)))) c

    -- none
    pub unsettled-none : None ≡ slice_get (faulty_among marks (stride first step count)) 0
        → Carried rows columns parity out marks lacks faulty (settle (group_of rows columns parity k) s)
    unsettled-none e = unsettled (λ one. omega (arith, no-first _ e, ap length same-faulty, number_is))

  module _ (one : get_or faulty k 0 ≡ 1) (n : ℕ) (n-is : Some n ≡ slice_get (faulty_among marks (stride first step count)) 0) where
    only : (parity : ℕ → Word) (s : State) → Carried rows columns parity out marks lacks faulty s
        → length (faulty_among marks (stride first step count)) ≡ 1
    only parity s c = ap length (same-faulty parity s c) ∙ sym (number_is parity s c) ∙ one

    member : SomeStore rows columns out marks lacks faulty → n ∈ members_of rows columns k
    member held =
        subst (λ (l : List ℕ). n ∈ l) chosen.lines
        (only-member marks (stride first step count) (only held.0 held.1 held.2) n n-is).0

    pub only-inside : SomeStore rows columns out marks lacks faulty → n < rows * columns
    only-inside held = members-inside rows columns some-columns n k chosen.listed (member held)

    pub only-faulty : SomeStore rows columns out marks lacks faulty → get_or marks n 0 ≡ 4
    only-faulty held = (only-member marks (stride first step count) (only held.0 held.1 held.2) n n-is).1

    module _ (parity : ℕ → Word) (s : State) (c : Carried rows columns parity out marks lacks faulty s) (line lack rebuilt : List ℕ)
        (lack-is : lack ≡ bytes_at lacks k) (line-is : line ≡ bytes_at out n) (rebuilt-from : rebuilt ≡ line_of (places line ⊕ places lack)) where
      g : Group
      g = group_of rows columns parity k

      pub word : Word
      unfolding g
      word = rebuilt-word g s n

      below : n < length s
      below = omega (arith, only-inside (parity, s, c), held-count out marks s c.held, room.rect.mark_bytes)

      own : length (line_at s n) ≡ line_places
      own = c.held.wide n below

      sum_is : places line ⊕ places lack ≡ word
      unfolding word g
      sum_is =
          ap₂ ◌⊕◌
          (ap places (line-is ∙ held_bytes out marks s c.held n below) ∙ places-line_of (line_at s n) own)
          (ap places (lack-is ∙ (c.beside k chosen.listed).lack) ∙ places-line_of _ (c.beside k chosen.listed).long)
          ∙ rebuilt-is g s n (members-rising rows columns some-columns k chosen.listed) (member (parity, s, c)) own
          (c.beside k chosen.listed).wide

      pub word-long : length word ≡ line_places
      unfolding word g
      word-long =
          rebuilt-long g s n (members-rising rows columns some-columns k chosen.listed) (member (parity, s, c)) own
          (c.beside k chosen.listed).wide (c.beside k chosen.listed).long

      pub line-rebuilt : rebuilt ≡ line_of word
      line-rebuilt = rebuilt-from ∙ ap line_of sum_is

      pub group-settled : set s n (record { line = word; mark = 3 }) ≡ settle (group_of rows columns parity k) s
      unfolding word g
      group-settled =
          settled g s n (sym (same-faulty parity s c) ∙ only-faulty-line marks (stride first step count) (only parity s c) n n-is)
