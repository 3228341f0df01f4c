-- Line n by its row's visit: the row's lines as read, its parity line as read, and what the visit leaves in the buffers.
use mathlib.Core.Path.{◌≡◌, sym, ap, ap₂, subst, ◌∙◌}
use mathlib.Core.Logic.{◌⊎◌, inl, inr}
use mathlib.Core.Bool.{true, false}
use mathlib.Core.List.{List, []}
use Prim.Native.Nat.{ℕ, ◌*◌, ◌/◌, ◌<◌}
use native.Mathlib.Omega.{arith}
use borrow.Author.Tests.{eq-eqb, ne_eqb}
use lib.ListN.{length, get_or}
use Rattle.gf2.specs.Word.{Word}
use Rattle.linecode.specs.Places.{line_places, places, line_of}
use Rattle.linecode.specs.Entry.{reading}
use Rattle.linecode.specs.declared.alone.Reading.{Reading}
use Rattle.scheme.specs.Layer.{read_line, parity_address}
use Rattle.scheme.specs.Visit.{Group, State, cell_at, visit}
use Rattle.scheme.specs.Parity.{read_parity, unusable, as_read}
use Rattle.scheme.specs.Demand3.{◌∈◌}
use Rattle.scheme.proofs.Width.{read-width}
use Rattle.scheme.proofs.Parity.{unusable-idle}
use Rattle.scheme.proofs.Used.{usable}
use Rattle.rectangle.specs.Store.{line_layer, bytes_at, places_at, alone_at, in_bytes, stride, row, row_group}
use Rattle.rectangle.proofs.Alone.{seventy, length-alone}
use Rattle.rectangle.proofs.Groups.{sides, row_below, in_row}
use Rattle.rectangle.proofs.LineLayer.{kept, parity-read}
use Rattle.rectangle.proofs.Spare.{length-places, places-line_of}
use Rattle.rectangle.proofs.Stride.{stride-index}
use Rattle.groups.specs.Lent.{Inside, Picked, number_of, members_of}
use Rattle.groups.specs.declared.tracked.Which.{Which}
use Rattle.groups.proofs.Numbers.{row_of}
use Rattle.visiting.specs.Lent.{store_in, group_at, Untouched, Mended, Becomes}
use Rattle.visiting.proofs.Stores.{store_length, store_at}
use Rattle.local_decoding.specs.Lookup.{after_row}
use Rattle.local_decoding.proofs.Cells.{row-visited}
use Rattle.lookup.specs.Lent.{ReadAlone, Wanted}

module _ (rows columns : ℕ) (lines row_table out₀ marks₀ : List ℕ) (n : ℕ) (w : Wanted rows columns lines row_table out₀ marks₀ n) where
  pub some-columns : 0 < columns
  some-columns = omega (arith, (sides rows columns w.sides).columns_low)

  pub row_listed : n / columns < rows
  row_listed = row_below rows columns some-columns n w.inside

  -- the row as it is chosen
  module _ (which : Which) (first step count : ℕ) (chosen : Picked rows columns which first step count) where
    pub row-chosen : number_of rows which ≡ n / columns → stride first step count ≡ row columns (n / columns)
    row-chosen e = chosen.numbered.lines ∙ ap (members_of rows columns) e ∙ row_of rows columns (n / columns) row_listed

  g : Group
  g = row_group columns row_table (n / columns)

  -- the parity line, as it is read
  module _ (parity : List ℕ) (found : parity ≡ bytes_at row_table (n / columns)) (read : Reading) (read_is : read ≡ reading parity) where
    read-parity : read ≡ in_bytes (read_parity line_layer g)
    unfolding g places_at
    read-parity = read_is ∙ parity-read g parity (ap places (sym found))

    parity-mark : read.mark ≡ (read_parity line_layer g).mark
    parity-mark = ap (λ (r : Reading). r.mark) read-parity

    pub row-unusable : read.mark ≡ 4 → unusable line_layer (row_group columns row_table (n / columns)) ≡ true
    unfolding unusable g
    row-unusable e = eq-eqb _ 4 (sym parity-mark ∙ e)

    pub row-usable : (read.mark ≡ 4 → ⊥) → unusable line_layer (row_group columns row_table (n / columns)) ≡ false
    unfolding unusable g
    row-usable d = ne_eqb _ 4 (λ e. d (parity-mark ∙ e))

    parity-long : length (read_parity line_layer g).line ≡ line_places
    unfolding g places_at
    parity-long =
        read-width line_layer kept (parity_address line_layer (row columns (n / columns))) (places (bytes_at row_table (n / columns)))
        (length-places (bytes_at row_table (n / columns)) (seventy row_table (n / columns) (omega (arith, w.row_bytes, row_listed))))

    -- the group that is visited
    pub group-used : (first step count : ℕ) → stride first step count ≡ row columns (n / columns) → (read.mark ≡ 4 → ⊥)
        → group_at first step count read.line ≡ as_read line_layer (row_group columns row_table (n / columns))
    unfolding g
    group-used first step count e d =
        ap₂ (λ (ms : List ℕ) (p : Word). record { members = ms; parity = p }) e
        (ap (λ (r : Reading). places r.line) read-parity ∙ places-line_of _ parity-long)
        ∙ sym (usable line_layer g (row-usable d))

  -- the row's lines, as they are read
  module _ (out marks : List ℕ) (first step count : ℕ) (lines_are : stride first step count ≡ row columns (n / columns))
      (inside : Inside first step count (rows * columns)) (same : length marks ≡ rows * columns)
      (filled : ReadAlone lines first step count out marks) where
    each : (m : ℕ) → m ∈ row columns (n / columns)
        → (m < length marks) × (bytes_at out m ≡ line_of (alone_at lines m).line) × (get_or marks m 0 ≡ (alone_at lines m).mark)
    each m i =
        let at = stride-index first step count m (subst (λ (l : List ℕ). m ∈ l) (sym lines_are) i) in
        rw at.2 (omega (arith, inside.each at.0 at.1), filled.bytes at.0 at.1, filled.marked at.0 at.1)

    held : (m : ℕ) → m ∈ row columns (n / columns) → cell_at (store_in out marks) m ≡ alone_at lines m
    unfolding places_at
    held m i =
        let e = each m i in
        store_at out marks m e.0
        ∙ ap₂ (λ (x : Word) (y : ℕ). record { line = x; mark = y })
        (ap places e.1 ∙ places-line_of (alone_at lines m).line (length-alone lines m (omega (arith, e.0, w.line_bytes))))
        e.2

    own : n ∈ row columns (n / columns)
    own = in_row rows columns some-columns n

    clean : bytes_at out n ≡ line_of (places_at out n)
    unfolding places_at
    clean =
        (each n own).1
        ∙ sym (ap (λ (l : List ℕ). line_of (places l)) (each n own).1
        ∙ ap line_of (places-line_of (alone_at lines n).line (length-alone lines n (omega (arith, w.inside, w.line_bytes)))))

    after : State
    after = visit (read_line line_layer) (as_read line_layer (row_group columns row_table (n / columns))) (store_in out marks)

    visited : cell_at after n ≡ cell_at (after_row rows columns lines row_table (n / columns)) n
    unfolding after
    visited =
        row-visited rows columns lines row_table [] w.sides n w.inside (store_in out marks) (store_length out marks ∙ same) held

    -- line n out of buffers that hold the store after the visit
    given : (out' marks' : List ℕ) → length marks' ≡ rows * columns → store_in out' marks' ≡ after
        → bytes_at out' n ≡ line_of (places_at out' n)
        → (line : List ℕ) → line ≡ bytes_at out' n
        → ◌≡◌ {A = Reading} (record { line = line; mark = get_or marks' n 0 })
        (in_bytes (cell_at (after_row rows columns lines row_table (n / columns)) n))
    given out' marks' long e spare line line-is =
        ap (λ (l : List ℕ). record { line = l; mark = get_or marks' n 0 }) (line-is ∙ spare)
        ∙ ap in_bytes
        (sym (store_at out' marks' n (omega (arith, w.inside))) ∙ ap (λ (s : State). cell_at s n) e ∙ visited)

    -- an unusable row's visit does nothing
    pub given_unvisited : unusable line_layer (row_group columns row_table (n / columns)) ≡ true → (line : List ℕ) → line ≡ bytes_at out n
        → ◌≡◌ {A = Reading} (record { line = line; mark = get_or marks n 0 })
        (in_bytes (cell_at (after_row rows columns lines row_table (n / columns)) n))
    unfolding after
    given_unvisited u = given out marks same (sym (unusable-idle.by_visit line_layer _ u (read_line line_layer) (store_in out marks))) clean

    pub given-visited : (out' marks' : List ℕ) (h : Group) → h ≡ as_read line_layer (row_group columns row_table (n / columns))
        → length marks' ≡ rows * columns → Becomes (visit (read_line line_layer) h) out marks out' marks' → (line : List ℕ)
        → line ≡ bytes_at out' n
        → ◌≡◌ {A = Reading} (record { line = line; mark = get_or marks' n 0 })
        (in_bytes (cell_at (after_row rows columns lines row_table (n / columns)) n))
    unfolding after places_at
    given-visited out' marks' h e long b =
        given out' marks' long (b.store ∙ ap (λ (k : Group). visit (read_line line_layer) k (store_in out marks)) e)
        (go (b.bytes n (omega (arith, w.inside))))
      where
        go : Untouched out marks out' marks' n ⊎ Mended out marks out' marks' n → bytes_at out' n ≡ line_of (places (bytes_at out' n))
        go (inl u) = u.bytes ∙ clean ∙ ap (λ (l : List ℕ). line_of (places l)) (sym u.bytes)
        go (inr m) = m.bytes
