-- A faulty line is mended: the buffers then hold the store with that line, and what stands beside its row and its column is that of it.
use mathlib.Core.Path.{◌≡◌, sym, ap, ap₂, ◌∙◌, subst}
use mathlib.Core.Logic.{◌⊎◌, inl, inr}
use mathlib.Core.Bool.{Bool, true, false}
use mathlib.Core.List.{List, []}
use Prim.Native.Nat.{ℕ, ◌+◌, ◌-◌, ◌*◌, ◌/◌, ◌%◌, ◌<◌}
use native.Mathlib.Decide.{ℕ_discrete}
use native.Mathlib.Omega.{arith}
use borrow.Author.Tests.{eq-eqb, ne_eqb}
use lib.ListN.{length, get_or, set, length-set}
use lib.Seq.{get_or-set_same, get_or-set_other}
use Rattle.gf2.specs.Word.{Word, ◌⊕◌}
use Rattle.gf2.proofs.Xor.{xor_assoc, xor_self, length-xor-same}
use Rattle.gf2.proofs.Crc.{zeros-xor}
use Rattle.linecode.specs.Places.{line_places, places, line_of, xor_bytes}
use Rattle.scheme.specs.Layer.{Cell}
use Rattle.scheme.specs.Visit.{State, cell_at, line_at, is_faulty, faulty_of}
use Rattle.scheme.specs.Demand3.{◌∈◌}
use Rattle.scheme.proofs.Lists.{selects, some-there}
use Rattle.rectangle.specs.Store.{bytes_at, put_bytes}
use Rattle.rectangle.proofs.Groups.{row_below, column-below}
use Rattle.rectangle.proofs.Spare.{places-line_of}
use Rattle.groups.specs.Lent.{Holding, Room, Carried, Some, Beside, group_of, members_of}
use Rattle.groups.proofs.Numbers.{members-rising, home-row, home-column, homes}
use Rattle.groups.proofs.Beside.{one-if, clean-sum, beside-elsewhere, beside-here}
use Rattle.groups.proofs.Held.{held-count, held-mark, held_bytes, held-put}
use Rattle.groups.proofs.Added.{put-length, put_same, put_other}
use Rattle.groups.proofs.Joined.{added}

-- a line's row and column under other names
named : (columns n : ℕ) (P : ℕ → ℕ → Type 0) → P (n / columns) (n % columns) → (r c : ℕ) → r ≡ n / columns → c ≡ n % columns → P r c
named columns n P h r c e f = subst (λ (i : ℕ). P i c) (sym e) (subst (P (n / columns)) (sym f) h)

module _ (rows columns : ℕ) (out marks lacks faulty : List ℕ) (room : Room rows columns out marks lacks faulty) (n : ℕ)
    (inside : n < rows * columns) where
  pub some-columns : 0 < columns
  some-columns = omega (arith, room.rect.columns_low)

  pub row_listed : n / columns < rows
  row_listed = row_below rows columns some-columns n inside

  pub column-listed : n % columns < columns
  column-listed = column-below rows columns some-columns n

  -- its two groups have a faulty line
  module _ (held : Some rows columns out marks lacks faulty) (bad : get_or marks n 0 ≡ 4) where
    counted : (k : ℕ) → k < rows + columns → n ∈ members_of rows columns k → 0 < get_or faulty k 0
    counted k h i =
        let s = held.1 in
        let e : is_faulty (cell_at s n) ≡ true = eq-eqb (cell_at s n).mark 4 (sym (held-mark out marks s held.2.held n) ∙ bad) in
        omega (
          arith,
          (held.2.beside k h).number,
          some-there n (faulty_of s (members_of rows columns k)) (selects (λ m. is_faulty (cell_at s m)) (members_of rows columns k) n i e),
        )

    pub row-counted : (r : ℕ) → r ≡ n / columns → 0 < get_or faulty r 0
    row-counted r e =
        subst (λ (i : ℕ). 0 < get_or faulty i 0) (sym e)
        (counted (n / columns) (omega (arith, row_listed)) (home-row rows columns some-columns n inside))

    -- the column has it still when the row has one less
    pub column-counted : (mid : List ℕ) (r c : ℕ) → r ≡ n / columns → c ≡ n % columns → mid ≡ set faulty r (get_or faulty r 0 - 1)
        → 0 < get_or mid (rows + c) 0
    column-counted mid =
        named columns n (λ r c. mid ≡ set faulty r (get_or faulty r 0 - 1) → 0 < get_or mid (rows + c) 0)
        (λ e.
        subst (λ (x : ℕ). 0 < x)
        (sym
        (ap (λ (l : List ℕ). get_or l (rows + n % columns) 0) e
        ∙ get_or-set_other faulty (n / columns) (rows + n % columns) _ 0 (λ (x : rows + n % columns ≡ n / columns). omega (arith, row_listed))))
        (counted (rows + n % columns) (omega (arith, column-listed)) (home-column rows columns some-columns n inside)))

  module _ (parity : ℕ → Word) (s : State) (c : Carried rows columns parity out marks lacks faulty s) (bad : get_or marks n 0 ≡ 4)
      (w : Word) (mark : ℕ) (long : length w ≡ line_places) (low : mark < 4) (old line change : List ℕ) (old-is : old ≡ bytes_at out n)
      (line-is : line ≡ line_of w) (change-is : change ≡ line_of (places old ⊕ places line)) where
    cell : Cell
    cell = record { line = w; mark = mark }

    t : State
    t = set s n cell

    below : n < length s
    below = omega (arith, held-count out marks s c.held, room.rect.mark_bytes)

    own : length (line_at s n) ≡ line_places
    own = c.held.wide n below

    here : cell_at t n ≡ cell
    unfolding t
    here = get_or-set_same s n cell (record { line = []; mark = 0 }) below

    others : (m : ℕ) → (m ≡ n → ⊥) → cell_at t m ≡ cell_at s m
    unfolding t
    others m d = get_or-set_other s n m cell (record { line = []; mark = 0 }) d

    delta : Word
    delta = line_at s n ⊕ w

    wide : length delta ≡ line_places
    unfolding delta
    wide = length-xor-same (line_at s n) w (own ∙ sym long) ∙ own

    delta-is : change ≡ line_of delta
    unfolding delta
    delta-is =
        change-is
        ∙ ap₂ (λ (a b : Word). line_of (a ⊕ b))
        (ap places (old-is ∙ held_bytes out marks s c.held n below) ∙ places-line_of (line_at s n) own)
        (ap places line-is ∙ places-line_of w long)

    changed : line_at t n ≡ line_at s n ⊕ delta
    unfolding delta cell
    changed =
        ap (λ (x : Cell). x.line) here
        ∙ sym (zeros-xor (length (line_at s n)) w (long ∙ sym own))
        ∙ ap (λ (x : Word). x ⊕ w) (sym (xor_self (line_at s n)))
        ∙ xor_assoc (line_at s n) (line_at s n) w

    was : is_faulty (cell_at s n) ≡ true
    was = eq-eqb (cell_at s n).mark 4 (sym (held-mark out marks s c.held n) ∙ bad)

    is : is_faulty (cell_at t n) ≡ false
    unfolding cell
    is = ap is_faulty here ∙ ne_eqb mark 4 (λ (e : mark ≡ 4). omega arith)

    one_less : (a b : ℕ) → 0 < b → a ≡ b - 1 → a + one-if (is_faulty (cell_at s n)) ≡ b + one-if (is_faulty (cell_at t n))
    one_less a b p e =
        ap (λ (x : Bool). a + one-if x) was ∙ less ∙ sym (ap (λ (x : Bool). b + one-if x) is)
      where
        less : a + 1 ≡ b + 0
        less = omega arith

    -- a group's difference with the change added
    sum_is : (k : ℕ) → k < rows + columns → xor_bytes (bytes_at lacks k) change ≡ line_of (places (bytes_at lacks k) ⊕ delta)
    sum_is k h =
        ap (xor_bytes (bytes_at lacks k)) delta-is
        ∙ clean-sum (group_of rows columns parity k) s (bytes_at lacks k) (get_or faulty k 0) (c.beside k h) delta wide

    -- a group that holds the line, with the change added and one taken off its number
    touched : (k : ℕ) → k < rows + columns → n ∈ members_of rows columns k → (x : List ℕ) (a : ℕ)
        → x ≡ line_of (places (bytes_at lacks k) ⊕ delta) → a ≡ get_or faulty k 0 - 1
        → Beside (group_of rows columns parity k) t x a
    touched k h i x a e f =
        beside-here s t n others delta wide changed (group_of rows columns parity k) (bytes_at lacks k) x (get_or faulty k 0) a
        (members-rising rows columns some-columns k h) i (c.beside k h) e
        (one_less a (get_or faulty k 0) (counted (parity, s, c) bad k h i) f)

    R : ℕ
    R = n / columns

    C : ℕ
    C = rows + n % columns

    apart : R ≡ C → ⊥
    unfolding R C
    apart e = omega (arith, row_listed)

    lacks₁ : List ℕ
    lacks₁ = added lacks R change

    faulty₁ : List ℕ
    faulty₁ = set faulty R (get_or faulty R 0 - 1)

    pub mended : (after after_marks : List ℕ) → after ≡ put_bytes out n line → after_marks ≡ set marks n mark
        → Carried rows columns parity after after_marks (added (added lacks (n / columns) change) (rows + n % columns) change)
        (set (set faulty (n / columns) (get_or faulty (n / columns) 0 - 1)) (rows + n % columns)
        (get_or (set faulty (n / columns) (get_or faulty (n / columns) 0 - 1)) (rows + n % columns) 0 - 1))
        (set s n (record { line = w; mark = mark }))
    unfolding R C lacks₁ faulty₁ t cell
    mended after after_marks e f =
        record {
          held =
              subst (λ (b : List ℕ). Holding-of b after_marks) (sym (e ∙ ap (put_bytes out n) line-is))
              (subst (λ (b : List ℕ). Holding-of (put_bytes out n (line_of w)) b) (sym f) (held-put out marks s c.held n w mark below long));
          beside = each;
        }
      where
        Holding-of : List ℕ → List ℕ → Type 0
        Holding-of a b = Holding a b t

        row_in : R < rows + columns
        row_in = omega (arith, row_listed)

        column-in : C < rows + columns
        column-in = omega (arith, column-listed)

        mid : length lacks₁ ≡ (rows + columns) * 70
        mid = put-length (rows + columns) lacks room.lack_bytes R row_in _ _ (sum_is R row_in)

        -- the column's difference is as it was when the row's has changed
        second_is : xor_bytes (bytes_at lacks₁ C) change ≡ line_of (places (bytes_at lacks C) ⊕ delta)
        second_is =
            ap (λ (l : List ℕ). xor_bytes l change)
            (put_other (rows + columns) lacks room.lack_bytes R row_in _ _ (sum_is R row_in) C column-in (λ (x : C ≡ R). apart (sym x)))
            ∙ sum_is C column-in

        count-mid : length faulty₁ ≡ 1024
        count-mid = length-set faulty R (get_or faulty R 0 - 1) ∙ room.counts

        each : (k : ℕ) → k < rows + columns
            → Beside (group_of rows columns parity k) t (bytes_at (added lacks₁ C change) k) (get_or (set faulty₁ C (get_or faulty₁ C 0 - 1)) k 0)
        each k h = go (ℕ_discrete k C) (ℕ_discrete k R)
          where
            go : Dec (k ≡ C) → Dec (k ≡ R)
                → Beside (group_of rows columns parity k) t (bytes_at (added lacks₁ C change) k) (get_or (set faulty₁ C (get_or faulty₁ C 0 - 1)) k 0)
            go (yes p) q =
                subst
                (λ (j : ℕ). Beside (group_of rows columns parity j) t (bytes_at (added lacks₁ C change) j) (get_or (set faulty₁ C (get_or faulty₁ C 0 - 1)) j 0))
                (sym p)
                (touched C column-in (home-column rows columns some-columns n inside) _ _ (put_same (rows + columns) lacks₁ mid C column-in _ _ second_is)
                (get_or-set_same faulty₁ C (get_or faulty₁ C 0 - 1) 0 (omega (arith, count-mid))
                ∙ ap (λ (x : ℕ). x - 1) (get_or-set_other faulty R C (get_or faulty R 0 - 1) 0 (λ (x : C ≡ R). apart (sym x)))))
            go (no d) (yes q) =
                subst
                (λ (j : ℕ). Beside (group_of rows columns parity j) t (bytes_at (added lacks₁ C change) j) (get_or (set faulty₁ C (get_or faulty₁ C 0 - 1)) j 0))
                (sym q)
                (touched R row_in (home-row rows columns some-columns n inside) _ _
                (put_other (rows + columns) lacks₁ mid C column-in _ _ second_is R row_in apart ∙ put_same (rows + columns) lacks room.lack_bytes R row_in _ _ (sum_is R row_in))
                (get_or-set_other faulty₁ C R (get_or faulty₁ C 0 - 1) 0 apart
                ∙ get_or-set_same faulty R (get_or faulty R 0 - 1) 0 (omega (arith, room.counts))))
            go (no d) (no q) =
                beside-elsewhere s t n others (group_of rows columns parity k) _ _ absent
                (subst (λ (l : List ℕ). Beside (group_of rows columns parity k) s l (get_or (set faulty₁ C (get_or faulty₁ C 0 - 1)) k 0))
                (sym
                (put_other (rows + columns) lacks₁ mid C column-in _ _ second_is k h d
                ∙ put_other (rows + columns) lacks room.lack_bytes R row_in _ _ (sum_is R row_in) k h q))
                (subst (λ (a : ℕ). Beside (group_of rows columns parity k) s (bytes_at lacks k) a)
                (sym (get_or-set_other faulty₁ C k (get_or faulty₁ C 0 - 1) 0 d ∙ get_or-set_other faulty R k (get_or faulty R 0 - 1) 0 q))
                (c.beside k h)))
              where
                absent : n ∈ members_of rows columns k → ⊥
                absent i = either (homes rows columns some-columns n k h i)
                  where
                    either : (k ≡ n / columns) ⊎ (k ≡ rows + n % columns) → ⊥
                    either (inl x) = q x
                    either (inr x) = d x

    -- the same with the buffers, the row and the column under other names
    pub mended-as : (after after_marks lacks_mid lacks_last faulty_mid faulty_last : List ℕ) (r k : ℕ) → r ≡ n / columns → k ≡ n % columns
        → after ≡ put_bytes out n line → after_marks ≡ set marks n mark
        → lacks_mid ≡ added lacks r change → faulty_mid ≡ set faulty r (get_or faulty r 0 - 1)
        → lacks_last ≡ added lacks_mid (rows + k) change → faulty_last ≡ set faulty_mid (rows + k) (get_or faulty_mid (rows + k) 0 - 1)
        → Carried rows columns parity after after_marks lacks_last faulty_last (set s n (record { line = w; mark = mark }))
    mended-as after after_marks lacks_mid lacks_last faulty_mid faulty_last =
        named columns n
        (λ r k. after ≡ put_bytes out n line → after_marks ≡ set marks n mark
        → lacks_mid ≡ added lacks r change → faulty_mid ≡ set faulty r (get_or faulty r 0 - 1)
        → lacks_last ≡ added lacks_mid (rows + k) change → faulty_last ≡ set faulty_mid (rows + k) (get_or faulty_mid (rows + k) 0 - 1)
        → Carried rows columns parity after after_marks lacks_last faulty_last (set s n (record { line = w; mark = mark })))
        (λ e f g h i j.
        subst (λ (x : List ℕ). Carried rows columns parity after after_marks x faulty_last (set s n (record { line = w; mark = mark })))
        (sym (i ∙ ap (λ (x : List ℕ). added x (rows + n % columns) change) g))
        (subst (λ (x : List ℕ). Carried rows columns parity after after_marks (added (added lacks (n / columns) change) (rows + n % columns) change) x (set s n (record { line = w; mark = mark })))
        (sym (j ∙ ap (λ (x : List ℕ). set x (rows + n % columns) (get_or x (rows + n % columns) 0 - 1)) h))
        (mended after after_marks e f)))
