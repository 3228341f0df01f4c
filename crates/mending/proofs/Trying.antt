-- The trials on the buffers that hold the store: the lines of the group in turn.
use mathlib.Core.Path.{◌≡◌, sym, ap, ◌∙◌, subst}
use mathlib.Core.List.{List, ◌∷◌}
use Prim.Native.Nat.{ℕ, ◌+◌, ◌*◌, ◌≤◌, ◌<◌}
use native.Mathlib.Omega.{arith}
use lib.ListN.{length, get_or, set}
use Rattle.gf2.specs.Word.{Word}
use Rattle.linecode.specs.Places.{line_places, places, line_of}
use Rattle.scheme.specs.Layer.{Cell, read_line}
use Rattle.scheme.specs.Visit.{State, cell_at, try_places, try_lines}
use Rattle.rectangle.specs.Store.{line_layer, bytes_at, stride}
use Rattle.rectangle.proofs.Spare.{places-line_of}
use Rattle.groups.specs.Lent.{Inside, Room, Carried, Some, Numbered}
use Rattle.groups.proofs.Walk.{left, left_all, left-next, left_end}
use Rattle.groups.proofs.Held.{held-count, held-mark, held_bytes}
use Rattle.groups.proofs.Searching.{turn-other, turn-failed, turn-tried}

-- four buffers under other names
pub four : (P : List ℕ → List ℕ → List ℕ → List ℕ → Type 0) (a b c d a' b' c' d' : List ℕ) → a ≡ a' → b ≡ b' → c ≡ c' → d ≡ d' → P a' b' c' d' → P a b c d
four P a b c d a' b' c' d' e f g h x =
    subst (λ (y : List ℕ). P y b c d) (sym e)
    (subst (λ (y : List ℕ). P a' y c d) (sym f) (subst (λ (y : List ℕ). P a' b' y d) (sym g) (subst (P a' b' c') (sym h) x)))

-- ---- the lines of the group in turn
pub record Trying (rows columns : ℕ) (out₀ marks₀ lacks₀ faulty₀ : List ℕ) (first step count : ℕ) (ps out marks lacks faulty : List ℕ) (i : ℕ) : Type 0 where
  pub inside : Inside first step count (rows * columns)
  pub room : Room rows columns out marks lacks faulty
  pub store : (parity : ℕ → Word) (s : State) → Carried rows columns parity out₀ marks₀ lacks₀ faulty₀ s
      → (t : State) × Carried rows columns parity out marks lacks faulty t
      × (try_lines (read_line line_layer) ps s (stride first step count) ≡ try_lines (read_line line_layer) ps t (left first step count i))

pub trying_start : (rows columns k : ℕ) (out marks lacks faulty : List ℕ) (first step count : ℕ) (ps : List ℕ)
    → Room rows columns out marks lacks faulty → Numbered rows columns k first step count
    → Trying rows columns out marks lacks faulty first step count ps out marks lacks faulty 0
trying_start rows columns k out marks lacks faulty first step count ps room chosen =
    record {
      inside = chosen.inside;
      room = room;
      store = λ parity s h. (s, h, ap (try_lines (read_line line_layer) ps s) (left_all first step count));
    }

pub trying-end : (rows columns : ℕ) (out₀ marks₀ lacks₀ faulty₀ : List ℕ) (first step count : ℕ) (ps out marks lacks faulty : List ℕ) (i : ℕ)
    → Trying rows columns out₀ marks₀ lacks₀ faulty₀ first step count ps out marks lacks faulty i → count ≤ i
    → (parity : ℕ → Word) (s : State) → Carried rows columns parity out₀ marks₀ lacks₀ faulty₀ s
    → Carried rows columns parity out marks lacks faulty (try_lines (read_line line_layer) ps s (stride first step count))
trying-end rows columns out₀ marks₀ lacks₀ faulty₀ first step count ps out marks lacks faulty i t h parity s k =
    let p = t.store parity s k in
    subst (Carried rows columns parity out marks lacks faulty)
    (sym (p.2 ∙ ap (try_lines (read_line line_layer) ps p.0) (left_end first step count i h))) p.1

module _ (rows columns : ℕ) (out₀ marks₀ lacks₀ faulty₀ : List ℕ) (first step count : ℕ) (ps out marks lacks faulty : List ℕ) (i : ℕ)
    (t : Trying rows columns out₀ marks₀ lacks₀ faulty₀ first step count ps out marks lacks faulty i) where
  -- some store is still held
  pub trying-some : Some rows columns out₀ marks₀ lacks₀ faulty₀ → Some rows columns out marks lacks faulty
  trying-some held = let p = t.store held.0 held.1 held.2 in (held.0, p.0, p.1)

  module _ (more : i < count) (n : ℕ) (n-is : n ≡ first + i * step) where
    -- what is left of the group after line n
    later : List ℕ
    later = left first step count (i + 1)

    pub below : n < rows * columns
    below = omega (arith, t.inside.each i more)

    -- a turn: whatever store v the buffers held, they hold one in which the lines after n are left to try
    turn : (out' marks' lacks' faulty' : List ℕ) → Room rows columns out' marks' lacks' faulty'
        → ((parity : ℕ → Word) (v : State) → Carried rows columns parity out marks lacks faulty v
        → (u : State) × Carried rows columns parity out' marks' lacks' faulty' u
        × (try_lines (read_line line_layer) ps v (n ∷ later) ≡ try_lines (read_line line_layer) ps u later))
        → Trying rows columns out₀ marks₀ lacks₀ faulty₀ first step count ps out' marks' lacks' faulty' (i + 1)
    unfolding later
    turn out' marks' lacks' faulty' room' f =
        record {
          inside = t.inside;
          room = room';
          store = λ parity s h.
              let p = t.store parity s h in
              let q = f parity p.0 p.1 in (
                q.0,
                q.1,
                p.2 ∙ ap (try_lines (read_line line_layer) ps p.0) (left-next first step count i n n-is more) ∙ q.2,
              );
        }

    -- a line that is not faulty
    pub trying-other : (get_or marks n 0 ≡ 4 → ⊥)
        → Trying rows columns out₀ marks₀ lacks₀ faulty₀ first step count ps out marks lacks faulty (i + 1)
    trying-other q =
        turn out marks lacks faulty t.room
        (λ parity v h. (v, h, turn-other ps v n later (λ (z : (cell_at v n).mark ≡ 4). q (held-mark out marks v h.held n ∙ z))))

    module _ (faulty-n : get_or marks n 0 ≡ 4) (line : List ℕ) (line-is : line ≡ bytes_at out n) where
      module _ (parity : ℕ → Word) (v : State) (h : Carried rows columns parity out marks lacks faulty v) where
        inside : n < length v
        inside =
            omega (
              arith,
              below,
              held-count out marks v h.held,
              t.room.rect.mark_bytes,
            )

        own_line : (cell_at v n).line ≡ places line
        own_line =
            sym (ap places (line-is ∙ held_bytes out marks v h.held n inside)
            ∙ places-line_of (cell_at v n).line (h.held.wide n inside))

        own-mark : (cell_at v n).mark ≡ 4
        own-mark = sym (held-mark out marks v h.held n) ∙ faulty-n

      -- a faulty line whose trials all failed
      pub trying-failed : ((c : Cell) → c.line ≡ places line → try_places (read_line line_layer) n c ps ≡ c)
          → Trying rows columns out₀ marks₀ lacks₀ faulty₀ first step count ps out marks lacks faulty (i + 1)
      trying-failed f =
          turn out marks lacks faulty t.room
          (λ parity v h. (v, h, turn-failed ps v n later (own-mark parity v h) (f (cell_at v n) (own_line parity v h))))

      -- a faulty line with an accepted trial, which is mended so
      pub trying-mended : (w : Word) (read out' marks' lacks' faulty' : List ℕ) → length w ≡ line_places → read ≡ line_of w
          → Room rows columns out' marks' lacks' faulty'
          → ((parity : ℕ → Word) (s : State) (x : Word) → Carried rows columns parity out marks lacks faulty s → length x ≡ line_places → read ≡ line_of x
          → Carried rows columns parity out' marks' lacks' faulty' (set s n (record { line = x; mark = 2 })))
          → ((c : Cell) → c.line ≡ places line → try_places (read_line line_layer) n c ps ≡ record { line = w; mark = 2 })
          → Trying rows columns out₀ marks₀ lacks₀ faulty₀ first step count ps out' marks' lacks' faulty' (i + 1)
      trying-mended w read out' marks' lacks' faulty' e q r m f =
          turn out' marks' lacks' faulty' r
          (λ parity v h. (
            set v n (record { line = w; mark = 2 }),
            m parity v w h e q,
            turn-tried ps v n later (own-mark parity v h) (record { line = w; mark = 2 }) (f (cell_at v n) (own_line parity v h)),
          ))

-- the same with the buffers under other names
pub retry : (rows columns : ℕ) (out₀ marks₀ lacks₀ faulty₀ : List ℕ) (first step count : ℕ) (ps a b x y out marks lacks faulty : List ℕ) (i : ℕ)
    → a ≡ out → b ≡ marks → x ≡ lacks → y ≡ faulty
    → Trying rows columns out₀ marks₀ lacks₀ faulty₀ first step count ps out marks lacks faulty i
    → Trying rows columns out₀ marks₀ lacks₀ faulty₀ first step count ps a b x y i
retry rows columns out₀ marks₀ lacks₀ faulty₀ first step count ps a b x y out marks lacks faulty i e f g h t =
    four (λ (p q r s : List ℕ). Trying rows columns out₀ marks₀ lacks₀ faulty₀ first step count ps p q r s i) a b x y out marks lacks faulty e f g h t

pub recarry : (rows columns : ℕ) (parity : ℕ → Word) (s : State) (a b x y out marks lacks faulty : List ℕ) → a ≡ out → b ≡ marks → x ≡ lacks
    → y ≡ faulty → Carried rows columns parity out marks lacks faulty s → Carried rows columns parity a b x y s
recarry rows columns parity s a b x y out marks lacks faulty e f g h c =
    four (λ (p q r t : List ℕ). Carried rows columns parity p q r t s) a b x y out marks lacks faulty e f g h c
