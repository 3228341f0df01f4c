-- The sweep: the pieces of a row one after the other, then the rows.
use mathlib.Core.Path.{◌≡◌, refl, sym, ap, ◌∙◌, subst}
use mathlib.Core.List.{List, []}
use Prim.Native.Nat.{ℕ, ◌+◌, ◌*◌, ◌≤◌, ◌<◌}
use native.Mathlib.Decide.{ℕ_discrete}
use native.Mathlib.Omega.{arith}
use lib.ListN.{length, get_or, set}
use lib.Seq.{get_or-set_same, get_or-set_other}
use Rattle.gf2.specs.Word.{Word}
use Rattle.rectangle.proofs.Spare.{seventy-line_of}
use Rattle.scheme.specs.Layer.{read_line}
use Rattle.scheme.specs.Visit.{State}
use Rattle.scheme.specs.Repair.{read_all}
use Rattle.rectangle.specs.Store.{line_layer, bytes_at, lines_in, put_bytes}
use Rattle.groups.specs.Lent.{Room, Beside, Tracked, Carried, group_of}
use Rattle.groups.proofs.Added.{put_same, put_other}
use Rattle.groups.proofs.Rooms.{same-room}
use Rattle.first_reading.specs.Lent.{read_first, Begun, RowOpen, Piece, ReadUpTo}
use Rattle.first_reading.proofs.FirstReading.{all_read, begun-start, begun-end}

-- ---- row r: c of its lines are read and added
pub record Sweeping (rows columns : ℕ) (found out₀ marks₀ lacks₀ faulty₀ : List ℕ) (r first : ℕ) (out marks lacks faulty difference : List ℕ) (hurt c : ℕ) : Type 0 where
  pub few : c ≤ columns
  pub room : Room rows columns out marks lacks faulty
  pub whole : length difference ≡ 70
  pub begun : (parity : ℕ → Word) → ReadUpTo rows columns parity found out₀ marks₀ lacks₀ faulty₀ first → Begun out marks (read_first found (first + c))
  pub opened : (parity : ℕ → Word) → ReadUpTo rows columns parity found out₀ marks₀ lacks₀ faulty₀ first
      → RowOpen rows columns parity found lacks faulty r (first + c) difference hurt

-- the bytes of a difference
own-whole : (rows columns : ℕ) (parity : ℕ → Word) (found lacks faulty : List ℕ) (r n : ℕ) (difference : List ℕ) (hurt : ℕ)
    → RowOpen rows columns parity found lacks faulty r n difference hurt → length difference ≡ 70
own-whole rows columns parity found lacks faulty r n difference hurt o = ap length o.own.lack ∙ seventy-line_of _

module _ (rows columns : ℕ) (found out₀ marks₀ lacks₀ faulty₀ : List ℕ) (r first : ℕ) (r-in : r < rows) where
  pub sweeping_start : (line : List ℕ) (hurt : ℕ) → Room rows columns out₀ marks₀ lacks₀ faulty₀
      → ((parity : (ℕ → Word)) × ReadUpTo rows columns parity found out₀ marks₀ lacks₀ faulty₀ first) → line ≡ bytes_at lacks₀ r
      → hurt ≡ get_or faulty₀ r 0
      → Sweeping rows columns found out₀ marks₀ lacks₀ faulty₀ r first out₀ marks₀ lacks₀ faulty₀ line hurt 0
  sweeping_start line hurt room some e f =
      record {
        few = omega arith;
        room = room;
        whole = own-whole rows columns some.0 found lacks₀ faulty₀ r (first + 0) line hurt (kept some.0 some.1);
        begun = λ parity u. subst (λ (k : ℕ). Begun out₀ marks₀ (read_first found k)) (same first) u.begun;
        opened = kept;
      }
    where
      same : (n : ℕ) → n ≡ n + 0
      same n = omega arith

      kept : (parity : ℕ → Word) → ReadUpTo rows columns parity found out₀ marks₀ lacks₀ faulty₀ first
          → RowOpen rows columns parity found lacks₀ faulty₀ r (first + 0) line hurt
      kept parity u =
          subst (λ (k : ℕ). RowOpen rows columns parity found lacks₀ faulty₀ r k line hurt) (same first)
          (record {
            others = λ k h d. u.beside k h;
            own =
                subst (λ (l : List ℕ). Beside (group_of rows columns parity r) (read_first found first) l hurt) (sym e)
                (subst (λ (a : ℕ). Beside (group_of rows columns parity r) (read_first found first) (bytes_at lacks₀ r) a) (sym f)
                (u.beside r (omega arith)));
          })

  module _ (out marks lacks faulty difference : List ℕ) (hurt c : ℕ)
      (sweep : Sweeping rows columns found out₀ marks₀ lacks₀ faulty₀ r first out marks lacks faulty difference hurt c) where
    -- a piece is read
    module _ (first-is : first ≡ r * columns) (found_bytes : length found ≡ rows * columns * 70) (count : ℕ) (inside : c + count ≤ columns)
        (out' marks' : List ℕ) (out-long : length out' ≡ length out) (marks-long : length marks' ≡ length marks)
        (read : Begun out marks (read_first found (first + c)) → Begun out' marks' (read_first found (first + c + count))) where
      pub sweeping_piece : (parity : ℕ → Word) → ReadUpTo rows columns parity found out₀ marks₀ lacks₀ faulty₀ first
          → Piece rows columns parity found out' marks' lacks faulty r (first + c) c count difference hurt
      sweeping_piece parity u =
          record {
            room = same-room rows columns out marks lacks faulty out' marks' lacks faulty sweep.room out-long marks-long refl refl;
            bytes = found_bytes;
            listed = r-in;
            here = omega arith;
            inside = inside;
            begun = read (sweep.begun parity u);
            opened = sweep.opened parity u;
          }

      -- and added
      pub sweeping_next : (lacks' faulty' difference' : List ℕ) (hurt' : ℕ) → length lacks' ≡ length lacks → length faulty' ≡ length faulty
          → ((parity : (ℕ → Word)) × ReadUpTo rows columns parity found out₀ marks₀ lacks₀ faulty₀ first)
          → ((width : ℕ) (parity : ℕ → Word) (lines : List ℕ) (k : ℕ) → Piece rows width parity lines out' marks' lacks faulty k (first + c) c count difference hurt
          → RowOpen rows width parity lines lacks' faulty' k (first + c + count) difference' hurt')
          → Sweeping rows columns found out₀ marks₀ lacks₀ faulty₀ r first out' marks' lacks' faulty' difference' hurt' (c + count)
      sweeping_next lacks' faulty' difference' hurt' lacks-long faulty-long some add =
          record {
            few = inside;
            room = same-room rows columns out marks lacks faulty out' marks' lacks' faulty' sweep.room out-long marks-long lacks-long faulty-long;
            whole = own-whole rows columns some.0 found lacks' faulty' r _ difference' hurt' (kept some.0 some.1);
            begun = λ parity u. subst (λ (k : ℕ). Begun out' marks' (read_first found k)) (next first c count) (read (sweep.begun parity u));
            opened = kept;
          }
        where
          next : (a b c : ℕ) → a + b + c ≡ a + (b + c)
          next a b c = omega arith

          kept : (parity : ℕ → Word) → ReadUpTo rows columns parity found out₀ marks₀ lacks₀ faulty₀ first
              → RowOpen rows columns parity found lacks' faulty' r (first + (c + count)) difference' hurt'
          kept parity u =
              subst (λ (k : ℕ). RowOpen rows columns parity found lacks' faulty' r k difference' hurt') (next first c count)
              (add columns parity found r (sweeping_piece parity u))

    -- the row's difference and count are put back
    pub sweeping_end : columns ≤ c → (last counts : List ℕ) → last ≡ put_bytes lacks r difference → counts ≡ set faulty r hurt
        → (parity : ℕ → Word) → ReadUpTo rows columns parity found out₀ marks₀ lacks₀ faulty₀ first
        → ReadUpTo rows columns parity found out marks last counts (first + columns)
    sweeping_end h last counts e f parity u =
        subst (λ (k : ℕ). ReadUpTo rows columns parity found out marks last counts (first + k)) end
        (record { begun = sweep.begun parity u; beside = λ k i. each k i (ℕ_discrete k r) })
      where
        end : c ≡ columns
        end = omega (arith, sweep.few)

        o : RowOpen rows columns parity found lacks faulty r (first + c) difference hurt
        o = sweep.opened parity u

        here : r < rows + columns
        here = omega arith

        each : (k : ℕ) → k < rows + columns → Dec (k ≡ r)
            → Beside (group_of rows columns parity k) (read_first found (first + c)) (bytes_at last k) (get_or counts k 0)
        each k i (yes x) =
            subst (λ (j : ℕ). Beside (group_of rows columns parity j) (read_first found (first + c)) (bytes_at last j) (get_or counts j 0)) (sym x)
            (subst (λ (l : List ℕ). Beside (group_of rows columns parity r) (read_first found (first + c)) l (get_or counts r 0))
            (sym (ap (λ (b : List ℕ). bytes_at b r) e ∙ put_same (rows + columns) lacks sweep.room.lack_bytes r here difference _ o.own.lack ∙ sym o.own.lack))
            (subst (λ (a : ℕ). Beside (group_of rows columns parity r) (read_first found (first + c)) difference a)
            (sym (ap (λ (l : List ℕ). get_or l r 0) f ∙ get_or-set_same faulty r hurt 0 (omega (arith, sweep.room.counts, sweep.room.rect.rows_high)))) o.own))
        each k i (no x) =
            subst (λ (l : List ℕ). Beside (group_of rows columns parity k) (read_first found (first + c)) l (get_or counts k 0))
            (sym (ap (λ (b : List ℕ). bytes_at b k) e
            ∙ put_other (rows + columns) lacks sweep.room.lack_bytes r here difference _ o.own.lack k i x))
            (subst (λ (a : ℕ). Beside (group_of rows columns parity k) (read_first found (first + c)) (bytes_at lacks k) a)
            (sym (ap (λ (l : List ℕ). get_or l k 0) f ∙ get_or-set_other faulty r k hurt 0 x)) (o.others k i x))

-- ---- all rows: r of them are read
pub record Swept (rows columns : ℕ) (found lacks₀ faulty₀ out marks lacks faulty : List ℕ) (first r : ℕ) : Type 0 where
  pub few : r ≤ rows
  pub here : first ≡ r * columns
  pub room : Room rows columns out marks lacks faulty
  pub store : (parity : ℕ → Word) → Tracked rows columns parity lacks₀ faulty₀ [] → ReadUpTo rows columns parity found out marks lacks faulty first

pub swept-start : (rows columns : ℕ) (found out marks lacks faulty : List ℕ) → Room rows columns out marks lacks faulty
    → Swept rows columns found lacks faulty out marks lacks faulty 0 0
unfolding read_first
swept-start rows columns found out marks lacks faulty room =
    record {
      few = omega arith;
      here = omega arith;
      room = room;
      store = λ parity t. record { begun = begun-start found out marks; beside = t };
    }

pub swept-next : (rows columns : ℕ) (found lacks₀ faulty₀ out marks lacks faulty : List ℕ) (first r : ℕ) (out' marks' lacks' faulty' : List ℕ)
    → Swept rows columns found lacks₀ faulty₀ out marks lacks faulty first r → r < rows → Room rows columns out' marks' lacks' faulty'
    → ((parity : ℕ → Word) → ReadUpTo rows columns parity found out marks lacks faulty first
    → ReadUpTo rows columns parity found out' marks' lacks' faulty' (first + columns))
    → Swept rows columns found lacks₀ faulty₀ out' marks' lacks' faulty' (first + columns) (r + 1)
swept-next rows columns found lacks₀ faulty₀ out marks lacks faulty first r out' marks' lacks' faulty' w h room f =
    record {
      few = omega arith;
      here = omega (arith, w.here);
      room = room;
      store = λ parity t. f parity (w.store parity t);
    }

pub swept-end : (rows columns : ℕ) (found lacks₀ faulty₀ out marks lacks faulty : List ℕ) (first r : ℕ)
    → Swept rows columns found lacks₀ faulty₀ out marks lacks faulty first r → rows ≤ r → length found ≡ rows * columns * 70
    → (parity : ℕ → Word) → Tracked rows columns parity lacks₀ faulty₀ []
    → Carried rows columns parity out marks lacks faulty (read_all (read_line line_layer) 0 (lines_in (rows * columns) found))
swept-end rows columns found lacks₀ faulty₀ out marks lacks faulty first r w h found_bytes parity t =
    record {
      held = begun-end found out marks (rows * columns) found_bytes w.room.rect.out_bytes w.room.rect.mark_bytes all.begun;
      beside = λ k i.
          subst (λ (s : State). Beside (group_of rows columns parity k) s (bytes_at lacks k) (get_or faulty k 0)) (sym (all_read found (rows * columns)))
          (all.beside k i);
    }
  where
    last : r ≡ rows
    last = omega (arith, w.few)

    end : first ≡ rows * columns
    end = w.here ∙ ap (λ (x : ℕ). x * columns) last

    all : ReadUpTo rows columns parity found out marks lacks faulty (rows * columns)
    all = subst (λ (n : ℕ). ReadUpTo rows columns parity found out marks lacks faulty n) end (w.store parity t)
