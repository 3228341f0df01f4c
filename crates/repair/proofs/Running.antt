-- Passes while some line is faulty, on the buffers that hold the store.
use mathlib.Core.Path.{◌≡◌, sym, ◌∙◌, subst}
use mathlib.Core.List.{List}
use Prim.Native.Nat.{ℕ, ◌+◌, ◌*◌, ◌≤◌, ◌<◌}
use native.Mathlib.Omega.{arith}
use Rattle.gf2.specs.Word.{Word}
use Rattle.scheme.specs.Layer.{read_line}
use Rattle.scheme.specs.Visit.{State, is_faulty}
use Rattle.scheme.specs.Repair.{faulty_count, pass}
use Rattle.scheme.proofs.Lists.{select-few}
use Rattle.scheme.proofs.Running.{Reached, reached-start, reached-end, reached-idle, reached-less, reached-next}
use Rattle.rectangle.specs.Store.{line_layer}
use Rattle.groups.specs.Lent.{Room, Carried, Some, Makes, count_to}
use Rattle.repair.specs.Lent.{RanPasses, all_groups}
use Rattle.groups.proofs.Held.{held-count}
use Rattle.repair.proofs.Counting.{count-all}

-- the counts of the rows together are the faulty lines of the store
counted : (rows columns : ℕ) (parity : ℕ → Word) (out marks lacks faulty : List ℕ) (s : State) → Room rows columns out marks lacks faulty
    → Carried rows columns parity out marks lacks faulty s → count_to faulty rows ≡ faulty_count s
counted rows columns parity out marks lacks faulty s room c =
    count-all rows columns parity lacks faulty s c.beside (sym (held-count out marks s c.held) ∙ room.rect.mark_bytes)

-- ---- the loop: so many passes are made, and so many lines are faulty
pub record Running (rows columns : ℕ) (pm out₀ marks₀ lacks₀ faulty₀ out marks lacks faulty : List ℕ) (passes before : ℕ) : Type 0 where
  pub room : Room rows columns out marks lacks faulty
  pub bound : passes + before ≤ rows * columns
  pub store : (parity : ℕ → Word) (s : State) → Carried rows columns parity out₀ marks₀ lacks₀ faulty₀ s
      → (t : State) × Carried rows columns parity out marks lacks faulty t
      × Reached (read_line line_layer) (all_groups rows columns pm parity) s t passes before

pub running-start : (rows columns : ℕ) (pm out marks lacks faulty : List ℕ) (f : ℕ) → Some rows columns out marks lacks faulty
    → Room rows columns out marks lacks faulty → f ≡ count_to faulty rows → Running rows columns pm out marks lacks faulty out marks lacks faulty 0 f
running-start rows columns pm out marks lacks faulty f held room q =
    record {
      room = room;
      bound =
          omega (
            arith,
            counted rows columns held.0 out marks lacks faulty held.1 room held.2,
            held-count out marks held.1 held.2.held,
            room.rect.mark_bytes,
            select-few is_faulty held.1,
          );
      store = λ parity s h. (s, h, reached-start _ _ s f (q ∙ counted rows columns parity out marks lacks faulty s room h));
    }

module _ (rows columns : ℕ) (pm out₀ marks₀ lacks₀ faulty₀ out marks lacks faulty : List ℕ) (passes before : ℕ)
    (r : Running rows columns pm out₀ marks₀ lacks₀ faulty₀ out marks lacks faulty passes before) where
  pub running-some : Some rows columns out₀ marks₀ lacks₀ faulty₀ → Some rows columns out marks lacks faulty
  running-some held = let q = r.store held.0 held.1 held.2 in (held.0, q.0, q.1)

  -- none is faulty
  pub running-end : before ≤ 0 → RanPasses rows columns pm out₀ marks₀ lacks₀ faulty₀ out marks lacks faulty passes
  running-end z =
      record {
        cells = λ parity s h.
            let p = r.store parity s h in
            subst (Carried rows columns parity out marks lacks faulty) (sym (reached-end _ _ s p.0 passes before p.2 z).0) p.1;
        passes = λ parity s h. let p = r.store parity s h in sym (reached-end _ _ s p.0 passes before p.2 z).1;
      }

  module _ (some : 0 < before) (out' marks' lacks' faulty' : List ℕ) (room' : Room rows columns out' marks' lacks' faulty')
      (made : Makes rows columns out marks lacks faulty out' marks' lacks' faulty' (λ parity. pass (read_line line_layer) (all_groups rows columns pm parity)))
      (left : ℕ) (left_is : left ≡ count_to faulty' rows) where
    left-count : (parity : ℕ → Word) (t : State) → Carried rows columns parity out marks lacks faulty t
        → left ≡ faulty_count (pass (read_line line_layer) (all_groups rows columns pm parity) t)
    left-count parity t h = left_is ∙ counted rows columns parity out' marks' lacks' faulty' _ room' (made parity t h)

    -- the pass mended nothing
    pub running-idle : left ≡ before → RanPasses rows columns pm out₀ marks₀ lacks₀ faulty₀ out' marks' lacks' faulty' (passes + 1)
    running-idle e =
        record {
          cells = λ parity s h.
              let p = r.store parity s h in
              subst (Carried rows columns parity out' marks' lacks' faulty')
              (sym (reached-idle _ _ s p.0 passes before p.2 some left (left-count parity p.0 p.1) e).0) (made parity p.0 p.1);
          passes = λ parity s h.
              let p = r.store parity s h in
              sym (reached-idle _ _ s p.0 passes before p.2 some left (left-count parity p.0 p.1) e).1;
        }

    -- fewer are faulty
    pub running-less : (left ≡ before → ⊥) → Some rows columns out₀ marks₀ lacks₀ faulty₀ → left < before
    running-less d held =
        let p = r.store held.0 held.1 held.2 in
        reached-less _ _ held.1 p.0 passes before p.2 some left (left-count held.0 p.0 p.1) d

    pub running-next : (left ≡ before → ⊥) → Some rows columns out₀ marks₀ lacks₀ faulty₀
        → Running rows columns pm out₀ marks₀ lacks₀ faulty₀ out' marks' lacks' faulty' (passes + 1) left
    running-next d held =
        record {
          room = room';
          bound = omega (arith, running-less d held, r.bound);
          store = λ parity s h.
              let p = r.store parity s h in (
                pass (read_line line_layer) (all_groups rows columns pm parity) p.0,
                made parity p.0 p.1,
                reached-next _ _ s p.0 passes before p.2 some left (left-count parity p.0 p.1) d,
              );
        }
