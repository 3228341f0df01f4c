-- A pass over all groups, one after the other.
use mathlib.Core.Path.{◌≡◌, refl, sym, ap, ◌∙◌, subst}
use mathlib.Core.Bool.{Bool, true, false, not, cond, true≢false, ◌&&◌, and-eq-true_iff}
use mathlib.Core.List.{List}
use Prim.Native.Nat.{ℕ, ◌+◌, ◌≤◌, ◌<◌}
use native.Mathlib.Omega.{arith}
use borrow.Author.Tests.{eqb-true, not-true}
use lib.Dec.{eqb}
use lib.ListN.{get_or}
use Rattle.gf2.specs.Word.{Word}
use Rattle.scheme.specs.Layer.{Reading, read_line}
use Rattle.scheme.specs.Visit.{Group, State, settle, trial, visit}
use Rattle.scheme.specs.Repair.{pass}
use Rattle.scheme.specs.Parity.{no_lines}
use Rattle.scheme.proofs.Parity.{nothing-to-visit}
use Rattle.rectangle.specs.Store.{line_layer}
use Rattle.groups.specs.Lent.{Room, Carried, Some, Makes, Numbered, group_of}
use Rattle.repair.specs.Lent.{used_group, all_groups}
use Rattle.groups.proofs.Passed.{Passed, passed_start, passed-next, passed-end}
use Rattle.groups.proofs.Numbers.{any-numbered}
use Rattle.mending.proofs.Settling.{unsettled}
use Rattle.mending.proofs.Mismatching.{few-faulty}
use Rattle.mending.proofs.Trying.{four}

-- a visit by its two parts
visits : (read : Reading) (g : Group) (s : State) → visit read g s ≡ settle g (trial read g s)
unfolding visit
visits read g s = refl

-- k groups are visited
pub record Passing (rows columns : ℕ) (pm out₀ marks₀ lacks₀ faulty₀ out marks lacks faulty : List ℕ) (k : ℕ) : Type 0 where
  pub few : k ≤ rows + columns
  pub room : Room rows columns out marks lacks faulty
  pub store : (parity : ℕ → Word) (s : State) → Carried rows columns parity out₀ marks₀ lacks₀ faulty₀ s
      → (t : State) × Carried rows columns parity out marks lacks faulty t
      × Passed (read_line line_layer) (used_group rows columns pm parity) (rows + columns) k s t

pub passing-start : (rows columns : ℕ) (pm out marks lacks faulty : List ℕ) → Room rows columns out marks lacks faulty
    → Passing rows columns pm out marks lacks faulty out marks lacks faulty 0
passing-start rows columns pm out marks lacks faulty room =
    record { few = omega arith; room = room; store = λ parity s h. (s, h, passed_start _ _ (rows + columns) s) }

module _ (rows columns : ℕ) (pm out₀ marks₀ lacks₀ faulty₀ out marks lacks faulty : List ℕ) (k : ℕ)
    (p : Passing rows columns pm out₀ marks₀ lacks₀ faulty₀ out marks lacks faulty k) where
  pub passing-some : Some rows columns out₀ marks₀ lacks₀ faulty₀ → Some rows columns out marks lacks faulty
  passing-some held = let q = p.store held.0 held.1 held.2 in (held.0, q.0, q.1)

  -- a visit of group k as it is used
  next : (out' marks' lacks' faulty' : List ℕ) → k < rows + columns → Room rows columns out' marks' lacks' faulty'
      → Makes rows columns out marks lacks faulty out' marks' lacks' faulty' (λ parity. visit (read_line line_layer) (used_group rows columns pm parity k))
      → Passing rows columns pm out₀ marks₀ lacks₀ faulty₀ out' marks' lacks' faulty' (k + 1)
  next out' marks' lacks' faulty' h room' v =
      record {
        few = omega arith;
        room = room';
        store = λ parity s x.
            let t = p.store parity s x in (
              visit (read_line line_layer) (used_group rows columns pm parity k) t.0,
              v parity t.0 t.1,
              passed-next _ _ (rows + columns) k s t.0 h t.2,
            );
      }

  -- a usable group is visited; it goes by the number j
  pub passing-next : (out' marks' lacks' faulty' : List ℕ) (j : ℕ) → k < rows + columns → j ≡ k → eqb (get_or pm k 0) 4 ≡ false
      → Room rows columns out' marks' lacks' faulty'
      → Makes rows columns out marks lacks faulty out' marks' lacks' faulty' (λ parity. visit (read_line line_layer) (group_of rows columns parity j))
      → Passing rows columns pm out₀ marks₀ lacks₀ faulty₀ out' marks' lacks' faulty' (k + 1)
  unfolding used_group
  passing-next out' marks' lacks' faulty' j h e usable room' v =
      next out' marks' lacks' faulty' h room'
      (λ parity s x.
      subst (λ (b : Bool). Carried rows columns parity out' marks' lacks' faulty' (visit (read_line line_layer) (cond b no_lines (group_of rows columns parity k)) s)) (sym usable)
      (subst (λ (i : ℕ). Carried rows columns parity out' marks' lacks' faulty' (visit (read_line line_layer) (group_of rows columns parity i) s)) e
      (v parity s x)))

  -- an unusable group, or one without a faulty line: its visit does nothing
  pub passing-idle : k < rows + columns → (eqb (get_or pm k 0) 4 ≡ false → get_or faulty k 0 ≡ 0)
      → Passing rows columns pm out₀ marks₀ lacks₀ faulty₀ out marks lacks faulty (k + 1)
  unfolding used_group
  passing-idle h z = next out marks lacks faulty h p.room (λ parity s c. go parity s c (eqb (get_or pm k 0) 4) z)
    where
      chosen : (first : ℕ) × (step : ℕ) × (count : ℕ) × Numbered rows columns k first step count
      chosen = any-numbered rows columns p.room.rect.rows_low p.room.rect.rows_high p.room.rect.columns_low p.room.rect.columns_high k h

      go : (parity : ℕ → Word) (s : State) → Carried rows columns parity out marks lacks faulty s → (b : Bool) → (b ≡ false → get_or faulty k 0 ≡ 0)
          → Carried rows columns parity out marks lacks faulty (visit (read_line line_layer) (cond b no_lines (group_of rows columns parity k)) s)
      go parity s c true y = subst (Carried rows columns parity out marks lacks faulty) (sym (nothing-to-visit (read_line line_layer) s)) c
      go parity s c false y =
          subst (Carried rows columns parity out marks lacks faulty) (sym (visits (read_line line_layer) (group_of rows columns parity k) s))
          (unsettled rows columns out marks lacks faulty p.room k chosen.0 chosen.1 chosen.2 chosen.3 parity
          (trial (read_line line_layer) (group_of rows columns parity k) s)
          (few-faulty rows columns out marks lacks faulty k chosen.0 chosen.1 chosen.2 chosen.3 parity s c (let none = y refl in omega arith))
          (λ (e : get_or faulty k 0 ≡ 1). let none = y refl in omega arith))

  pub passing-end : rows + columns ≤ k
      → Makes rows columns out₀ marks₀ lacks₀ faulty₀ out marks lacks faulty (λ parity. pass (read_line line_layer) (all_groups rows columns pm parity))
  unfolding all_groups
  passing-end h parity s x =
      let t = p.store parity s x in
      subst (Carried rows columns parity out marks lacks faulty) (sym (passed-end _ _ (rows + columns) k s t.0 h t.2)) t.1

-- the same with the buffers under other names
pub repass : (rows columns : ℕ) (pm out₀ marks₀ lacks₀ faulty₀ a b x y out marks lacks faulty : List ℕ) (k : ℕ) → a ≡ out → b ≡ marks → x ≡ lacks
    → y ≡ faulty → Passing rows columns pm out₀ marks₀ lacks₀ faulty₀ out marks lacks faulty k
    → Passing rows columns pm out₀ marks₀ lacks₀ faulty₀ a b x y k
repass rows columns pm out₀ marks₀ lacks₀ faulty₀ a b x y out marks lacks faulty k e f g h p =
    four (λ (q r s t : List ℕ). Passing rows columns pm out₀ marks₀ lacks₀ faulty₀ q r s t k) a b x y out marks lacks faulty e f g h p

-- whether a visit is due: some line is faulty, and the group is usable
module _ (count mark : ℕ) where
  pub due : (not (eqb count 0) && not (eqb mark 4)) ≡ true → eqb mark 4 ≡ false
  due e = not-true _ ((and-eq-true_iff (not (eqb count 0)) (not (eqb mark 4))).0 e).1

  pub not-due : (not (eqb count 0) && not (eqb mark 4)) ≡ false → eqb mark 4 ≡ false → count ≡ 0
  not-due e f = go (eqb count 0) refl (ap (λ (b : Bool). not (eqb count 0) && not b) (sym f) ∙ e)
    where
      go : (b : Bool) → eqb count 0 ≡ b → (not (eqb count 0) && true) ≡ false → count ≡ 0
      go true g h = eqb-true count 0 g
      go false g h = absurd (true≢false (ap (λ (b : Bool). not b && true) (sym g) ∙ h))
