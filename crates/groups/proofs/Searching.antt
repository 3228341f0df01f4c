-- One faulty line tries places in turn, and what a line's turn leaves for the lines after it.
use mathlib.Core.Path.{◌≡◌, refl, sym, ap, ap₂, ◌∙◌}
use mathlib.Core.Bool.{Bool, cond}
use mathlib.Core.List.{List, [], ◌∷◌}
use Prim.Native.Nat.{ℕ, suc, ◌+◌, ◌≤◌, ◌<◌}
use native.Mathlib.Numerals.{add-one}
use native.Mathlib.Omega.{arith}
use borrow.Author.Tests.{eq-eqb, ne_eqb}
use lib.Dec.{eqb}
use lib.ListN.{length, drop, get_or, set, drop_of_length-le}
use lib.Seq.{drop-cons, set-get_or}
use Rattle.gf2.specs.Word.{flip}
use Rattle.gf2.proofs.Weight.{length-flip}
use Rattle.linecode.specs.Places.{line_places, places, line_of}
use Rattle.linecode.specs.declared.alone.Reading.{Reading}
use Rattle.scheme.specs.Layer.{Cell, read_line}
use Rattle.scheme.specs.Visit.{State, cell_at, is_faulty, try_places, try_lines}
use Rattle.rectangle.specs.Store.{line_layer, in_bytes}
use Rattle.rectangle.proofs.Spare.{length-places, places-flipped}
use Rattle.groups.proofs.Rooms.{read-long}

-- ---- one line tries the places in turn
pub record Searching (line : List ℕ) (ps : List ℕ) (n j : ℕ) : Type 0 where
  pub few : j ≤ length ps
  pub same : (c : Cell) → c.line ≡ places line
      → try_places (read_line line_layer) n c ps ≡ try_places (read_line line_layer) n c (drop j ps)

pub searching-start : (line ps : List ℕ) (n : ℕ) → Searching line ps n 0
searching-start line ps n = record { few = omega arith; same = λ c e. refl }

module _ (line ps : List ℕ) (n j : ℕ) (s : Searching line ps n j) where
  -- all failed: the line stays as it is
  pub searching-failed : length ps ≤ j → (c : Cell) → c.line ≡ places line → try_places (read_line line_layer) n c ps ≡ c
  searching-failed h c e = s.same c e ∙ ap (try_places (read_line line_layer) n c) (drop_of_length-le ps h)

  module _ (whole : length line ≡ 70) (more : j < length ps) (p : ℕ) (p-is : p ≡ get_or ps j 0) (flipped : List ℕ)
      (turned : flipped ≡ line_of (flip p (places line))) (tried : Reading)
      (read : tried ≡ in_bytes (read_line line_layer n (places flipped))) where
    -- the trial, read as line n
    abbrev pub tried-as : Cell
    tried-as = read_line line_layer n (places flipped)

    trial-is : (c : Cell) → c.line ≡ places line → read_line line_layer n (flip (get_or ps j 0) c.line) ≡ tried-as
    trial-is c e = ap (read_line line_layer n) (ap₂ flip (sym p-is) e ∙ sym (places-flipped line flipped p whole turned))

    tried-mark : tried.mark ≡ tried-as.mark
    tried-mark = ap (λ (r : Reading). r.mark) read

    pub tried-line : tried.line ≡ line_of tried-as.line
    tried-line = ap (λ (r : Reading). r.line) read

    pub tried-long : length tried-as.line ≡ line_places
    tried-long =
        read-long n (places flipped)
        (ap length (places-flipped line flipped p whole turned) ∙ length-flip p (places line) ∙ length-places line whole)

    rest : (c : Cell) → c.line ≡ places line → try_places (read_line line_layer) n c ps
        ≡ cond (eqb tried-as.mark 4) (try_places (read_line line_layer) n c (drop (suc j) ps))
        (record { line = tried-as.line; mark = 2 })
    rest c e =
        s.same c e
        ∙ ap (try_places (read_line line_layer) n c) (drop-cons ps j 0 more)
        ∙ ap (λ (t : Cell). cond (is_faulty t) (try_places (read_line line_layer) n c (drop (suc j) ps)) (record { line = t.line; mark = 2 }))
        (trial-is c e)

    pub searching-next : tried.mark ≡ 4 → Searching line ps n (j + 1)
    searching-next q =
        record {
          few = omega arith;
          same = λ c e.
              rest c e
              ∙ ap
              (λ (b : Bool). cond b (try_places (read_line line_layer) n c (drop (suc j) ps)) (record { line = tried-as.line; mark = 2 }))
              (eq-eqb tried-as.mark 4 (sym tried-mark ∙ q))
              ∙ ap (λ (k : ℕ). try_places (read_line line_layer) n c (drop k ps)) (sym (add-one j));
        }

    pub searching-found : (tried.mark ≡ 4 → ⊥) → (c : Cell) → c.line ≡ places line
        → try_places (read_line line_layer) n c ps ≡ record { line = tried-as.line; mark = 2 }
    searching-found q c e =
        rest c e
        ∙ ap
        (λ (b : Bool). cond b (try_places (read_line line_layer) n c (drop (suc j) ps)) (record { line = tried-as.line; mark = 2 }))
        (ne_eqb tried-as.mark 4 (λ (z : tried-as.mark ≡ 4). q (tried-mark ∙ z)))

-- ---- a line's turn: the lines after it try in the store that it leaves
module _ (ps : List ℕ) (v : State) (n : ℕ) (rest : List ℕ) where
  -- a faulty line becomes what its search gives
  pub turn-tried : (cell_at v n).mark ≡ 4 → (c : Cell) → try_places (read_line line_layer) n (cell_at v n) ps ≡ c
      → try_lines (read_line line_layer) ps v (n ∷ rest) ≡ try_lines (read_line line_layer) ps (set v n c) rest
  turn-tried f c e =
      ap
      (λ (b : Bool). try_lines (read_line line_layer) ps
      (set v n (cond b (try_places (read_line line_layer) n (cell_at v n) ps) (cell_at v n))) rest)
      (eq-eqb (cell_at v n).mark 4 f)
      ∙ ap (λ (d : Cell). try_lines (read_line line_layer) ps (set v n d) rest) e

  itself : set v n (cell_at v n) ≡ v
  itself = set-get_or v n (record { line = []; mark = 0 })

  -- where all its trials failed, nothing has changed
  pub turn-failed : (cell_at v n).mark ≡ 4 → try_places (read_line line_layer) n (cell_at v n) ps ≡ cell_at v n
      → try_lines (read_line line_layer) ps v (n ∷ rest) ≡ try_lines (read_line line_layer) ps v rest
  turn-failed f e =
      turn-tried f (cell_at v n) e ∙ ap (λ (u : State). try_lines (read_line line_layer) ps u rest) itself

  -- nor for a line that is not faulty
  pub turn-other : ((cell_at v n).mark ≡ 4 → ⊥) → try_lines (read_line line_layer) ps v (n ∷ rest) ≡ try_lines (read_line line_layer) ps v rest
  turn-other h =
      ap
      (λ (b : Bool). try_lines (read_line line_layer) ps
      (set v n (cond b (try_places (read_line line_layer) n (cell_at v n) ps) (cell_at v n))) rest)
      (ne_eqb (cell_at v n).mark 4 h)
      ∙ ap (λ (u : State). try_lines (read_line line_layer) ps u rest) itself
