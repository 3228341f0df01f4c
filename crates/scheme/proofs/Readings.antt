-- Which mark an accepted line has decides nothing: two stores whose cells agree in line and faultiness do so after every step of repair.
use mathlib.Core.Path.{◌≡◌, refl, ap, ap₂}
use mathlib.Core.Logic.{inl, ⊎_elim}
use mathlib.Core.Bool.{Bool, true, false, cond}
use mathlib.Core.List.{List, [], ◌∷◌, map}
use Prim.Native.Nat.{ℕ, zero, suc}
use native.Mathlib.Omega.{arith}
use borrow.Author.Tests.{ne_eqb}
use lib.Dec.{eqb}
use lib.ListN.{length, set}
use Rattle.gf2.specs.Word.{Word, flip}
use Rattle.scheme.specs.Layer.{Cell, Reading, Layer, read_line, parity_address}
use Rattle.scheme.specs.Visit.{Group, State, cell_at, line_at, is_faulty, faulty_of, without, sum, rebuild, rebuild_only, settle, mismatch, try_places, try_lines, triable, trial, visit}
use Rattle.scheme.specs.Repair.{read_all, pass, faulty_count, Repaired, passes_up_to, passes_from, repair, lines_of, agrees, answer}
use Rattle.scheme.specs.Parity.{read_parity, unusable, as_read, parity_after}
use Rattle.scheme.specs.Readings.{SameButMark, Agreeing, AgreeingLayers, AcceptedMarksDecideNothing}
use Rattle.scheme.proofs.Sums.{sum-ext}

-- a choice by equal tests keeps a relation that holds between both ways
pub choose : {A : Type 0} (R : A → A → Type 0) {a b : Bool} {w x y z : A} → a ≡ b → R w y → R x z → R (cond a w x) (cond b y z)
choose R {b = b} {w} {x} {y} {z} e p q = rw e (go b)
  where
    go : (b : Bool) → R (cond b w x) (cond b y z)
    go true = p
    go false = q

pub same-faulty : {c d : Cell} → SameButMark c d → is_faulty c ≡ is_faulty d
same-faulty {c} {d} r =
    ⊎_elim (λ e. rw e) (λ h. rw (ne_eqb c.mark 4 (omega arith), ne_eqb d.mark 4 (omega arith))) r.mark

-- ---- two stores whose cells agree
data Alike : State → State → Type 0 where
  nil : Alike [] []
  cons : {c d : Cell} {s t : State} → SameButMark c d → Alike s t → Alike (c ∷ s) (d ∷ t)

alike_at : {s t : State} → Alike s t → (n : ℕ) → SameButMark (cell_at s n) (cell_at t n)
alike_at nil n = record { line = refl; mark = inl refl }
alike_at (cons r a) zero = r
alike_at (cons r a) (suc n) = alike_at a n

alike_set : {s t : State} {c d : Cell} → Alike s t → (n : ℕ) → SameButMark c d → Alike (set s n c) (set t n d)
alike_set nil n q = nil
alike_set (cons r a) zero q = cons q a
alike_set (cons r a) (suc n) q = cons r (alike_set a n q)

alike-lines : {s t : State} → Alike s t → lines_of s ≡ lines_of t
alike-lines nil = refl
alike-lines (cons r a) = ap₂ ◌∷◌ r.line (alike-lines a)

alike-count : {s t : State} → Alike s t → faulty_count s ≡ faulty_count t
alike-count nil = refl
alike-count (cons r a) =
    choose (λ (s t : State). length s ≡ length t) (same-faulty r) (ap suc (alike-count a)) (alike-count a)

module _ {s t : State} (a : Alike s t) where
  same-faulty_of : (ns : List ℕ) → faulty_of s ns ≡ faulty_of t ns
  same-faulty_of [] = refl
  same-faulty_of (n ∷ ns) = rw (same-faulty (alike_at a n), same-faulty_of ns)

  same_sum : (ns : List ℕ) → sum (line_at s) ns ≡ sum (line_at t) ns
  same_sum ns = sum-ext (line_at s) (line_at t) ns (λ n i. (alike_at a n).line)

  same-mismatch : (g : Group) → mismatch g s ≡ mismatch g t
  unfolding mismatch
  same-mismatch g = rw (same_sum g.members)

  same-triable : (g : Group) → triable g s ≡ triable g t
  same-triable g = rw (same-mismatch g, same-faulty_of g.members)

  same-agrees : (gs : List Group) → agrees gs s ≡ agrees gs t
  same-agrees [] = refl
  same-agrees (g ∷ gs) = rw (same_sum g.members, same-agrees gs)

  same_answer : (gs : List Group) → answer gs s ≡ answer gs t
  unfolding answer
  same_answer gs = rw (alike-count a, same-agrees gs)

  alike-settle : (g : Group) → Alike (settle g s) (settle g t)
  unfolding settle rebuild
  alike-settle g = rw (same-faulty_of g.members) (go (faulty_of t g.members))
    where
      go : (ns : List ℕ) → Alike (rebuild_only g s ns) (rebuild_only g t ns)
      go [] = a
      go (n ∷ []) = alike_set a n (record { line = rw (same_sum (without n g.members)); mark = inl refl })
      go (n ∷ m ∷ ns) = a

-- what the passes leave is alike, and their number is the same
abbrev Ends : Repaired → Repaired → Type 0
Ends p q = Alike p.cells q.cells × (p.passes ≡ q.passes)

-- ---- the steps of repair, by two readings that agree
module _ {one two : Reading} (agree : Agreeing one two) where
  alike-search : {c d : Cell} (n : ℕ) (ps : List ℕ) → SameButMark c d → SameButMark (try_places one n c ps) (try_places two n d ps)
  alike-search n [] r = r
  alike-search {c} {d} n (p ∷ ps) r =
      let trial : SameButMark (one n (flip p c.line)) (two n (flip p d.line)) = rw r.line (agree n (flip p d.line)) in
      choose SameButMark (same-faulty trial) (alike-search n ps r) (record { line = trial.line; mark = inl refl })

  alike-tries : {s t : State} (ps ns : List ℕ) → Alike s t → Alike (try_lines one ps s ns) (try_lines two ps t ns)
  alike-tries ps [] a = a
  alike-tries ps (n ∷ ns) a =
      let r = alike_at a n in
      let later : (u v : State) → Alike u v → Alike (try_lines one ps u ns) (try_lines two ps v ns) = λ u v. alike-tries {s = u} {t = v} ps ns in
      later _ _ (alike_set a n (choose SameButMark (same-faulty r) (alike-search n ps r) r))

  alike-visit : {s t : State} (g : Group) → Alike s t → Alike (visit one g s) (visit two g t)
  unfolding visit trial
  alike-visit g a =
      alike-settle
      (choose Alike (same-triable a g) (rw (same-mismatch a g) (alike-tries (mismatch g _) g.members a)) a) g

  alike-pass : {s t : State} (gs : List Group) → Alike s t → Alike (pass one gs s) (pass two gs t)
  alike-pass [] a = a
  alike-pass {s} {t} (g ∷ gs) a = alike-pass {s = visit one g s} {t = visit two g t} gs (alike-visit g a)

  alike-reading : (n : ℕ) (found : List Word) → Alike (read_all one n found) (read_all two n found)
  alike-reading n [] = nil
  alike-reading n (w ∷ found) = cons (agree n w) (alike-reading (suc n) found)

  alike-passes : {s t : State} (k : ℕ) (gs : List Group) → Alike s t → Ends (passes_up_to k one gs s) (passes_up_to k two gs t)
  alike-passes zero gs a = (a, refl)
  alike-passes {s} {t} (suc k) gs a =
      let after = alike-pass gs a in
      let later = alike-passes {s = pass one gs s} {t = pass two gs t} k gs after in
      choose Ends (ap (λ (n : ℕ). eqb n 0) (alike-count a)) (a, refl)
      (choose Ends (ap₂ eqb (alike-count after) (alike-count a)) (after, refl) (later.0, ap suc later.1))

  alike-repair : (gs : List Group) (found : List Word) → Ends (repair one gs found) (repair two gs found)
  unfolding repair passes_from
  alike-repair gs found =
      let a = alike-reading 0 found in rw (alike-count a) (alike-passes (faulty_count (read_all two 0 found)) gs a)

-- ---- the same for two layers that agree, which read the parity lines alike too
module _ {one two : Layer} (agree : AgreeingLayers one two) where
  same_address : (ns : List ℕ) → parity_address one ns ≡ parity_address two ns
  same_address [] = refl
  same_address (n ∷ ns) = rw (same_address ns, agree.address)

  same-parity : (g : Group) → SameButMark (read_parity one g) (read_parity two g)
  same-parity g = rw (same_address g.members, read_parity) (agree.read (parity_address two g.members) g.parity)

  same-unusable : (g : Group) → unusable one g ≡ unusable two g
  unfolding unusable
  same-unusable g = same-faulty (same-parity g)

  same-groups : (gs : List Group) → map (as_read one) gs ≡ map (as_read two) gs
  unfolding as_read
  same-groups [] = refl
  same-groups (g ∷ gs) = rw (same-unusable g, (same-parity g).line, same-groups gs)

  same_after : {s t : State} → Alike s t → (g : Group) → parity_after one s g ≡ parity_after two t g
  unfolding parity_after
  same_after a g = rw (same-unusable g, (same-parity g).line, alike-count a, same_sum a g.members)

pub accepted_marks_decide_nothing : AcceptedMarksDecideNothing
accepted_marks_decide_nothing one two agree gs found =
    rw (same-groups agree gs)
    (record {
      lines = alike-lines ends.0;
      marks = alike_at ends.0;
      passes = ends.1;
      answers = rw (same-groups agree gs) (same_answer ends.0 (map (as_read two) gs));
      parities = same_after agree ends.0;
    })
  where
    reading : Agreeing (read_line one) (read_line two)
    reading n found = rw agree.address (agree.read (two.address n) found)

    ends : Ends (repair (read_line one) (map (as_read two) gs) found) (repair (read_line two) (map (as_read two) gs) found)
    ends = alike-repair reading (map (as_read two) gs) found
