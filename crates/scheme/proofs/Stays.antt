-- "An accepted line is never altered later", a line that stays faulty stays as found, and one that was faulty is mended or stays:
-- by a visit, a pass and repair.
use mathlib.Core.Path.{◌≡◌, refl, sym, ap, ◌∙◌}
use mathlib.Core.List.{List, [], ◌∷◌}
use Prim.Native.Nat.{ℕ, zero, suc, ◌+◌, ◌<◌}
use native.Mathlib.Nat.{add-zero, add-suc, suc-add, le_of_suc-le-suc, not-suc-le-zero, zero-add}
use lib.ListN.{length}
use Rattle.gf2.specs.Word.{Word}
use Rattle.scheme.specs.Layer.{Reading, Layer, read_line, Promises}
use Rattle.scheme.specs.Visit.{Group, State, cell_at, line_at}
use Rattle.scheme.specs.Repair.{read_all, repair}
use Rattle.scheme.specs.Stays.{Stays, NeverAltered}
use Rattle.scheme.specs.Demand3.{word_at}
use Rattle.scheme.proofs.Grows.{Grows, grows_at, grows-length, kept-accepted, kept-faulty, kept-mended}
use Rattle.scheme.proofs.Steps.{visit-grows, pass-grows}
use Rattle.scheme.proofs.Passes.{passes-grow}

stays : {s t : State} → Grows s t → Stays s t
stays g =
    record {
      accepted = λ n h. kept-accepted (grows_at g n) h;
      faulty = λ n h. kept-faulty (grows_at g n) h;
      mended = λ n h. kept-mended (grows_at g n) h;
    }

pub never_altered : NeverAltered
never_altered =
    record {
      by_visit = λ read g s. stays (visit-grows read g s);
      by_pass = λ read gs s. stays (pass-grows read gs s);
      by_passes = λ read gs s. stays (passes-grow read gs s);
    }

pub repair-stays : (read : Reading) (gs : List Group) (found : List Word) → Stays (read_all read 0 found) (repair read gs found).cells
unfolding repair
repair-stays read gs found = never_altered.by_passes read gs (read_all read 0 found)

-- line n after the first reading
pub read_all-at : (read : Reading) (k : ℕ) (found : List Word) (n : ℕ) → n < length found
    → cell_at (read_all read k found) n ≡ read (k + n) (word_at found n)
read_all-at read k [] n h = absurd (not-suc-le-zero h)
read_all-at read k (w ∷ found) zero h = rw add-zero
read_all-at read k (w ∷ found) (suc n) h =
    read_all-at read (suc k) found n (le_of_suc-le-suc h) ∙ ap (λ (i : ℕ). read i (word_at found n)) (suc-add k n ∙ sym (add-suc k n))

pub read_all-length : (read : Reading) (k : ℕ) (found : List Word) → length (read_all read k found) ≡ length found
read_all-length read k [] = refl
read_all-length read k (w ∷ found) = ap suc (read_all-length read (suc k) found)

pub first-reading-at : (read : Reading) (found : List Word) (n : ℕ) → n < length found
    → cell_at (read_all read 0 found) n ≡ read n (word_at found n)
first-reading-at read found n h = read_all-at read 0 found n h ∙ ap (λ (i : ℕ). read i (word_at found n)) (zero-add n)

-- repair hands over as many lines as it found
pub repair-length : (read : Reading) (gs : List Group) (found : List Word) → length (repair read gs found).cells ≡ length found
unfolding repair
repair-length read gs found = grows-length (passes-grow read gs (read_all read 0 found)) ∙ read_all-length read 0 found

-- a line that repair leaves faulty is given back as found
pub faulty-as-found : (layer : Layer) → Promises layer → (gs : List Group) (found : List Word) (n : ℕ) → n < length found
    → length (word_at found n) ≡ layer.width → (cell_at (repair (read_line layer) gs found).cells n).mark ≡ 4
    → line_at (repair (read_line layer) gs found).cells n ≡ word_at found n
faulty-as-found layer promises gs found n h l e =
    let same : cell_at (repair (read_line layer) gs found).cells n ≡ read_line layer n (word_at found n) =
    (repair-stays (read_line layer) gs found).faulty n e ∙ first-reading-at (read_line layer) found n h in
    ap (λ c. c.line) same ∙ promises.kept (layer.address n) (word_at found n) l (sym (ap (λ c. c.mark) same) ∙ e)
