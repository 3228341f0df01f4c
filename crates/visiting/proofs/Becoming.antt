-- What becomes of the buffers by nothing, by one line mended, and by one step after another.
use mathlib.Core.Path.{◌≡◌, refl, sym, ap, ◌∙◌, subst}
use mathlib.Core.Logic.{◌⊎◌, inl, inr}
use mathlib.Core.List.{List}
use Prim.Native.Nat.{ℕ, ◌*◌, ◌<◌}
use native.Mathlib.Decide.{ℕ_discrete}
use native.Mathlib.Omega.{arith}
use lib.ListN.{length, get_or, set}
use lib.Seq.{get_or-set_same, get_or-set_other}
use Rattle.gf2.specs.Word.{Word}
use Rattle.linecode.specs.Places.{line_places, places, line_of}
use Rattle.scheme.specs.Visit.{State}
use Rattle.rectangle.specs.Store.{bytes_at, places_at, put_bytes}
use Rattle.rectangle.proofs.Spare.{seventy-line_of, places-line_of}
use Rattle.visiting.specs.Lent.{store_in, Untouched, Mended, MendedAlone, Becomes}
use Rattle.visiting.proofs.Stores.{put-here, put-elsewhere, store-put}

pub untouched : (out marks : List ℕ) → MendedAlone out marks out marks
untouched out marks n h = inl (record { bytes = refl; mark = refl })

-- a step that leaves the store as it is
pub nothing-becomes : (f : State → State) (out marks : List ℕ) → f (store_in out marks) ≡ store_in out marks → Becomes f out marks out marks
nothing-becomes f out marks e = record { store = sym e; bytes = untouched out marks }

-- one change after another: a line that is mended is not faulty, and so not mended again
module _ (a b c d e f : List ℕ) (same : length d ≡ length b) where
  pub mended-then : MendedAlone a b c d → MendedAlone c d e f → MendedAlone a b e f
  unfolding places_at
  mended-then first second n h = go (first n h) (second n (omega arith))
    where
      go : Untouched a b c d n ⊎ Mended a b c d n → Untouched c d e f n ⊎ Mended c d e f n → Untouched a b e f n ⊎ Mended a b e f n
      go (inl p) (inl q) = inl (record { bytes = q.bytes ∙ p.bytes; mark = q.mark ∙ p.mark })
      go (inl p) (inr q) = inr (record { was = sym p.mark ∙ q.was; is = q.is; bytes = q.bytes })
      go (inr p) (inl q) =
          inr (record {
            was = p.was;
            is = subst (λ (m : ℕ). m < 4) (sym q.mark) p.is;
            bytes = q.bytes ∙ p.bytes ∙ ap (λ (l : List ℕ). line_of (places l)) (sym q.bytes);
          })
      go (inr p) (inr q) = let z : ⊥ = omega (arith, p.is, q.was) in absurd z

  pub becomes-then : (first second : State → State) → Becomes first a b c d → Becomes second c d e f
      → Becomes (λ s. second (first s)) a b e f
  becomes-then first second p q =
      record { store = q.store ∙ ap second p.store; bytes = mended-then p.bytes q.bytes }

-- a faulty line is mended: the new line and its mark are written
module _ (out marks : List ℕ) (room : length out ≡ length marks * 70) (n : ℕ) (inside : n < length marks) (bad : get_or marks n 0 ≡ 4)
    (w : Word) (long : length w ≡ line_places) (m : ℕ) (low : m < 4) where
  pub line-mended : MendedAlone out marks (put_bytes out n (line_of w)) (set marks n m)
  unfolding places_at
  line-mended k h = go (ℕ_discrete k n)
    where
      go : Dec (k ≡ n)
          → Untouched out marks (put_bytes out n (line_of w)) (set marks n m) k
          ⊎ Mended out marks (put_bytes out n (line_of w)) (set marks n m) k
      go (yes p) =
          subst (λ (i : ℕ). Untouched out marks (put_bytes out n (line_of w)) (set marks n m) i
          ⊎ Mended out marks (put_bytes out n (line_of w)) (set marks n m) i) (sym p)
          (inr (record {
            was = bad;
            is = subst (λ (x : ℕ). x < 4) (sym (get_or-set_same marks n m 0 inside)) low;
            bytes = here ∙ sym (ap (λ (l : List ℕ). line_of (places l)) here ∙ ap line_of (places-line_of w long));
          }))
        where
          here : bytes_at (put_bytes out n (line_of w)) n ≡ line_of w
          here = put-here out marks room n inside (line_of w) (seventy-line_of w)
      go (no q) =
          inl (record {
            bytes = put-elsewhere out marks room n inside (line_of w) (seventy-line_of w) k h q;
            mark = get_or-set_other marks n k m 0 q;
          })

  pub store-mended : store_in (put_bytes out n (line_of w)) (set marks n m) ≡ set (store_in out marks) n (record { line = w; mark = m })
  store-mended =
      store-put out marks room n inside (line_of w) (seventy-line_of w) m
      ∙ ap (λ (x : Word). set (store_in out marks) n (record { line = x; mark = m })) (places-line_of w long)
