-- A group's lines read alone, each into its own place.
use mathlib.Core.Path.{◌≡◌, sym, ap, subst, ◌∙◌}
use mathlib.Core.List.{List}
use Prim.Native.Nat.{ℕ, ◌+◌, ◌*◌, ◌≤◌, ◌<◌}
use native.Mathlib.Decide.{ℕ_discrete}
use native.Mathlib.Nat.{mul-le-mul_right}
use native.Mathlib.Omega.{arith}
use lib.ListN.{length, get_or, set, length-set}
use lib.Seq.{get_or-set_same, get_or-set_other}
use Rattle.linecode.specs.Places.{line_of}
use Rattle.linecode.specs.declared.alone.Reading.{Reading}
use Rattle.rectangle.specs.Store.{bytes_at, alone_at, in_bytes, put_bytes}
use Rattle.rectangle.proofs.Spare.{seventy-line_of}
use Rattle.groups.specs.Lent.{Inside}
use Rattle.visiting.proofs.Stores.{put-here, put-elsewhere}
use Rattle.lookup.specs.Lent.{ReadAlone}

pub record Filling (lines out₀ marks₀ : List ℕ) (first step count : ℕ) (out marks : List ℕ) (i : ℕ) : Type 0 where
  pub inside : Inside first step count (length marks)
  pub few : i ≤ count
  pub line_bytes : length lines ≡ length marks * 70
  pub out_bytes : length out ≡ length marks * 70
  pub same_out : length out ≡ length out₀
  pub same-marks : length marks ≡ length marks₀
  pub done : ReadAlone lines first step i out marks

module _ (lines out₀ marks₀ : List ℕ) (first step count : ℕ) (out marks : List ℕ) (i : ℕ)
    (f : Filling lines out₀ marks₀ first step count out marks i) (more : i < count) (n : ℕ) (n-is : n ≡ first + i * step) where
  pub below : n < length marks
  below = omega (arith, f.inside.each i more, n-is)

  -- an earlier line of the group is another one
  earlier : (k : ℕ) → k < i → first + k * step ≡ n → ⊥
  earlier k h e = omega (arith, e, n-is, mul-le-mul_right step h, f.inside.apart)

  pub filling-next : (r : Reading) (out' : List ℕ) → r ≡ in_bytes (alone_at lines n) → out' ≡ put_bytes out n r.line
      → length out' ≡ length out → Filling lines out₀ marks₀ first step count out' (set marks n r.mark) (i + 1)
  filling-next r out' e put same =
      record {
        inside = subst (Inside first step count) (sym kept) f.inside;
        few = omega arith;
        line_bytes = f.line_bytes ∙ ap (λ (k : ℕ). k * 70) (sym kept);
        out_bytes = same ∙ f.out_bytes ∙ ap (λ (k : ℕ). k * 70) (sym kept);
        same_out = same ∙ f.same_out;
        same-marks = kept ∙ f.same-marks;
        done = record { bytes = λ k h. bytes k h (ℕ_discrete k i); marked = λ k h. marked k h (ℕ_discrete k i) };
      }
    where
      kept : length (set marks n r.mark) ≡ length marks
      kept = length-set marks n r.mark

      line-is : r.line ≡ line_of (alone_at lines n).line
      line-is = ap (λ (x : Reading). x.line) e

      full : length r.line ≡ 70
      full = ap length line-is ∙ seventy-line_of (alone_at lines n).line

      here : (k : ℕ) → k ≡ i → first + k * step ≡ n
      here k p = ap (λ (j : ℕ). first + j * step) p ∙ sym n-is

      inside : (k : ℕ) → k < i → first + k * step < length marks
      inside k h = f.inside.each k (omega arith)

      bytes : (k : ℕ) → k < i + 1 → Dec (k ≡ i) → bytes_at out' (first + k * step) ≡ line_of (alone_at lines (first + k * step)).line
      bytes k h (yes p) =
          subst (λ (m : ℕ). bytes_at out' m ≡ line_of (alone_at lines m).line) (sym (here k p))
          (ap (λ (b : List ℕ). bytes_at b n) put ∙ put-here out marks f.out_bytes n below r.line full ∙ line-is)
      bytes k h (no q) =
          let before : k < i = omega arith in
          ap (λ (b : List ℕ). bytes_at b (first + k * step)) put
          ∙ put-elsewhere out marks f.out_bytes n below r.line full (first + k * step) (inside k before) (earlier k before)
          ∙ f.done.bytes k before

      marked : (k : ℕ) → k < i + 1 → Dec (k ≡ i)
          → get_or (set marks n r.mark) (first + k * step) 0 ≡ (alone_at lines (first + k * step)).mark
      marked k h (yes p) =
          subst (λ (m : ℕ). get_or (set marks n r.mark) m 0 ≡ (alone_at lines m).mark) (sym (here k p))
          (get_or-set_same marks n r.mark 0 below ∙ ap (λ (x : Reading). x.mark) e)
      marked k h (no q) =
          let before : k < i = omega arith in
          get_or-set_other marks n (first + k * step) r.mark 0 (earlier k before) ∙ f.done.marked k before
