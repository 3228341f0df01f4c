-- Rows and columns that pass refusal 2 are not above 512, so that the limit 512 refuses nothing.
use mathlib.Core.Path.{◌≡◌, refl, sym, ap, ◌∙◌}
use mathlib.Core.Bool.{Bool, true, false, true≢false}
use mathlib.Core.List.{List}
use Prim.Native.Nat.{ℕ}
use native.Mathlib.Omega.{arith}
use borrow.Author.Tests.{le-leb}
use lib.Dec.{leb}
use lib.ListN.{length}
use Rattle.rectangle.specs.Refusals.{unless, sides_fit}
use Rattle.rectangle.proofs.Groups.{sides}
use Rattle.storefile.specs.Header.{header_bytes}
use Rattle.storefile.specs.Opening.{rows_in, columns_in, sides_within, contents_fit, open_refusal, opened, Opened}
use Rattle.storefile.specs.Promises.{ThreeInTheProgramOnly}
use Rattle.storefile.proofs.Openings.{Outcome, accepted, refused, outcome}

never-three : (a b c d : Bool) → (b ≡ true → c ≡ true) → unless a 1 (unless b 2 (unless c 3 (unless d 4 0))) ≡ 3 → ⊥
never-three false b c d h e = omega arith
never-three true false c d h e = omega arith
never-three true true false d h e = true≢false (sym (h refl))
never-three true true true false h e = omega arith
never-three true true true true h e = omega arith

within-512 : (rows columns : ℕ) → sides_fit rows columns ≡ true → sides_within 512 rows columns ≡ true
unfolding sides_within
within-512 rows columns e =
    let s = sides rows columns e in
    rw (le-leb rows 512 s.rows_high, le-leb columns 512 s.columns_high)

refusal-three : (file : List ℕ) → open_refusal 512 file ≡ 3 → ⊥
unfolding open_refusal
refusal-three file =
    never-three (leb header_bytes (length file)) (sides_fit (rows_in file) (columns_in file))
    (sides_within 512 (rows_in file) (columns_in file)) (contents_fit file (rows_in file) (columns_in file))
    (within-512 (rows_in file) (columns_in file))

pub three-in-the-program-only : ThreeInTheProgramOnly
three-in-the-program-only file e = go (outcome 512 file (opened 512 file) refl)
  where
    go : Outcome 512 file (opened 512 file) → ⊥
    go (accepted f h) = let z = ap (λ (o : Opened). o.answer) f in omega arith
    go (refused d f) = refusal-three file (sym (ap (λ (o : Opened). o.answer) f) ∙ e)
