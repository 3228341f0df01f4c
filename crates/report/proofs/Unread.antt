-- The bytes after those that a reader needs change nothing of a check.
use mathlib.Core.Path.{◌≡◌, refl, sym, ap, ◌∙◌}
use mathlib.Core.List.{List}
use Prim.Native.Nat.{ℕ, ◌≤◌}
use native.Mathlib.Decide.{dec_le}
use native.Mathlib.Omega.{arith}
use lib.ListN.{length, take}
use lib.Seq.{take_all}
use Rattle.storefile.specs.Header.{header_bytes}
use Rattle.storefile.specs.Opening.{open_refusal, opened, bytes_needed, Opened}
use Rattle.storefile.proofs.Openings.{opened-refused}
use Rattle.storefile.proofs.Needed.{Refused, both-refused}
use Rattle.rectangle.specs.Repair.{Buffers}
use Rattle.report.specs.Check.{refused_with, check_store}
use Rattle.report.specs.Promises.{MoreChangesNothing}
use Rattle.report.proofs.Checking.{check-refused}

check-of-refused : (limit : ℕ) (file : List ℕ) (b : Buffers) (n : ℕ) → (n ≡ 0 → ⊥) → open_refusal limit file ≡ n
    → check_store limit file b ≡ record { checked = refused_with n; buffers = b }
check-of-refused limit file b n d e =
    sym (check-refused limit file b (refused n) is d (refused_with n) refl)
  where
    refused : ℕ → Opened
    refused n = record { answer = n; rows = 0; columns = 0 }

    is : refused n ≡ opened limit file
    is = sym (opened-refused limit file (λ z. d (sym e ∙ z)) ∙ ap refused e)

pub more-changes-nothing : MoreChangesNothing
unfolding header_bytes
more-changes-nothing limit file b = go (dec_le (length file) (bytes_needed limit (take 28 file)))
  where
    go : Dec (length file ≤ bytes_needed limit (take 28 file))
        → check_store limit (take (bytes_needed limit (take 28 file)) file) b ≡ check_store limit file b
    go (yes l) = ap (λ (f : List ℕ). check_store limit f b) (take_all (bytes_needed limit (take 28 file)) file l)
    go (no l) = refused (both-refused limit file (omega arith))
      where
        refused : Refused limit (take (bytes_needed limit (take 28 file)) file) file
            → check_store limit (take (bytes_needed limit (take 28 file)) file) b ≡ check_store limit file b
        refused r =
            check-of-refused limit _ b r.answer r.some r.first
            ∙ sym (check-of-refused limit file b r.answer r.some r.second)
