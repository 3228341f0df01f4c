-- Copying a line out of a buffer and into it, and one buffer into another.
use mathlib.Core.Path.{◌≡◌, ap, ap₂, ◌∙◌}
use mathlib.Core.List.{List, ◌++◌}
use Prim.Native.Nat.{ℕ, suc, ◌+◌, ◌-◌, ◌*◌, ◌≤◌}
use native.Mathlib.Nat.{suc-mul}
use native.Mathlib.Omega.{arith}
use lib.ListN.{length, take, drop, length-drop}
use lib.Seq.{take_all, length-take-le}
use borrow.Rule.Slice.PartMut.{put_mid}
use Rattle.std.proofs.lemmas.Slice.{put_mid-paste}
use Rattle.linecode.specs.Places.{line_bytes, loaded}
use Rattle.promises.proofs.LineLayout.{layout}
use Rattle.rectangle.specs.Store.{bytes_at, put_bytes}

-- what is loaded from line n of a buffer
pub loaded-line : (buffer : List ℕ) (n : ℕ) → suc n * 70 ≤ length buffer
    → loaded (take (n * 70 + 70 - n * 70) (drop (n * 70) buffer)) ≡ bytes_at buffer n
unfolding bytes_at line_bytes
loaded-line buffer n h = ap (λ (k : ℕ). loaded (take k line)) (size (n * 70)) ∙ layout.whole (take 70 line) whole
  where
    line : List ℕ
    line = drop (n * 70) buffer

    size : (at : ℕ) → at + 70 - at ≡ 70
    size at = omega arith

    whole : length (take 70 line) ≡ 70
    whole = length-take-le 70 line (omega (arith, length-drop (n * 70) buffer, suc-mul n 70))

-- line n of a buffer, overwritten with 70 bytes
pub put-whole : (buffer line part : List ℕ) (n : ℕ) → length line ≡ 70 → part ≡ line
    → put_mid (n * 70) (n * 70 + 70 - n * 70) buffer part ≡ put_bytes buffer n line
unfolding put_bytes line_bytes
put-whole buffer line part n whole e =
    let next : n * 70 + 70 ≡ suc n * 70 = omega (arith, suc-mul n 70) in
    put_mid-paste (n * 70) (n * 70 + 70 - n * 70) buffer part line 70 e (omega arith) (omega arith)
    ∙ ap₂ (λ (l : List ℕ) (k : ℕ). take (n * 70) buffer ++ l ++ drop k buffer) (take_all 70 line (omega arith)) next
