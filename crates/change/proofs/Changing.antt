-- A line changed together with its two parity lines, in bytes.
use mathlib.Core.Path.{◌≡◌, sym, ap, ap₂, ◌∙◌}
use mathlib.Core.List.{List}
use Prim.Native.Nat.{ℕ, suc, ◌*◌, ◌≤◌}
use lib.ListN.{length}
use Rattle.gf2.specs.Word.{Word, ◌⊕◌}
use Rattle.gf2.proofs.Xor.{length-xor-same}
use Rattle.linecode.specs.Places.{places, line_of}
use Rattle.rectangle.specs.Store.{bytes_at, places_at, put_bytes, put_line, alone_at}
use Rattle.rectangle.specs.Change.{new_line, difference}
use Rattle.rectangle.proofs.Spare.{places-line_of}
use Rattle.rectangle.proofs.LineLayer.{length-new_line}
use Rattle.rectangle.proofs.Alone.{length-alone}

-- a line's bytes, taken from a table, have its places
pub places-at : (table : List ℕ) (k : ℕ) (parity : List ℕ) → parity ≡ bytes_at table k → places_at table k ≡ places parity
unfolding places_at
places-at table k parity e = ap places (sym e)

-- ---- line n and its data
module _ (lines : List ℕ) (n : ℕ) (payload : List ℕ) (whole : length payload ≡ 64) where
  pub put-new : (new after : List ℕ) → new ≡ line_of (new_line n payload) → after ≡ put_bytes lines n new
      → after ≡ put_line lines n (new_line n payload)
  unfolding put_line
  put-new new after e f = f ∙ ap (put_bytes lines n) e

  -- the exclusive or of the old line, as it reads alone, and the new one
  pub both-places : (old new both : List ℕ) → suc n * 70 ≤ length lines → old ≡ line_of (alone_at lines n).line
      → new ≡ line_of (new_line n payload) → both ≡ line_of (places old ⊕ places new) → places both ≡ difference lines n payload
  unfolding difference
  both-places old new both inside e f g =
      ap places g
      ∙ ap₂ (λ (a b : Word). places (line_of (a ⊕ b)))
      (ap places e ∙ places-line_of (alone_at lines n).line (length-alone lines n inside))
      (ap places f ∙ places-line_of (new_line n payload) (length-new_line n payload whole))
      ∙ places-line_of ((alone_at lines n).line ⊕ new_line n payload)
      (length-xor-same (alone_at lines n).line (new_line n payload) (length-alone lines n inside ∙ sym (length-new_line n payload whole))
      ∙ length-alone lines n inside)
