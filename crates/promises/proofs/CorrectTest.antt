-- The test of a correct line passes the correct lines, and no other.
use mathlib.Core.Path.{◌≡◌, sym, ap, ◌∙◌, subst}
use mathlib.Core.Logic.{◌↔◌}
use mathlib.Core.Bool.{true}
use lib.Dec.{T}
use Rattle.gf2.specs.Word.{Word, same}
use Rattle.gf2.proofs.Same.{same_refl, same-equal}
use Rattle.linecode.specs.Code.{data_of, codeword, Correct, is_correct}

pub tests : (w : Word) → (is_correct w ≡ true) ↔ Correct w
unfolding is_correct Correct
tests w = (
  λ (e : same w (codeword (data_of w)) ≡ true). same-equal w (codeword (data_of w)) (subst T (sym e) tt),
  λ (c : w ≡ codeword (data_of w)). ap (same w) (sym c) ∙ same_refl w,
)
