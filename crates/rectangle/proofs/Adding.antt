-- A line put into a parity line by exclusive or, in bytes.
use mathlib.Core.Path.{◌≡◌, ap, ◌∙◌}
use mathlib.Core.List.{List}
use Prim.Native.Nat.{ℕ}
use Rattle.gf2.specs.Word.{◌⊕◌}
use Rattle.linecode.specs.Places.{places, line_of}
use Rattle.rectangle.specs.Store.{bytes_at, places_at, put_bytes, put_line}
use Rattle.rectangle.specs.Change.{add_to}

pub added : (table : List ℕ) (k : ℕ) (parity line sum new : List ℕ) → parity ≡ bytes_at table k
    → sum ≡ line_of (places parity ⊕ places line) → new ≡ put_bytes table k sum → new ≡ add_to table k (places line)
unfolding add_to put_line places_at
added table k parity line sum new e f g =
    g ∙ ap (put_bytes table k) (f ∙ ap (λ (p : List ℕ). line_of (places p ⊕ places line)) e)
