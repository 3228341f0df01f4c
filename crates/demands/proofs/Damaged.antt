-- A table of a rectangle written, damaged within the bounds, in either direction: which of its groups are used as written, and what
-- repair leaves of it.
use mathlib.Core.Path.{◌≡◌, refl, sym, ap, ap₂, subst, ◌∙◌}
use mathlib.Core.Logic.{◌⊎◌, inl, inr}
use mathlib.Core.List.{List, [], ◌∷◌, map}
use Prim.Native.Nat.{ℕ, ◌*◌, ◌≤◌, ◌<◌}
use native.Mathlib.Nat.{zero-add}
use native.Mathlib.Omega.{arith}
use lib.ListN.{length, length-map}
use Rattle.gf2.specs.Word.{distance}
use Rattle.linecode.specs.Places.{line_bytes, line_of}
use Rattle.linecode.specs.Code.{up_from}
use Rattle.scheme.specs.Layer.{Promises}
use Rattle.scheme.specs.Visit.{Group, State, line_at, sum}
use Rattle.scheme.specs.Repair.{faulty_count}
use Rattle.scheme.specs.Parity.{no_lines, as_read, parity_after}
use Rattle.scheme.specs.Demand3.{◌∈◌, word_at}
use Rattle.scheme.proofs.Parity.{Found, one-used, parity-left}
use Rattle.rectangle.specs.Store.{line_layer, bytes_at, places_at, lines_in, buffer_of}
use Rattle.rectangle.specs.Repair.{table_after}
use Rattle.demands.specs.Demands.{Rectangle, ParityNotWrong}
use Rattle.rectangle.proofs.Buffer.{length-places_at, length-lines_in, lines_in-at, bytes_at-buffer_of}
use Rattle.rectangle.proofs.Members.{length-up_from, up_from-bounds, map-up_from}
use Rattle.demands.proofs.Written.{words_of, TableWritten}
use Rattle.demands.proofs.TableLines.{table-line}

-- an image of an image
map-twice : {A B C : Type 0} (f : B → C) (g : A → B) (h : A → C) (l : List A) → ((a : A) → a ∈ l → f (g a) ≡ h a)
    → map f (map g l) ≡ map h l
map-twice f g h [] e = refl
map-twice f g h (a ∷ l) e = ap₂ (λ c m. c ∷ m) (e a (inl refl)) (map-twice f g h l (λ b i. e b (inr i)))

-- line n of a buffer that is made of its lines
pub own_line : (k : ℕ) (buffer : List ℕ) → buffer ≡ buffer_of (lines_in k buffer) → (n : ℕ) → n < k
    → bytes_at buffer n ≡ line_of (places_at buffer n)
own_line k buffer e n h =
    ap (λ (b : List ℕ). bytes_at b n) e
    ∙ bytes_at-buffer_of (lines_in k buffer) n (omega (arith, length-lines_in k buffer))
    ∙ ap line_of (lines_in-at k buffer n h)

-- a table written, and as it is received
pub record TableDamaged (w : Rectangle) (members : ℕ → List ℕ) (total : ℕ) (table received : List ℕ) : Type 0 where
  pub written : TableWritten w members total table
  pub whole : length received ≡ total * line_bytes
  pub six : (k : ℕ) → k < total → distance (places_at table k) (places_at received k) ≤ 6

module _ (promises : Promises line_layer) {w : Rectangle} {members : ℕ → List ℕ} {total : ℕ} {table received : List ℕ}
    (d : TableDamaged w members total table received) where
  -- group k as found
  abbrev group : ℕ → Group
  group k = record { members = members k; parity = places_at received k }

  pub found-group : (k : ℕ) → k < total → Found line_layer (words_of w) (record { members = members k; parity = places_at received k })
  found-group k h =
      record {
        correct = subst (line_layer.Correct _) (d.written.sums k h) (d.written.correct k h);
        places = length-places_at total received d.whole k h;
        six = rw (← d.written.sums k h) (d.six k h);
      }

  -- a group that counts in the order is used as written
  pub counts : (k : ℕ) → k < total → distance (places_at table k) (places_at received k) ≤ 1
      → as_read line_layer (record { members = members k; parity = places_at received k })
      ≡ record { members = members k; parity = sum (word_at (words_of w)) (members k) }
  counts k h few = one-used line_layer promises (words_of w) (group k) (found-group k h) (rw (← d.written.sums k h) few)

  module _ (s : State) (right : faulty_count s ≡ 0 → (n : ℕ) → line_at s n ≡ word_at (words_of w) n) where
    -- parity line k as repair leaves it
    left : (k : ℕ) → k < total
        → (parity_after line_layer s (group k) ≡ places_at table k)
        ⊎ ((faulty_count s ≡ 0 → ⊥) × (parity_after line_layer s (group k) ≡ places_at received k)
        × (2 ≤ distance (places_at table k) (places_at received k)))
    left k h = rw (d.written.sums k h) (parity-left line_layer promises (words_of w) (group k) (found-group k h) s (λ e n i. right e n))

    -- where no line is left faulty, the table comes back byte for byte
    pub table-back : faulty_count s ≡ 0
        → table_after line_layer s (map (λ k. record { members = members k; parity = places_at received k }) (up_from 0 total)) ≡ table
    unfolding table_after lines_in
    table-back none =
        ap buffer_of
        (map-twice (parity_after line_layer s) group (places_at table) (up_from 0 total)
        (λ k i. let h : k < total = omega (arith, (up_from-bounds 0 total k i).1) in go k (left k h)))
        ∙ sym d.written.bytes
      where
        go : (k : ℕ)
            → (parity_after line_layer s (group k) ≡ places_at table k)
            ⊎ ((faulty_count s ≡ 0 → ⊥) × (parity_after line_layer s (group k) ≡ places_at received k)
            × (2 ≤ distance (places_at table k) (places_at received k)))
            → parity_after line_layer s (group k) ≡ places_at table k
        go k (inl e) = e
        go k (inr o) = absurd (o.0 none)

    -- and whatever is left, no parity line is a wrong one
    pub none-wrong : (answer : ℕ) → ((faulty_count s ≡ 0 → ⊥) → answer ≡ 11)
        → ParityNotWrong answer total table received
        (table_after line_layer s (map (λ k. record { members = members k; parity = places_at received k }) (up_from 0 total)))
    none-wrong answer eleven k h = go (left k h)
      where
        given : bytes_at (table_after line_layer s (map group (up_from 0 total))) k ≡ line_of (parity_after line_layer s (group k))
        given =
            table-line s (map group (up_from 0 total)) k (omega (arith, length-map (up_from 0 total) group, length-up_from 0 total))
            ∙ ap (λ (g : Group). line_of (parity_after line_layer s g))
            (map-up_from group 0 total k no_lines h ∙ ap group (zero-add k))

        go : (parity_after line_layer s (group k) ≡ places_at table k)
            ⊎ ((faulty_count s ≡ 0 → ⊥) × (parity_after line_layer s (group k) ≡ places_at received k)
            × (2 ≤ distance (places_at table k) (places_at received k)))
            → (bytes_at (table_after line_layer s (map group (up_from 0 total))) k ≡ bytes_at table k)
            ⊎ ((answer ≡ 11) × (bytes_at (table_after line_layer s (map group (up_from 0 total))) k ≡ line_of (places_at received k))
            × (2 ≤ distance (places_at table k) (places_at received k)))
        go (inl e) = inl (given ∙ ap line_of e ∙ sym (own_line total table d.written.bytes k h))
        go (inr o) = inr (eleven o.0, given ∙ ap line_of o.1, o.2)
