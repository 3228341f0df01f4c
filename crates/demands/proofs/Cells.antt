-- Request Q-3: the tables that repair hands over, and what 0 and 12 tell of the accepted parity lines; each law for any of the groups.
use mathlib.Core.Path.{◌≡◌, refl, sym, ap, ap₂, ◌∙◌}
use mathlib.Core.Logic.{inl, inr}
use mathlib.Core.Bool.{Bool, true, false, ◌&&◌, true≢false}
use mathlib.Core.List.{List, [], ◌∷◌, map}
use Prim.Native.Nat.{ℕ, zero, suc, ◌*◌, ◌<◌}
use native.Mathlib.Nat.{le_of_suc-le-suc, not-suc-le-zero}
use native.Mathlib.Omega.{arith}
use lib.ListN.{length, get_or}
use Rattle.gf2.specs.Word.{Word, ◌⊕◌, is_zero}
use Rattle.gf2.proofs.Same.{same-equal, is_zero-xor}
use Rattle.gf2.proofs.Xor.{length-xor}
use Rattle.linecode.specs.Places.{line_places, line_of}
use Rattle.scheme.specs.Layer.{parity_address}
use Rattle.scheme.specs.Visit.{Group, State, line_at, sum}
use Rattle.scheme.specs.Repair.{faulty_count, agrees, answer}
use Rattle.scheme.specs.Parity.{read_parity, unusable, no_lines, as_read, parity_after}
use Rattle.scheme.specs.Demand3.{◌∈◌}
use Rattle.scheme.proofs.Sums.{sum-ext, sum-length}
use Rattle.scheme.proofs.Words.{is_zero-self}
use Rattle.scheme.proofs.Width.{read-width}
use Rattle.scheme.proofs.Parity.{without-lines}
use Rattle.scheme.proofs.Used.{usable, left-accepted, left-afresh, left-found, accepted-correct, used-as-found}
use Rattle.scheme.proofs.Sound.{repair-sound}
use Rattle.rectangle.specs.Store.{line_layer, bytes_at, places_at, row, column, row_groups, column_groups, groups}
use Rattle.rectangle.specs.Refusals.{every}
use Rattle.rectangle.specs.Repair.{Buffers, StoreRepaired, used_groups, repaired_by, table_after, hands_over, handed_over}
use Rattle.rectangle.proofs.Groups.{sides, by-groups, groups-inside}
use Rattle.rectangle.proofs.Stride.{in-stride}
use Rattle.rectangle.proofs.LineLayer.{kept}
use Rattle.rectangle.proofs.Members.{in_left, in_right}
use Rattle.rectangle.proofs.Spare.{places-line_of}
use Rattle.rectangle.proofs.Tests.{every-at, some-fails}
use Rattle.demands.specs.Demands.{Rectangle, count, repair_of, groups_of}
use Rattle.demands.specs.Cells.{TableGiven, TablesGiven, Differs, AcceptedCompared, CorrectAsFound}
use Rattle.demands.proofs.Refused.{answer-left, answer-none, answer-agree, answer-differ, handed, sizes}
use Rattle.demands.proofs.TableLines.{table-bytes, table-line}
use Rattle.demands.proofs.Handed.{found, end, some-columns, parity-places, all-places, line-places, places-given}

-- what stands at a number inside a list is in it
at_in : {A : Type 0} (l : List A) (n : ℕ) (d : A) → n < length l → get_or l n d ∈ l
at_in [] n d h = absurd (not-suc-le-zero h)
at_in (a ∷ l) zero d h = inl refl
at_in (a ∷ l) (suc n) d h = inr (at_in l n d (le_of_suc-le-suc h))

-- the groups of a rectangle, as they are found
abbrev rows_of : Rectangle → List Group
rows_of r = row_groups r.rows r.columns r.row_table

abbrev columns_of : Rectangle → List Group
columns_of r = column_groups r.rows r.columns r.column_table

abbrev pub all_of : Rectangle → List Group
all_of r = groups r.rows r.columns r.row_table r.column_table

-- the answer looks at each group as read
abbrev agrees_with : State → Group → Bool
agrees_with s g = is_zero (sum (line_at s) (as_read line_layer g).members ⊕ (as_read line_layer g).parity)

agrees-every : (s : State) (gs : List Group) → agrees (map (as_read line_layer) gs) s ≡ every (agrees_with s) gs
agrees-every s [] = refl
agrees-every s (g ∷ gs) = ap (λ (t : Bool). agrees_with s g && t) (agrees-every s gs)

-- some lines of k places have a sum of k places
pub sum-places : (k : ℕ) (line : ℕ → Word) (ns : List ℕ) (m : ℕ) → m ∈ ns → ((n : ℕ) → n ∈ ns → length (line n) ≡ k)
    → length (sum line ns) ≡ k
sum-places k line [] m i h = absurd i
sum-places k line (n ∷ ns) m i h =
    length-xor (line n) (sum line ns)
    ∙ omega (arith, h n (inl refl), sum-length k line ns (λ j a. omega (arith, h j (inr a))))

module _ (r : Rectangle) (b : Buffers) (over : hands_over (repair_of r b).answer ≡ true) where
  pub answer-given : (repair_of r b).answer ≡ answer (groups_of r) (end r)
  unfolding end handed_over
  answer-given = ap (λ (s : StoreRepaired). s.answer) (handed r b over)

  pub inside : (g : Group) → g ∈ all_of r → (n : ℕ) → n ∈ g.members → n < count r
  inside = groups-inside r.rows r.columns (some-columns kept r b over) r.row_table r.column_table

  -- a group's lines as they are handed over
  sum-given : (g : Group) → g ∈ all_of r → sum (places_at (repair_of r b).lines) g.members ≡ sum (line_at (end r)) g.members
  sum-given g i =
      sum-ext (places_at (repair_of r b).lines) (line_at (end r)) g.members (λ n j. places-given kept r b over n (inside g i n j))

  -- a group has lines
  pub some-line : (g : Group) → g ∈ all_of r → (n : ℕ) × (n ∈ g.members)
  unfolding row column
  some-line =
      by-groups r.rows r.columns (some-columns kept r b over) r.row_table r.column_table (λ g. (n : ℕ) × (n ∈ g.members))
      (λ k h. (_, in-stride (k * r.columns) 1 r.columns 0 (some-columns kept r b over)))
      (λ k h. (_, in-stride k r.columns r.rows 0 (omega (arith, (sides r.rows r.columns (sizes r b over).sides).rows_low))))

  -- where no line is left faulty, its parity line is a correct line
  left-correct : faulty_count (end r) ≡ 0 → (g : Group) → g ∈ all_of r
      → line_layer.Correct (parity_address line_layer g.members) (parity_after line_layer (end r) g)
  unfolding end found repaired_by used_groups
  left-correct none g i =
      (repair-sound line_layer kept).parities (all_of r) (found r) (all-places kept r b over) none g i (some-line g i).0 (some-line g i).1

  -- ---- what the answer compares
  compared : (repair_of r b).answer ≡ 0 → (g : Group) → g ∈ all_of r → unusable line_layer g ≡ false
      → sum (places_at (repair_of r b).lines) g.members ≡ (read_parity line_layer g).line
  unfolding used_groups
  compared e g i u =
      sum-given g i ∙ same-equal lines parity (rw (sym (is_zero-xor lines parity (lines-places ∙ sym parity-sized)) ∙ agree) tt)
    where
      lines : Word
      lines = sum (line_at (end r)) g.members

      parity : Word
      parity = (read_parity line_layer g).line

      lines-places : length lines ≡ line_places
      lines-places =
          let m = some-line g i in
          sum-places line_places (line_at (end r)) g.members m.0 m.1 (λ n j. line-places kept r b over n (inside g i n j))

      parity-sized : length parity ≡ line_places
      parity-sized = read-width line_layer kept _ g.parity (parity-places kept r b over g i)

      agree : is_zero (lines ⊕ parity) ≡ true
      agree =
          rw (usable line_layer g u) at
          (every-at (agrees_with (end r)) (all_of r)
          (sym (agrees-every (end r) (all_of r)) ∙ answer-agree (groups_of r) (end r) (sym answer-given ∙ e)) g i)

  some-differs : (repair_of r b).answer ≡ 12 → Differs (all_of r) (repair_of r b).lines
  unfolding used_groups
  some-differs e =
      let f =
      some-fails (agrees_with (end r)) (all_of r)
      (sym (agrees-every (end r) (all_of r)) ∙ answer-differ (groups_of r) (end r) (sym answer-given ∙ e)) in
      go f.0 f.1 f.2 (unusable line_layer f.0) refl
    where
      go : (g : Group) → g ∈ all_of r → agrees_with (end r) g ≡ false → (lost : Bool) → unusable line_layer g ≡ lost
          → Differs (all_of r) (repair_of r b).lines
      go g i f true u = absurd (true≢false (rw (without-lines line_layer g u) at f))
      go g i f false u =
          record {
            group = g;
            listed = i;
            usable = u;
            differs = λ same.
                true≢false
                (sym (is_zero-self (read_parity line_layer g).line)
                ∙ (rw (usable line_layer g u, sym (sum-given g i) ∙ same) at f));
          }

  -- ---- the table of any of the groups
  module _ (gs : List Group) (own : (g : Group) → g ∈ gs → g ∈ all_of r) (table : List ℕ)
      (is : table ≡ table_after line_layer (end r) gs) where
    line-is : (k : ℕ) → k < length gs → bytes_at table k ≡ line_of (parity_after line_layer (end r) (get_or gs k no_lines))
    line-is k h = rw is (table-line (end r) gs k h)

    table-given : TableGiven gs (repair_of r b).lines table (repair_of r b).answer
    unfolding places_at
    table-given =
        record {
          bytes = rw is (table-bytes (end r) gs);
          accepted = accepted;
          correct = λ k h u.
              let c = accepted-correct line_layer kept (at k) (sized k h) u in
              rw (accepted k h u, places-line_of (read_parity line_layer (at k)).line (kept.sized _ _ c)) c;
          as_found = λ e k h u.
              line-is k h
              ∙ ap line_of
              (left-found line_layer kept (at k) (sized k h) (end r) u (answer-left (groups_of r) (end r) (sym answer-given ∙ e)));
          afresh = λ d k h u.
              line-is k h
              ∙ ap line_of
              (left-afresh line_layer (end r) (at k) u (answer-none (groups_of r) (end r) (λ e. d (answer-given ∙ e)))
              ∙ sym (sum-given (at k) (listed k h)));
          all_correct = λ d k h.
              let c = left-correct (answer-none (groups_of r) (end r) (λ e. d (answer-given ∙ e))) (at k) (listed k h) in
              rw (line-is k h, places-line_of (parity_after line_layer (end r) (at k)) (kept.sized _ _ c)) c;
        }
      where
        at : ℕ → Group
        at k = get_or gs k no_lines

        listed : (k : ℕ) → k < length gs → at k ∈ all_of r
        listed k h = own (at k) (at_in gs k no_lines h)

        sized : (k : ℕ) → k < length gs → length (at k).parity ≡ line_places
        sized k h = parity-places kept r b over (at k) (listed k h)

        accepted : (k : ℕ) → k < length gs → unusable line_layer (at k) ≡ false
            → bytes_at table k ≡ line_of (read_parity line_layer (at k)).line
        accepted k h u = line-is k h ∙ ap line_of (left-accepted line_layer (end r) (at k) u)

pub tables_given : TablesGiven
unfolding groups end handed_over
tables_given =
    record {
      rows = λ r b over.
          table-given r b over (rows_of r) (in_left (rows_of r) (columns_of r)) (repair_of r b).row_table
          (ap (λ (s : StoreRepaired). s.row_table) (handed r b over));
      columns = λ r b over.
          table-given r b over (columns_of r) (in_right (rows_of r) (columns_of r)) (repair_of r b).column_table
          (ap (λ (s : StoreRepaired). s.column_table) (handed r b over));
    }

pub accepted_compared : AcceptedCompared
unfolding hands_over
accepted_compared =
    record { agree = λ r b e. compared r b (ap hands_over e) e; differ = λ r b e. some-differs r b (ap hands_over e) e }

-- ---- every parity line correct
pub correct_as_found : CorrectAsFound
unfolding used_groups
correct_as_found r correct = go (all_of r) correct
  where
    go : (gs : List Group) → ((g : Group) → g ∈ gs → line_layer.Correct (parity_address line_layer g.members) g.parity)
        → map (as_read line_layer) gs ≡ gs
    go [] c = refl
    go (g ∷ gs) c = ap₂ ◌∷◌ (used-as-found line_layer kept g (c g (inl refl))) (go gs (λ h i. c h (inr i)))
