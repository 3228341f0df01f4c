-- Document 01, "Repair": what is handed over, line by line, and the passes, for every rectangle that repair does not turn back.
use mathlib.Core.Path.{◌≡◌, sym, ap, ◌∙◌}
use mathlib.Core.Bool.{true}
use mathlib.Core.List.{List, []}
use Prim.Native.Nat.{ℕ, ◌*◌, ◌<◌}
use native.Mathlib.Omega.{arith}
use borrow.Author.Tests.{eqb-false, not-true}
use lib.ListN.{length, get_or, length-map, get_or-map}
use Rattle.gf2.specs.Word.{Word}
use Rattle.linecode.specs.Places.{line_places, line_bytes, places, line_of}
use Rattle.linecode.specs.Code.{up_from}
use Rattle.scheme.specs.Layer.{Cell, read_line, Promises}
use Rattle.scheme.specs.Visit.{Group, State, cell_at, line_at, is_faulty}
use Rattle.scheme.specs.Repair.{read_all, faulty_count, lines_of, marks_of}
use Rattle.scheme.specs.Sound.{AllPlaces}
use Rattle.scheme.specs.Demand3.{◌∈◌}
use Rattle.scheme.proofs.Lists.{count_map}
use Rattle.scheme.proofs.Sound.{left-places}
use Rattle.scheme.proofs.Passes.{repair-passes-none, repair-passes-bound}
use Rattle.scheme.proofs.Stays.{first-reading-at, repair-stays, repair-length, faulty-as-found}
use Rattle.rectangle.specs.Store.{line_layer, bytes_at, places_at, lines_in, buffer_of, alone_at, groups}
use Rattle.rectangle.specs.Refusals.{accepted_at}
use Rattle.rectangle.specs.Repair.{Buffers, used_groups, repaired_by, hands_over, handed_over}
use Rattle.demands.specs.Demands.{Rectangle, count, repair_of, groups_of, steps_on, faulty_alone, PassesOf, PassesReturned, GivenAsRead, AcceptedNeverAltered, FaultyAsFound}
use Rattle.rectangle.proofs.Alone.{read-from}
use Rattle.rectangle.proofs.Buffer.{length-places_at, length-lines_in, lines_in-at, bytes_at-buffer_of}
use Rattle.rectangle.proofs.Groups.{sides, by-groups, rising-groups, groups-inside}
use Rattle.rectangle.proofs.Spare.{places-line_of}
use Rattle.demands.proofs.Refused.{handed, sizes}
use Rattle.demands.proofs.TableLines.{in-range}

-- ---- line n of the buffers handed over
module _ (s : State) (n : ℕ) (inside : n < length s) where
  pub line-handed : bytes_at (buffer_of (lines_of s)) n ≡ line_of (line_at s n)
  line-handed =
      bytes_at-buffer_of (lines_of s) n (omega (arith, length-map s (λ (c : Cell). c.line)))
      ∙ ap line_of (get_or-map (λ (c : Cell). c.line) s n (record { line = []; mark = 0 }))

  -- whatever stands past the end
  pub mark-handed : (d : ℕ) → get_or (marks_of s) n d ≡ (cell_at s n).mark
  mark-handed d =
      get_or-map (λ (c : Cell). c.mark) s n (record { line = []; mark = d })
      ∙ ap (λ (c : Cell). c.mark) (in-range s n _ _ inside)

module _ (r : Rectangle) where
  unfoldable pub found : List Word
  found = lines_in (count r) r.lines

  unfoldable pub end : State
  end = (steps_on r).cells

  first_count : faulty_count (read_all (read_line line_layer) 0 found) ≡ faulty_alone r
  unfolding found lines_in faulty_alone
  first_count = ap faulty_count (read-from r.lines 0 (count r)) ∙ count_map (alone_at r.lines) is_faulty (up_from 0 (count r))

  steps-passes : PassesOf r (steps_on r).passes
  unfolding found repaired_by
  steps-passes =
      record {
        none = rw (← first_count) (repair-passes-none (read_line line_layer) (groups_of r) found);
        most = omega (arith, first_count, repair-passes-bound (read_line line_layer) (groups_of r) found);
      }

  found-length : length found ≡ count r
  unfolding found
  found-length = length-lines_in (count r) r.lines

  pub end-length : length end ≡ count r
  unfolding end found repaired_by
  end-length = repair-length (read_line line_layer) (groups_of r) found ∙ found-length

  module _ (n : ℕ) (h : n < count r) where
    pub within : n < length found
    within = omega (arith, found-length)

    pub within_end : n < length end
    within_end = omega (arith, end-length)

    accepted-stays : accepted_at r.lines n ≡ true → cell_at end n ≡ alone_at r.lines n
    unfolding end found repaired_by accepted_at alone_at
    accepted-stays a =
        (repair-stays (read_line line_layer) (groups_of r) found).accepted n
        (λ e. eqb-false _ 4 (not-true _ a) (ap (λ (c : Cell). c.mark) (sym alone) ∙ e))
        ∙ alone
      where
        alone : cell_at (read_all (read_line line_layer) 0 found) n ≡ read_line line_layer n (places_at r.lines n)
        alone =
            first-reading-at (read_line line_layer) found n within
            ∙ ap (read_line line_layer n) (lines_in-at (count r) r.lines n h)

    given-as-read : (b : Buffers) → hands_over (repair_of r b).answer ≡ true → accepted_at r.lines n ≡ true
        → GivenAsRead r (repair_of r b) n
    unfolding end handed_over
    given-as-read b o a =
        rw (handed r b o)
        (record {
          line = line-handed end n within_end ∙ ap (λ (c : Cell). line_of c.line) (accepted-stays a);
          mark = mark-handed end n within_end 4 ∙ ap (λ (c : Cell). c.mark) (accepted-stays a);
        })

pub passes_returned : PassesReturned
unfolding handed_over
passes_returned r b o = rw (handed r b o) (steps-passes r)

pub accepted_never_altered : AcceptedNeverAltered
accepted_never_altered r b o n h a = given-as-read r n h b o a

-- the layer gives back a faulty line as found, if it has all places: refusal 5 saw to that
module _ (promises : Promises line_layer) (r : Rectangle) (b : Buffers)
    (over : hands_over (repair_of r b).answer ≡ true) where
  pub line-bytes : length r.lines ≡ count r * line_bytes
  unfolding line_bytes
  line-bytes = (sizes r b over).line_bytes

  module _ (n : ℕ) (h : n < count r) where
    faulty-given : (cell_at (end r) n).mark ≡ 4 → line_at (end r) n ≡ places_at r.lines n
    unfolding end found repaired_by
    faulty-given e =
        faulty-as-found line_layer promises (groups_of r) (found r) n (within r n h)
        (ap length (lines_in-at (count r) r.lines n h) ∙ length-places_at (count r) r.lines line-bytes n h) e
        ∙ lines_in-at (count r) r.lines n h

    given-as-found : get_or (repair_of r b).marks n 0 ≡ 4
        → bytes_at (repair_of r b).lines n ≡ line_of (places_at r.lines n)
    unfolding end handed_over
    given-as-found e =
        rw (handed r b over)
        (line-handed (end r) n (within_end r n h)
        ∙ ap line_of (faulty-given (sym (mark-handed (end r) n (within_end r n h) 0) ∙ (rw (handed r b over) at e))))

  -- refusal 6 saw to the parity lines, and so every line handed over has all places
  pub some-columns : 0 < r.columns
  some-columns = omega (arith, (sides r.rows r.columns (sizes r b over).sides).columns_low)

  pub parity-places : (g : Group) → g ∈ groups r.rows r.columns r.row_table r.column_table
      → length g.parity ≡ line_places
  unfolding line_bytes
  parity-places =
      by-groups r.rows r.columns some-columns r.row_table r.column_table (λ g. length g.parity ≡ line_places)
      (length-places_at r.rows r.row_table (sizes r b over).row_bytes)
      (length-places_at r.columns r.column_table (sizes r b over).column_bytes)

  pub all-places : AllPlaces line_layer (groups r.rows r.columns r.row_table r.column_table) (found r)
  unfolding found
  all-places =
      record {
        lines = λ n h.
            let inside : n < count r = omega (arith, found-length r) in
            ap length (lines_in-at (count r) r.lines n inside) ∙ length-places_at (count r) r.lines line-bytes n inside;
        parities = parity-places;
        rising = rising-groups r.rows r.columns some-columns r.row_table r.column_table;
        inside = λ g i n j.
            within r n (groups-inside r.rows r.columns some-columns r.row_table r.column_table g i n j);
      }

  module _ (n : ℕ) (h : n < count r) where
    pub line-places : length (line_at (end r) n) ≡ line_places
    unfolding end repaired_by used_groups found
    line-places = left-places line_layer promises _ (found r) all-places n (within r n h)

    pub places-given : places_at (repair_of r b).lines n ≡ line_at (end r) n
    unfolding end handed_over places_at
    places-given =
        rw (handed r b over)
        (ap places (line-handed (end r) n (within_end r n h)) ∙ places-line_of (line_at (end r) n) line-places)

pub faulty_as_found : Promises line_layer → FaultyAsFound
faulty_as_found promises r b over n h e = given-as-found promises r b over n h e
