-- Demand 3 for rectangles in bytes: the exact return, and that none look alike.
use mathlib.Core.Path.{◌≡◌, sym, ap, ap₂, subst, ◌∙◌}
use mathlib.Core.List.{List, map}
use Prim.Native.Nat.{ℕ}
use borrow.Author.Tests.{eq-eqb}
use lib.ListN.{length}
use Rattle.gf2.specs.Word.{Word}
use Rattle.scheme.specs.Layer.{read_line, Promises}
use Rattle.scheme.specs.Visit.{Group, State, line_at}
use Rattle.scheme.specs.Repair.{faulty_count, repair, lines_of}
use Rattle.scheme.specs.Parity.{as_read}
use Rattle.scheme.specs.Demand3.{RisingGroups, word_at}
use Rattle.scheme.specs.Demand3 as Scheme
use Rattle.scheme.proofs.Grows.{none-counted}
use Rattle.scheme.proofs.Parity.{Found, rising-read, written_read}
use Rattle.scheme.proofs.NoneWrong.{end_line}
use Rattle.scheme.proofs.ExactReturn.{none-faulty, exact-return}
use Rattle.rectangle.specs.Store.{line_layer, lines_in, buffer_of, groups}
use Rattle.rectangle.specs.Refusals.{repair_refusal}
use Rattle.rectangle.specs.Repair.{Buffers, used_groups, repaired_by, handed_over}
use Rattle.demands.specs.Demands.{Rectangle, count, repair_of, Room, groups_of, steps_on, Written, Alike, WithinBounds, DamagedSo, Returned, ExactReturn, NotAlike}
use Rattle.rectangle.proofs.Buffer.{lines_in-equal}
use Rattle.rectangle.proofs.Groups.{by-groups, rising-groups, equal-groups}
use Rattle.demands.proofs.Refused.{refusal, runs}
use Rattle.demands.proofs.Written.{words_of, rectangle_of, some-columns, words-correct}
use Rattle.demands.proofs.Damaged.{found-group, table-back}
use Rattle.demands.proofs.Order.{received, rows-damaged, columns-damaged, bounded, mendable}

-- a rectangle of the same rows and columns
pub same-sides : (w r : Rectangle) → r.rows ≡ w.rows → r.columns ≡ w.columns
    → r ≡ received w r.lines r.row_table r.column_table
same-sides w r e f = ap₂ sided e f
  where
    sided : ℕ → ℕ → Rectangle
    sided rows columns =
        record { rows = rows; columns = columns; lines = r.lines; row_table = r.row_table; column_table = r.column_table }

written_is : (w : Rectangle) → Written w → w ≡ rectangle_of w.rows w.columns (buffer_of (words_of w))
unfolding rectangle_of
written_is w written =
    ap₂ (λ (row_table column_table : List ℕ). received w w.lines row_table column_table) written.row_table written.column_table
    ∙ ap (rectangle_of w.rows w.columns) written.lines

pub same_lines : (one : Rectangle) → Written one → (lines row_table column_table : List ℕ)
    → Written (received one lines row_table column_table) → words_of one ≡ words_of (received one lines row_table column_table)
    → one ≡ received one lines row_table column_table
same_lines one w lines row_table column_table v e =
    written_is one w
    ∙ ap (λ (ws : List Word). rectangle_of one.rows one.columns (buffer_of ws)) e
    ∙ sym (written_is (received one lines row_table column_table) v)

module _ (promises : Promises line_layer) where
  -- within the bounds: the groups as read are those of a store written, and repair is not refused
  module _ (w : Rectangle) (written : Written w) (lines row_table column_table : List ℕ)
      (bounds : WithinBounds w (received w lines row_table column_table)) where
    abbrev r : Rectangle
    r = received w lines row_table column_table

    pub groups-rise : RisingGroups (groups_of (received w lines row_table column_table))
    unfolding used_groups
    groups-rise =
        rising-read line_layer (groups w.rows w.columns row_table column_table)
        (rising-groups w.rows w.columns (some-columns promises w written) row_table column_table)

    pub groups-written : Scheme.Written line_layer (groups_of (received w lines row_table column_table)) (words_of w)
    unfolding used_groups
    groups-written =
        written_read line_layer promises (words_of w) (groups w.rows w.columns row_table column_table)
        (by-groups w.rows w.columns (some-columns promises w written) row_table column_table (Found line_layer (words_of w))
        (found-group promises (rows-damaged promises w written lines row_table column_table bounds))
        (found-group promises (columns-damaged promises w written lines row_table column_table bounds)))
        (words-correct promises w written)

    -- where no line is left faulty, all are the written ones
    pub right-lines : faulty_count (steps_on (received w lines row_table column_table)).cells ≡ 0 → (n : ℕ)
        → line_at (steps_on (received w lines row_table column_table)).cells n ≡ word_at (words_of w) n
    unfolding repaired_by
    right-lines e n =
        end_line line_layer promises (groups_of r) groups-rise (words_of w) (lines_in (count w) lines) groups-written
        (bounded promises w written lines row_table column_table bounds) n (none-counted (steps_on r).cells e n)

    pub runs-through : (b : Buffers) → Room (received w lines row_table column_table) b
        → repair_of (received w lines row_table column_table) b
        ≡ handed_over line_layer w.rows w.columns row_table column_table (steps_on (received w lines row_table column_table))
    unfolding refusal repair_refusal
    runs-through b room =
        runs r b
        (rw (
          written.sides,
          bounds.shape.line_bytes,
          bounds.shape.table_bytes,
          room.table_bytes,
          room.line_bytes,
          eq-eqb (length b.marks) (count w) room.marks,
        ))

  -- ---- the exact return
  module _ (w : Rectangle) (written : Written w) (lines row_table column_table : List ℕ)
      (damaged : DamagedSo w (received w lines row_table column_table)) where
    abbrev gs : List Group
    gs = groups_of (received w lines row_table column_table)

    abbrev end : State
    end = (steps_on (received w lines row_table column_table)).cells

    -- the scheme's, over places
    steps-return : Scheme.Returned (groups_of (received w lines row_table column_table)) (words_of w)
        (repair (read_line line_layer) (groups_of (received w lines row_table column_table)) (lines_in (count w) lines))
    steps-return =
        exact-return line_layer promises gs (groups-rise w written lines row_table column_table damaged.bounds) (words_of w)
        (lines_in (count w) lines) (groups-written w written lines row_table column_table damaged.bounds) _
        (mendable promises w written lines row_table column_table damaged.bounds damaged.ordered)

    none_left : faulty_count end ≡ 0
    unfolding repaired_by
    none_left =
        none-faulty line_layer promises gs (groups-rise w written lines row_table column_table damaged.bounds) (words_of w)
        (lines_in (count w) lines) (groups-written w written lines row_table column_table damaged.bounds) _
        (mendable promises w written lines row_table column_table damaged.bounds damaged.ordered)

    returned : (b : Buffers) → Room (received w lines row_table column_table) b
        → Returned w (repair_of (received w lines row_table column_table) b)
    unfolding handed_over repaired_by
    returned b room =
        rw (runs-through w written lines row_table column_table damaged.bounds b room)
        (record {
          answer = steps-return.answers;
          lines = ap buffer_of steps-return.exactly ∙ sym written.lines;
          row_table = table-back promises (rows-damaged promises w written lines row_table column_table damaged.bounds) end right none_left;
          column_table =
              table-back promises (columns-damaged promises w written lines row_table column_table damaged.bounds) end right none_left;
        })
      where
        right : faulty_count end ≡ 0 → (n : ℕ) → line_at end n ≡ word_at (words_of w) n
        right = right-lines w written lines row_table column_table damaged.bounds

  pub exact_return : ExactReturn
  exact_return w r written damaged b room =
      subst (λ (s : Rectangle). DamagedSo w s → Room s b → Returned w (repair_of s b))
      (sym (same-sides w r damaged.bounds.shape.rows damaged.bounds.shape.columns))
      (λ d o. returned w written r.lines r.row_table r.column_table d b o) damaged room

  -- ---- none look alike
  module _ (one : Rectangle) (w : Written one) (lines row_table column_table : List ℕ)
      (v : Written (received one lines row_table column_table)) (lines₁ row_table₁ column_table₁ lines₂ row_table₂ column_table₂ : List ℕ)
      (d : DamagedSo one (received one lines₁ row_table₁ column_table₁))
      (d' : DamagedSo (received one lines row_table column_table) (received one lines₂ row_table₂ column_table₂))
      (alike : Alike (received one lines₁ row_table₁ column_table₁) (received one lines₂ row_table₂ column_table₂)) where
    -- both come back from the same steps
    same-words : words_of one ≡ words_of (received one lines row_table column_table)
    unfolding used_groups
    same-words =
        sym (steps-return one w lines₁ row_table₁ column_table₁ d).exactly
        ∙ ap₂ (λ (gs : List Group) (found : List Word). lines_of (repair (read_line line_layer) gs found).cells)
        (ap (map (as_read line_layer))
        (equal-groups one.rows one.columns row_table₁ column_table₁ row_table₂ column_table₂
        (lines_in-equal one.rows row_table₁ row_table₂ alike.tables.row_table)
        (lines_in-equal one.columns column_table₁ column_table₂ alike.tables.column_table)))
        alike.lines
        ∙ (steps-return (received one lines row_table column_table) v lines₂ row_table₂ column_table₂ d').exactly

    same-written : one ≡ received one lines row_table column_table
    same-written = same_lines one w lines row_table column_table v same-words

  pub not_alike : NotAlike
  not_alike one two r s w v d d' alike =
      same-written one w two.lines two.row_table two.column_table (subst Written p v)
      r.lines r.row_table r.column_table s.lines s.row_table s.column_table (subst (DamagedSo one) q d)
      (subst (DamagedSo (received one two.lines two.row_table two.column_table)) t
      (subst (λ (x : Rectangle). DamagedSo x s) p d'))
      (subst (Alike (received one r.lines r.row_table r.column_table)) t (subst (λ (x : Rectangle). Alike x s) q alike))
      ∙ sym p
    where
      t : s ≡ received one s.lines s.row_table s.column_table
      t = same-sides one s (sym alike.rows ∙ d.bounds.shape.rows) (sym alike.columns ∙ d.bounds.shape.columns)

      p : two ≡ received one two.lines two.row_table two.column_table
      p =
          same-sides one two (sym d'.bounds.shape.rows ∙ sym alike.rows ∙ d.bounds.shape.rows)
          (sym d'.bounds.shape.columns ∙ sym alike.columns ∙ d.bounds.shape.columns)

      q : r ≡ received one r.lines r.row_table r.column_table
      q = same-sides one r d.bounds.shape.rows d.bounds.shape.columns
