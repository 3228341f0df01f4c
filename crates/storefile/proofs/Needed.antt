-- How many bytes a reader needs, and that a file that is longer is refused, whether it was read whole or only as far.
use mathlib.Core.Path.{◌≡◌, refl, sym, ap, ◌∙◌}
use mathlib.Core.Bool.{Bool, true, false, cond, ◌&&◌}
use mathlib.Core.List.{List}
use Prim.Native.Nat.{ℕ, suc, ◌+◌, ◌≤◌, ◌<◌}
use native.Mathlib.Nat.{mul-le-mul}
use native.Mathlib.Decide.{dec_le}
use native.Mathlib.Omega.{arith}
use borrow.Author.Tests.{eq-eqb, ne_eqb, le-leb, eqb-true}
use lib.Dec.{eqb, leb}
use lib.ListN.{length, take, drop, take-append-drop}
use lib.Seq.{take_all, take-take, length-take-le}
use Rattle.linecode.specs.Places.{line_bytes}
use Rattle.rectangle.specs.Refusals.{sides_fit}
use Rattle.rectangle.proofs.Groups.{sides}
use Rattle.rectangle.proofs.Tests.{passed}
use Rattle.storefile.specs.Bytes.{number_of, number_at}
use Rattle.storefile.specs.Header.{header_bytes, lines_part, row_table_part, column_table_part, file_length}
use Rattle.storefile.specs.Opening.{rows_in, columns_in, sides_within, entry_is, entries_fit, contents_fit, open_refusal, opened, bytes_needed, Opened}
use Rattle.storefile.specs.Promises.{ReaderNeedsNoMore}
use Rattle.storefile.specs.declared.header.Part.{Part}
use Rattle.storefile.specs.Given.{Told}
use Rattle.storefile.proofs.Openings.{sides-within, contents-refusal, opened-refused}
use Rattle.storefile.proofs.MadeFile.{number-in-front}

-- ---- the function, case by case
module _ (limit : ℕ) (start : List ℕ) where
  pub needed-settled : (n : ℕ) → n ≡ open_refusal limit start → (n ≡ 4 → ⊥) → 28 ≡ bytes_needed limit start
  unfolding bytes_needed header_bytes
  needed-settled n e d = rw (← e, ne_eqb n 4 d)

  module _ (rows columns : ℕ) (t : Told limit start rows columns) where
    pub needed-elsewhere : entries_fit start rows columns ≡ false → 28 ≡ bytes_needed limit start
    unfolding bytes_needed header_bytes contents_fit
    needed-elsewhere e = rw (contents-refusal limit start rows columns t, ← t.rows_told, ← t.columns_told, e)

    module _ (e : entries_fit start rows columns ≡ true) where
      pub needed-there : length start ≡ file_length rows columns → 28 ≡ bytes_needed limit start
      unfolding bytes_needed header_bytes contents_fit
      needed-there f = rw (contents-refusal limit start rows columns t, ← t.rows_told, ← t.columns_told, e, eq-eqb (length start) _ f)

      pub needed-whole : (length start ≡ file_length rows columns → ⊥) → file_length rows columns + 1 ≡ bytes_needed limit start
      unfolding bytes_needed contents_fit
      needed-whole d =
          rw (contents-refusal limit start rows columns t, ← t.rows_told, ← t.columns_told, e, ne_eqb (length start) _ d) (omega arith)

-- ---- what a file's first 28 bytes tell
module _ (limit : ℕ) (start l : List ℕ) (long : 28 ≤ length l) (same : take 28 l ≡ start) where
  number_same : (at k : ℕ) → at + k ≤ 28 → number_at l at k ≡ number_at start at k
  unfolding number_at
  number_same at k h =
      ap (λ (x : List ℕ). number_of (take k (drop at x))) (sym (take-append-drop 28 l))
      ∙ number-in-front (take 28 l) (drop 28 l) at k (omega (arith, length-take-le 28 l long))
      ∙ ap (λ (x : List ℕ). number_of (take k (drop at x))) same

  rows_same : rows_in l ≡ rows_in start
  unfolding rows_in
  rows_same = number_same 0 2 (omega arith)

  columns-same : columns_in l ≡ columns_in start
  unfolding columns_in
  columns-same = number_same 2 2 (omega arith)

  entry-same : (at : ℕ) (p : Part) → at + 8 ≤ 28 → entry_is l at p ≡ entry_is start at p
  unfolding entry_is
  entry-same at p h = rw (number_same at 4 (omega arith), number_same (at + 4) 4 (omega arith))

  entries-same : (r c : ℕ) → entries_fit l r c ≡ entries_fit start r c
  unfolding entries_fit
  entries-same r c = rw (entry-same 4 (lines_part r c) (omega arith), entry-same 12 (row_table_part r c) (omega arith), entry-same 20 (column_table_part r c) (omega arith))

  told-2 : sides_fit (rows_in start) (columns_in start) ≡ false → open_refusal limit l ≡ 2
  unfolding open_refusal header_bytes
  told-2 e = rw (le-leb 28 (length l) long, rows_same, columns-same, e)

  module _ (fit : sides_fit (rows_in start) (columns_in start) ≡ true) where
    told-3 : sides_within limit (rows_in start) (columns_in start) ≡ false → open_refusal limit l ≡ 3
    unfolding open_refusal header_bytes
    told-3 e = rw (le-leb 28 (length l) long, rows_same, columns-same, fit, e)

    module _ (within : sides_within limit (rows_in start) (columns_in start) ≡ true) where
      told-4 : contents_fit l (rows_in start) (columns_in start) ≡ false → open_refusal limit l ≡ 4
      unfolding open_refusal header_bytes
      told-4 e = rw (le-leb 28 (length l) long, rows_same, columns-same, fit, within, e)

      entries-told : entries_fit start (rows_in start) (columns_in start) ≡ false → open_refusal limit l ≡ 4
      unfolding contents_fit
      entries-told e = told-4 wrong
        where
          wrong : contents_fit l (rows_in start) (columns_in start) ≡ false
          wrong = rw (entries-same (rows_in start) (columns_in start), e)

      length-told : (length l ≡ file_length (rows_in start) (columns_in start) → ⊥) → open_refusal limit l ≡ 4
      unfolding contents_fit
      length-told d = told-4 wrong
        where
          and-false : (b : Bool) → (b && false) ≡ false
          and-false true = refl
          and-false false = refl

          wrong : contents_fit l (rows_in start) (columns_in start) ≡ false
          wrong = rw (ne_eqb (length l) (file_length (rows_in start) (columns_in start)) d) (and-false (entries_fit l (rows_in start) (columns_in start)))

-- where only the contents can be wrong, rows and columns are at most the limit
start-within : (limit : ℕ) (start : List ℕ) → open_refusal limit start ≡ 4 → sides_within limit (rows_in start) (columns_in start) ≡ true
unfolding open_refusal header_bytes
start-within limit start e =
    let one = passed (leb 28 (length start)) 1 _ (λ z. omega arith) e in
    let two = passed (sides_fit (rows_in start) (columns_in start)) 2 _ (λ z. omega arith) one.1 in
    (passed (sides_within limit (rows_in start) (columns_in start)) 3 _ (λ z. omega arith) two.1).0

end-within : (rows columns : ℕ) → sides_within 16 rows columns ≡ true → suc (file_length rows columns) ≤ 20189
unfolding file_length column_table_part row_table_part lines_part header_bytes line_bytes
end-within rows columns e =
    let small = sides-within 16 rows columns e in
    omega (arith, small.0, small.1, mul-le-mul small.0 small.1)

-- ---- a file that is longer than needed is refused, and so is what was read of it
pub needed-least : (limit : ℕ) (start : List ℕ) → 28 ≤ bytes_needed limit start
unfolding bytes_needed header_bytes file_length column_table_part row_table_part lines_part
needed-least limit start = go (eqb (open_refusal limit start) 4 && entries_fit start (rows_in start) (columns_in start))
  where
    go : (b : Bool) → 28 ≤ cond b (suc (file_length (rows_in start) (columns_in start))) 28
    go true = omega arith
    go false = omega arith

-- the largest store of 16 rows and columns at the most has 20188 bytes
pub needed-most : (start : List ℕ) → bytes_needed 16 start ≤ 20189
unfolding bytes_needed header_bytes
needed-most start = go (eqb (open_refusal 16 start) 4) _ refl
  where
    go : (a b : Bool) → eqb (open_refusal 16 start) 4 ≡ a → cond (a && b) (suc (file_length (rows_in start) (columns_in start))) 28 ≤ 20189
    go false b e = omega arith
    go true false e = omega arith
    go true true e = end-within (rows_in start) (columns_in start) (start-within 16 start (eqb-true (open_refusal 16 start) 4 e))

bodies-follow : (rows columns : ℕ) → 2 ≤ rows → 28 < file_length rows columns
unfolding file_length column_table_part row_table_part lines_part header_bytes line_bytes
bodies-follow rows columns h = omega arith

-- two files are refused with one answer
pub record Refused (limit : ℕ) (one two : List ℕ) : Type 0 where
  pub answer : ℕ
  pub some : answer ≡ 0 → ⊥
  pub first : open_refusal limit one ≡ answer
  pub second : open_refusal limit two ≡ answer

module _ (limit : ℕ) (file : List ℕ) (longer : bytes_needed limit (take 28 file) < length file) where
  abbrev start : List ℕ
  start = take 28 file

  least : 28 ≤ bytes_needed limit start
  least = needed-least limit start

  abbrev read : List ℕ
  read = take (bytes_needed limit start) file

  length-read : length read ≡ bytes_needed limit start
  length-read = length-take-le (bytes_needed limit start) file (omega arith)

  length-start : length start ≡ 28
  length-start = length-take-le 28 file (omega (arith, needed-least limit (take 28 file)))

  start-start : take 28 start ≡ start
  start-start = take-take 28 28 file (omega arith)

  start-read : take 28 read ≡ start
  start-read = take-take 28 (bytes_needed limit (take 28 file)) file (needed-least limit (take 28 file))

  long : 28 ≤ length file
  long = omega (arith, needed-least limit (take 28 file), longer)

  -- where the length alone can be wrong, one byte more than it is read
  module _ (fit : sides_fit (rows_in start) (columns_in start) ≡ true)
      (within : sides_within limit (rows_in start) (columns_in start) ≡ true) where
    wrong-length : open_refusal limit start ≡ 4
    wrong-length =
        length-told limit start start (omega (arith, length-start)) start-start fit within (λ z. omega (arith, length-start, follows, z))
      where
        follows : 28 < file_length (rows_in start) (columns_in start)
        follows = bodies-follow (rows_in start) (columns_in start) (sides (rows_in start) (columns_in start) fit).rows_low

    whole : entries_fit start (rows_in start) (columns_in start) ≡ true
        → bytes_needed limit start ≡ suc (file_length (rows_in start) (columns_in start))
    unfolding bytes_needed
    whole e = rw (wrong-length, e)

  pub both-refused : Refused limit read file
  both-refused = go _ _ _ refl refl refl
    where
      go : (a b e : Bool) → sides_fit (rows_in start) (columns_in start) ≡ a → sides_within limit (rows_in start) (columns_in start) ≡ b
          → entries_fit start (rows_in start) (columns_in start) ≡ e → Refused limit read file
      go false b e ea eb ee =
          record {
            answer = 2;
            some = λ z. omega arith;
            first = told-2 limit start read (omega (arith, length-read, least)) start-read ea;
            second = told-2 limit start file long refl ea;
          }
      go true false e ea eb ee =
          record {
            answer = 3;
            some = λ z. omega arith;
            first = told-3 limit start read (omega (arith, length-read, least)) start-read ea eb;
            second = told-3 limit start file long refl ea eb;
          }
      go true true false ea eb ee =
          record {
            answer = 4;
            some = λ z. omega arith;
            first = entries-told limit start read (omega (arith, length-read, least)) start-read ea eb ee;
            second = entries-told limit start file long refl ea eb ee;
          }
      go true true true ea eb ee =
          record {
            answer = 4;
            some = λ z. omega arith;
            first = length-told limit start read (omega (arith, length-read, least)) start-read ea eb (λ z. omega (arith, length-read, whole ea eb ee, z));
            second = length-told limit start file long refl ea eb (λ z. omega (arith, longer, whole ea eb ee, z));
          }

-- ---- a reader that stops there opens the file as if it had read the whole
pub reader-needs-no-more : ReaderNeedsNoMore
unfolding header_bytes
reader-needs-no-more limit file = go (dec_le (length file) (bytes_needed limit (take 28 file)))
  where
    refused_as : ℕ → Opened
    refused_as n = record { answer = n; rows = 0; columns = 0 }

    is : (l : List ℕ) (n : ℕ) → (n ≡ 0 → ⊥) → open_refusal limit l ≡ n → opened limit l ≡ refused_as n
    is l n d e = opened-refused limit l (λ z. d (sym e ∙ z)) ∙ ap refused_as e

    go : Dec (length file ≤ bytes_needed limit (take 28 file)) → opened limit (take (bytes_needed limit (take 28 file)) file) ≡ opened limit file
    go (yes l) = ap (opened limit) (take_all (bytes_needed limit (take 28 file)) file l)
    go (no l) =
        let r = both-refused limit file (omega arith) in
        is _ r.answer r.some r.first ∙ sym (is file r.answer r.some r.second)
