-- The bodies of a file that opens are disjoint, in order, and cover the file after its header; another file has none.
use mathlib.Core.Path.{◌≡◌, refl, sym, ap, ◌∙◌}
use mathlib.Core.Bool.{and-eq-true_iff}
use mathlib.Core.List.{List, [], ◌++◌, append_assoc}
use Prim.Native.Nat.{ℕ, ◌+◌, ◌*◌}
use native.Mathlib.Omega.{arith}
use borrow.Author.Tests.{eqb-true}
use lib.ListN.{length, take, drop, length-drop, take-append-drop}
use lib.Seq.{take_all, drop-drop, length-take-le}
use Rattle.linecode.specs.Places.{line_bytes}
use Rattle.storefile.specs.Header.{header_bytes, lines_part, row_table_part, column_table_part, file_length, bytes_in}
use Rattle.storefile.specs.Opening.{rows_in, columns_in, entries_fit, contents_fit, opened, body, Opened}
use Rattle.storefile.specs.Promises.{BodiesCover, OpenedFileCovered, NoBodies, RefusedFileEmpty}
use Rattle.storefile.specs.declared.header.Part.{Part}
use Rattle.storefile.proofs.Openings.{Opens, Outcome, accepted, refused, outcome}
use Rattle.storefile.proofs.MadeFile.{body_of}

-- a list cut at a place and k further on
cut : (l : List ℕ) (at k : ℕ) → drop at l ≡ take k (drop at l) ++ drop (at + k) l
cut l at k = sym (take-append-drop k (drop at l)) ∙ ap (λ (t : List ℕ). take k (drop at l) ++ t) (drop-drop k at l)

four : (a b c d e f g h : List ℕ) → a ≡ b ++ c → c ≡ d ++ e → e ≡ f ++ g → g ≡ h → a ≡ b ++ d ++ f ++ h
four a b c d e f g h p q r s =
    p ∙ ap (λ (l : List ℕ). b ++ l) q
    ∙ sym (append_assoc b d e) ∙ ap (λ (l : List ℕ). (b ++ d) ++ l) r
    ∙ sym (append_assoc (b ++ d) f g) ∙ ap (λ (l : List ℕ). ((b ++ d) ++ f) ++ l) s

module _ (file : List ℕ) (o : Opens 512 file)
    (is : opened 512 file ≡ record { answer = 0; rows = rows_in file; columns = columns_in file }) where
  -- the lengths of the bodies
  L : ℕ
  L = rows_in file * columns_in file * line_bytes

  R : ℕ
  R = rows_in file * line_bytes

  C : ℕ
  C = columns_in file * line_bytes

  file-bytes : length file ≡ 28 + L + R + C
  unfolding L R C contents_fit file_length column_table_part row_table_part lines_part header_bytes
  file-bytes =
      eqb-true (length file) _ ((and-eq-true_iff (entries_fit file (rows_in file) (columns_in file)) _).0 o.contents).1

  lines_at : body lines_part file ≡ take L (drop 28 file)
  unfolding L bytes_in lines_part header_bytes
  lines_at = body_of lines_part file (rows_in file) (columns_in file) is

  rows_at : body row_table_part file ≡ take R (drop (28 + L) file)
  unfolding L R bytes_in row_table_part lines_part header_bytes
  rows_at = body_of row_table_part file (rows_in file) (columns_in file) is

  columns-at : body column_table_part file ≡ take C (drop (28 + L + R) file)
  unfolding L R C bytes_in column_table_part row_table_part lines_part header_bytes
  columns-at = body_of column_table_part file (rows_in file) (columns_in file) is

  -- the last body is all that is left
  last : drop (28 + L + R) file ≡ body column_table_part file
  last =
      sym (columns-at
      ∙ take_all C (drop (28 + L + R) file) (omega (arith, file-bytes, length-drop (28 + L + R) file)))

  covered : BodiesCover file
  unfolding L R C header_bytes
  covered =
      record {
        in_order =
            four file (take 28 file) (drop 28 file) (body lines_part file) (drop (28 + L) file) (body row_table_part file)
            (drop (28 + L + R) file) (body column_table_part file) (sym (take-append-drop 28 file))
            (cut file 28 L ∙ ap (λ (l : List ℕ). l ++ drop (28 + L) file) (sym lines_at))
            (cut file (28 + L) R ∙ ap (λ (l : List ℕ). l ++ drop (28 + L + R) file) (sym rows_at)) last;
        lines =
            ap length lines_at
            ∙ length-take-le L (drop 28 file) (omega (arith, file-bytes, length-drop 28 file));
        row_table =
            ap length rows_at
            ∙ length-take-le R (drop (28 + L) file) (omega (arith, file-bytes, length-drop (28 + L) file));
        column_table =
            ap length columns-at
            ∙ length-take-le C (drop (28 + L + R) file) (omega (arith, file-bytes, length-drop (28 + L + R) file));
      }

pub opened-file-covered : OpenedFileCovered
opened-file-covered file z = go (outcome 512 file (opened 512 file) refl)
  where
    go : Outcome 512 file (opened 512 file) → BodiesCover file
    go (refused d e) = absurd (d (sym (ap (λ (x : Opened). x.answer) e) ∙ z))
    go (accepted e h) = covered file h e

-- ---- a file that does not open
no_body : (part : ℕ → ℕ → Part) (file : List ℕ) (refusal : ℕ) → (part 0 0).size ≡ 0
    → opened 512 file ≡ record { answer = refusal; rows = 0; columns = 0 } → body part file ≡ []
unfolding body bytes_in
no_body part file refusal e f =
    ap (λ (x : Opened). take (part x.rows x.columns).size (drop (part x.rows x.columns).offset file)) f
    ∙ ap (λ (k : ℕ). take k (drop (part 0 0).offset file)) e

pub refused-file-empty : RefusedFileEmpty
unfolding column_table_part row_table_part lines_part line_bytes
refused-file-empty file d = go (outcome 512 file (opened 512 file) refl)
  where
    go : Outcome 512 file (opened 512 file) → NoBodies file
    go (accepted e h) = absurd (d (ap (λ (x : Opened). x.answer) e))
    go (refused n e) =
        record {
          lines = no_body lines_part file _ refl e;
          row_table = no_body row_table_part file _ refl e;
          column_table = no_body column_table_part file _ refl e;
        }
