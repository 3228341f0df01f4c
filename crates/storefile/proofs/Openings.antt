-- Opening a file, test by test.
use mathlib.Core.Path.{◌≡◌, refl, ap, ◌∙◌}
use mathlib.Core.Bool.{Bool, true, false, ◌&&◌, and-eq-true_iff}
use mathlib.Core.Logic.{◌⊎◌, inl, inr}
use mathlib.Core.List.{List}
use Prim.Native.Nat.{ℕ, ◌-◌, ◌≤◌, ◌<◌, min, max}
use native.Mathlib.Omega.{arith}
use borrow.Author.Tests.{ne_eqb, le-leb, lt-leb, leb-true}
use lib.Dec.{leb}
use lib.ListN.{length, take, drop, length-drop}
use lib.Seq.{take_all}
use Rattle.std.proofs.lemmas.List.{drop_min, take_min}
use Rattle.rectangle.specs.Answers.{number_of}
use Rattle.rectangle.specs.Refusals.{unless, sides_fit}
use Rattle.rectangle.specs.declared.answers.Refusal.{Refusal}
use Rattle.rectangle.proofs.Numbers.{number-not-zero}
use Rattle.rectangle.proofs.Tests.{passed}
use Rattle.rectangle.proofs.Runs.{zero_or_not}
use Rattle.storefile.specs.Bytes.{number_at}
use Rattle.storefile.specs.Given.{Told}
use Rattle.storefile.specs.Header.{header_bytes, bytes_in}
use Rattle.storefile.specs.Opening.{rows_in, columns_in, sides_within, contents_fit, open_refusal, opened, Opened}
use Rattle.storefile.specs.declared.header.Part.{Part}
use Rattle.rectangle.proofs.Groups.{sides}

-- ---- the tests of opening, in their order
module _ (limit : ℕ) (file : List ℕ) where
  pub short_told : length file < 28 → 1 ≡ open_refusal limit file
  unfolding open_refusal header_bytes
  short_told h = rw (lt-leb 28 (length file) h)

  module _ (long : 28 ≤ length file) (rows columns : ℕ) (er : rows ≡ number_at file 0 2) (ec : columns ≡ number_at file 2 2) where
    pub sides-refused : sides_fit rows columns ≡ false → 2 ≡ open_refusal limit file
    unfolding open_refusal header_bytes rows_in columns_in
    sides-refused e = rw (le-leb 28 (length file) long, ← er, ← ec, e)

    module _ (fit : sides_fit rows columns ≡ true) where
      pub limit-refused : limit < max rows columns → 3 ≡ open_refusal limit file
      unfolding open_refusal header_bytes rows_in columns_in sides_within
      limit-refused h = rw (le-leb 28 (length file) long, ← er, ← ec, fit) (go (leb rows limit) refl)
        where
          go : (b : Bool) → leb rows limit ≡ b → 3 ≡ unless (b && leb columns limit) 3 (unless (contents_fit file rows columns) 4 0)
          go true e = let k = leb-true rows limit e in rw (lt-leb columns limit (omega arith))
          go false e = refl

      pub sides-told : max rows columns ≤ limit → Told limit file rows columns
      unfolding rows_in columns_in sides_within
      sides-told h =
          record {
            long = long;
            rows_told = er;
            columns_told = ec;
            sides = fit;
            within = rw (le-leb rows limit (omega arith), le-leb columns limit (omega arith));
          }

  module _ (rows columns : ℕ) (t : Told limit file rows columns) where
    pub contents-refusal : open_refusal limit file ≡ unless (contents_fit file rows columns) 4 0
    unfolding open_refusal header_bytes
    contents-refusal = rw (le-leb 28 (length file) t.long, ← t.rows_told, ← t.columns_told, t.sides, t.within)

    pub contents-refused : contents_fit file rows columns ≡ false → record { answer = 4; rows = 0; columns = 0 } ≡ opened limit file
    unfolding opened
    contents-refused e = rw (contents-refusal, e)

    pub opens : contents_fit file rows columns ≡ true → record { answer = 0; rows = rows; columns = columns } ≡ opened limit file
    unfolding opened
    opens e = rw (contents-refusal, e, ← t.rows_told, ← t.columns_told)

  pub told-refused : (refusal : Refusal) → number_of refusal ≡ open_refusal limit file
      → record { answer = number_of refusal; rows = 0; columns = 0 } ≡ opened limit file
  unfolding opened
  told-refused refusal e = rw (← e, ne_eqb (number_of refusal) 0 (number-not-zero refusal))

-- ---- what an opened file tells
pub sides-within : (limit rows columns : ℕ) → sides_within limit rows columns ≡ true → (rows ≤ limit) × (columns ≤ limit)
unfolding sides_within
sides-within limit rows columns e =
    let both = (and-eq-true_iff (leb rows limit) (leb columns limit)).0 e in
    (leb-true rows limit both.0, leb-true columns limit both.1)

pub record Opens (limit : ℕ) (file : List ℕ) : Type 0 where
  pub long : 28 ≤ length file
  pub sides : sides_fit (rows_in file) (columns_in file) ≡ true
  pub within : sides_within limit (rows_in file) (columns_in file) ≡ true
  pub contents : contents_fit file (rows_in file) (columns_in file) ≡ true

pub refusal-none : (limit : ℕ) (file : List ℕ) → open_refusal limit file ≡ 0 → Opens limit file
unfolding open_refusal header_bytes
refusal-none limit file e =
    let one = passed (leb 28 (length file)) 1 _ (λ z. omega arith) e in
    let two = passed (sides_fit (rows_in file) (columns_in file)) 2 _ (λ z. omega arith) one.1 in
    let three = passed (sides_within limit (rows_in file) (columns_in file)) 3 _ (λ z. omega arith) two.1 in
    let four = passed (contents_fit file (rows_in file) (columns_in file)) 4 _ (λ z. omega arith) three.1 in
    record { long = leb-true 28 (length file) one.0; sides = two.0; within = three.0; contents = four.0 }

module _ (limit : ℕ) (file : List ℕ) where
  pub opened-accepted : open_refusal limit file ≡ 0
      → opened limit file ≡ record { answer = 0; rows = rows_in file; columns = columns_in file }
  unfolding opened
  opened-accepted e = rw e

  pub opened-refused : (open_refusal limit file ≡ 0 → ⊥)
      → opened limit file ≡ record { answer = open_refusal limit file; rows = 0; columns = 0 }
  unfolding opened
  opened-refused d = rw (ne_eqb (open_refusal limit file) 0 d)

-- opening gives zeros and a refusal, or rows and columns that passed the tests
pub data Outcome (limit : ℕ) (file : List ℕ) (o : Opened) : Type 0 where
  refused : (open_refusal limit file ≡ 0 → ⊥) → o ≡ record { answer = open_refusal limit file; rows = 0; columns = 0 }
      → Outcome limit file o
  accepted : o ≡ record { answer = 0; rows = rows_in file; columns = columns_in file } → Opens limit file → Outcome limit file o

pub outcome : (limit : ℕ) (file : List ℕ) (o : Opened) → o ≡ opened limit file → Outcome limit file o
outcome limit file o is = go (zero_or_not (open_refusal limit file))
  where
    go : (open_refusal limit file ≡ 0) ⊎ (open_refusal limit file ≡ 0 → ⊥) → Outcome limit file o
    go (inl e) = accepted (is ∙ opened-accepted limit file e) (refusal-none limit file e)
    go (inr d) = refused d (is ∙ opened-refused limit file d)

-- rows and columns are small either way
pub opened-small : (limit : ℕ) (file : List ℕ) (o : Opened) → o ≡ opened limit file → (o.rows ≤ 512) × (o.columns ≤ 512)
opened-small limit file o is = go (outcome limit file o is)
  where
    go : Outcome limit file o → (o.rows ≤ 512) × (o.columns ≤ 512)
    go (refused d e) =
        let r = ap (λ (x : Opened). x.rows) e in
        let c = ap (λ (x : Opened). x.columns) e in
        (omega arith, omega arith)
    go (accepted e h) =
        let r = ap (λ (x : Opened). x.rows) e in
        let c = ap (λ (x : Opened). x.columns) e in
        let range = sides (rows_in file) (columns_in file) h.sides in
        (omega (arith, range.rows_high), omega (arith, range.columns_high))

-- ---- a part of a file, as far as the file reaches
module _ (file : List ℕ) (p : Part) where
  pub part-reached : (m n : ℕ) → m ≡ min p.offset (length file)
      → n ≡ min p.size (length (take (length file - m) (drop m file)))
      → take n (take (length file - m) (drop m file)) ≡ bytes_in file p
  unfolding bytes_in
  part-reached m n em en =
      let rest = take (length file - m) (drop m file) in
      let whole : rest ≡ drop p.offset file =
      take_all (length file - m) (drop m file) (omega (arith, length-drop m file))
      ∙ ap (λ (k : ℕ). drop k file) em ∙ drop_min p.offset file in
      ap (λ (k : ℕ). take k rest) en ∙ take_min p.size rest ∙ ap (take p.size) whole
