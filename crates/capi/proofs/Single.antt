-- Writing and reading one line into a lent buffer: the definitions, case by case.
use mathlib.Core.Path.{◌≡◌, sym, ap, ap₂, ◌∙◌}
use mathlib.Core.Bool.{Bool, cond}
use mathlib.Core.List.{List}
use Prim.Native.Nat.{ℕ, ◌+◌, ◌≤◌, ◌<◌}
use native.Mathlib.Omega.{arith}
use borrow.Author.Tests.{eq-eqb, ne_eqb}
use lib.Dec.{T, eqb, ltb, ltb→lt}
use lib.ListN.{length, get_or, set}
use lib.Seq.{paste}
use Rattle.linecode.specs.Places.{data_bytes, line_bytes, loaded}
use Rattle.linecode.specs.Entry.{written, reading}
use Rattle.linecode.specs.declared.alone.Reading.{Reading}
use Rattle.linecode.proofs.Loading.{copy_step, copied-over}
use Rattle.promises.proofs.LineLayout.{layout}
use Rattle.capi.specs.Single.{Written, Answered, if_faulty, write_refusal, read_refusal, write_line, read_line}

-- ---- storing a line
-- the last six bytes over those of the buffer, one by one
pub last-six : (d s l : List ℕ) (i : ℕ) → length d ≡ 70 → length s ≡ 70 → i ≤ 64 → 64 ≤ i → l ≡ paste d 0 s i
    → set (set (set (set (set (set l 64 (get_or s 64 0)) 65 (get_or s 65 0)) 66 (get_or s 66 0)) 67 (get_or s 67 0)) 68 (get_or s 68 0)) 69
    (get_or s 69 0)
    ≡ s
last-six d s l i e f h k q = copied-over d s _ 70 70 e f (omega arith) (omega arith) (put 69 tt (put 68 tt (put 67 tt (put 66 tt (put 65 tt (put 64 tt start))))))
  where
    start : l ≡ paste d 0 s 64
    start = let all : i ≡ 64 = omega arith in q ∙ ap (paste d 0 s) all

    put : {m : List ℕ} (j : ℕ) → T (ltb j 70) → m ≡ paste d 0 s j → set m j (get_or s j 0) ≡ paste d 0 s (j + 1)
    put {m} j t r = let h : j < 70 = ltb→lt j 70 t in copy_step d s m j (omega arith) (omega arith) r

-- ---- writing
module _ (payload line : List ℕ) where
  -- a refusal writes nothing
  pub write-refused : (r : ℕ) → write_refusal payload line ≡ r → (r ≡ 0 → ⊥)
      → ◌≡◌ {A = Written} (record { answer = r; line = line }) (write_line payload line)
  unfolding write_line
  write-refused r e d = rw (e, ne_eqb r 0 d)

  pub write-no-data : (length payload ≡ 64 → ⊥) → write_refusal payload line ≡ 7
  unfolding write_refusal data_bytes
  write-no-data h = rw (ne_eqb (length payload) 64 h)

  pub write-no-room : length payload ≡ 64 → (length line ≡ 70 → ⊥) → write_refusal payload line ≡ 7
  unfolding write_refusal data_bytes line_bytes
  write-no-room e h = rw (eq-eqb (length payload) 64 e, ne_eqb (length line) 70 h)

  pub no_data_refused : (length payload ≡ 64 → ⊥) → ◌≡◌ {A = Written} (record { answer = 7; line = line }) (write_line payload line)
  no_data_refused h = write-refused 7 (write-no-data h) (λ z. omega arith)

  pub no_room_refused : length payload ≡ 64 → (length line ≡ 70 → ⊥)
      → ◌≡◌ {A = Written} (record { answer = 7; line = line }) (write_line payload line)
  no_room_refused e h = write-refused 7 (write-no-room e h) (λ z. omega arith)

  pub write-given : (l : List ℕ) → length payload ≡ 64 → length line ≡ 70 → l ≡ written payload
      → ◌≡◌ {A = Written} (record { answer = 0; line = l }) (write_line payload line)
  unfolding write_line write_refusal data_bytes line_bytes
  write-given l e room p =
      ap (λ (x : List ℕ). record { answer = 0; line = x }) p
      ∙ rw (eq-eqb (length payload) 64 e, eq-eqb (length line) 70 room)

-- ---- reading alone
module _ (line out : List ℕ) where
  pub read-refused : (r : ℕ) → read_refusal line out ≡ r → (r ≡ 0 → ⊥)
      → ◌≡◌ {A = Answered} (record { answer = r; line = out; mark = 0 }) (read_line line out)
  unfolding read_line
  read-refused r e d = rw (e, ne_eqb r 0 d)

  pub read-no-line : (length line ≡ 70 → ⊥) → read_refusal line out ≡ 5
  unfolding read_refusal line_bytes
  read-no-line h = rw (ne_eqb (length line) 70 h)

  pub read-no-room : length line ≡ 70 → (length out ≡ 70 → ⊥) → read_refusal line out ≡ 7
  unfolding read_refusal line_bytes
  read-no-room e h = rw (eq-eqb (length line) 70 e, ne_eqb (length out) 70 h)

  -- what is read of the line as it was loaded
  pub read-loaded : (l : List ℕ) (r : Reading) → length line ≡ 70 → l ≡ loaded line → r ≡ reading l → r ≡ reading line
  read-loaded l r e q f = f ∙ ap reading (q ∙ layout.whole line e)

  -- what was read, with the answer that its mark gives
  pub read-given : (a : ℕ) (l : List ℕ) (m : ℕ) → length line ≡ 70 → length out ≡ 70 → l ≡ (reading line).line → m ≡ (reading line).mark
      → a ≡ cond (eqb m 4) 10 0 → ◌≡◌ {A = Answered} (record { answer = a; line = l; mark = m }) (read_line line out)
  unfolding read_line read_refusal line_bytes
  read-given a l m e room f g h =
      ap (λ (x : ℕ). record { answer = x; line = l; mark = m }) h
      ∙ ap₂ (λ (x : List ℕ) (y : ℕ). if_faulty (record { line = x; mark = y })) f g
      ∙ rw (eq-eqb (length line) 70 e, eq-eqb (length out) 70 room)

pub faulty-answer : (m : ℕ) → m ≡ 4 → ◌≡◌ {A = ℕ} 10 (cond (eqb m 4) 10 0)
faulty-answer m e = ap (λ (b : Bool). cond {A = ℕ} b 10 0) (sym (eq-eqb m 4 e))

pub accepted-answer : (m : ℕ) → (m ≡ 4 → ⊥) → ◌≡◌ {A = ℕ} 0 (cond (eqb m 4) 10 0)
accepted-answer m h = ap (λ (b : Bool). cond {A = ℕ} b 10 0) (sym (ne_eqb m 4 h))
