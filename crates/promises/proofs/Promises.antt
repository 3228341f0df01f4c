-- The promises of the line code are kept.
use mathlib.Core.Path.{◌≡◌, refl, sym, ap, ◌∙◌, subst}
use mathlib.Core.Bool.{Bool, true, false, true≢false, cond}
use mathlib.Core.Logic.{◌⊎◌, inl, inr, ◌↔◌}
use mathlib.Core.List.{List, ◌++◌}
use Prim.Native.Nat.{ℕ, suc, ◌*◌, ◌≤◌, ◌<◌}
use native.Mathlib.Nat.{le_of_suc-le-suc}
use native.Mathlib.Decide.{dec_lt}
use native.Mathlib.Omega.{arith}
use lib.Bits.{bit_xor}
use lib.Dec.{T}
use lib.ListN.{length, get_or}
use Rattle.gf2.specs.Word.{Word, weight, distance, flip, same}
use Rattle.gf2.specs.Check.{divisible, crc}
use Rattle.gf2.specs.Generator.{generator}
use Rattle.gf2.proofs.Xor.{xor_comm}
use Rattle.gf2.proofs.Same.{same_refl, same-equal}
use Rattle.gf2.proofs.Crc.{divisible-crc}
use Rattle.gf2.proofs.Weight.{distance_self, distance-zero, length-flip, flip-flip, distance-flip, one-flip, OneFlip}
use Rattle.linecode.specs.Places.{data_places, line_places, bits_of, places, line_of}
use Rattle.linecode.specs.Code.{protected, accepted, with_hamming, codeword, Correct, positions, syndrome, answer_to}
use Rattle.linecode.specs.Reading.{Read, accepted_as, faulty, after_flip, corrected, first_look, mark_of, read_alone}
use Rattle.linecode.specs.Before.{accepted_before, corrected_before, read_before}
use Rattle.linecode.specs.Entry.{written, reading}
use Rattle.promises.specs.Promises.{ReadsAs, Promises}
use Rattle.linecode.specs.declared.hamming.Answer.{Answer}
use Rattle.linecode.specs.declared.hamming.Answer.TheVariants.{None, Hamming, Protected}
use Rattle.linecode.proofs.Bytes.{length-bits_of}
use Rattle.linecode.proofs.Line.{protected-is, data_is, places_is, places-line_of}
use Rattle.register.proofs.Slicing.{length-generator}
use Rattle.linecode.proofs.Codeword.{length-codeword, protected-flip}
use Rattle.linecode.proofs.Syndrome.{none-zero, none_above, none-exactly, position-named, power-named, column-position}
use Rattle.linecode.proofs.Answers.{numbered, hamming-power, place-named}
use Rattle.promises.proofs.CorrectTest.{tests}
use Rattle.linecode.proofs.ReadAlone.{read-accepted, read_answer, read_flip, in_bytes}
use Rattle.promises.proofs.Lines.{correct-length, codeword-correct, correct-rewritten, correct-accepted, correct-syndrome, near, correct-apart, accepted-correct, correct-xor}

holds : (b : Bool) → b ≡ true → T b
holds true e = tt
holds false e = absurd (true≢false (sym e))

-- ---- the mark of an accepted line
marked : (found fresh : Word) → mark_of found fresh ≤ 1
marked found fresh = go (same found fresh)
  where
    go : (b : Bool) → cond b 0 1 ≤ 1
    go true = omega arith
    go false = omega arith

-- ---- what a reading is, by the ways out of it
module _ (found : Word) where
  -- accepted, as a line at most one place away; or faulty, as found
  Read-cases : Type 0
  Read-cases =
      ((x : Word) × (read_alone found ≡ accepted_as found (with_hamming (protected x))) × T (accepted x) × (length x ≡ length found)
      × ((w : Word) → distance w x ≤ suc (distance w found)))
      ⊎ (read_alone found ≡ faulty found)

  read-cases : Read-cases
  unfolding Read-cases read_alone
  read-cases = first (accepted found) refl
    where
      second : (i : ℕ) (t : Bool) → accepted found ≡ false → answer_to (syndrome found) ≡ Protected i → accepted (flip i found) ≡ t
          → Read-cases
      second i true e n s =
          inl
          (flip i found, read_flip found i true e n s, holds (accepted (flip i found)) s, length-flip i found, λ w. distance-flip w found i)
      second i false e n s = inr (read_flip found i false e n s)

      answered : (a : Answer) → accepted found ≡ false → answer_to (syndrome found) ≡ a → Read-cases
      answered None e n = inr (read_answer found None e n)
      answered (Hamming k) e n = inr (read_answer found (Hamming k) e n)
      answered (Protected i) e n = second i (accepted (flip i found)) e n refl

      first : (b : Bool) → accepted found ≡ b → Read-cases
      first true e = inl (found, read-accepted found e, holds (accepted found) e, refl, λ w. omega arith)
      first false e = answered (answer_to (syndrome found)) e refl

reads_as : (w found fresh : Word) → read_alone found ≡ accepted_as found fresh → fresh ≡ w → ReadsAs w (read_alone found)
reads_as w found fresh e g =
    record {
      gives = ap (λ (r : Read). r.word) e ∙ g;
      accepted = subst (λ (n : ℕ). n ≤ 1) (sym (ap (λ (r : Read). r.mark) e)) (marked found fresh);
    }

detects : (w found : Word) → Correct w → length found ≡ line_places → distance w found ≤ 6
    → ReadsAs w (read_alone found) ⊎ ((read_alone found).mark ≡ 4)
unfolding Read-cases
detects w found c e d = go (read-cases found)
  where
    go : Read-cases found → ReadsAs w (read_alone found) ⊎ ((read_alone found).mark ≡ 4)
    go (inl p) =
        let within : distance w p.0 ≤ 7 = omega (arith, p.4 w) in
        inl (reads_as w found _ p.1 (near w p.0 c (p.3 ∙ e) within p.2))
    go (inr q) = inr (ap (λ (r : Read). r.mark) q)

kept : (found : Word) → (read_alone found).mark ≡ 4 → (read_alone found).word ≡ found
unfolding Read-cases
kept found m = go (read-cases found)
  where
    go : Read-cases found → (read_alone found).word ≡ found
    go (inl p) =
        let four : mark_of found (with_hamming (protected p.0)) ≡ 4 = sym (ap (λ (r : Read). r.mark) p.1) ∙ m in
        let z : ⊥ = omega (arith, marked found (with_hamming (protected p.0))) in
        absurd z
    go (inr q) = ap (λ (r : Read). r.word) q

sound : (found : Word) → length found ≡ line_places
    → ((read_alone found).mark ≡ 4) ⊎ (((read_alone found).mark ≤ 1) × Correct (read_alone found).word)
unfolding Read-cases
sound found e = go (read-cases found)
  where
    go : Read-cases found → ((read_alone found).mark ≡ 4) ⊎ (((read_alone found).mark ≤ 1) × Correct (read_alone found).word)
    go (inl p) =
        inr (
          subst (λ (n : ℕ). n ≤ 1) (sym (ap (λ (r : Read). r.mark) p.1)) (marked found (with_hamming (protected p.0))),
          subst Correct (sym (ap (λ (r : Read). r.word) p.1)) (accepted-correct p.0 (p.3 ∙ e) p.2),
        )
    go (inr q) = inl (ap (λ (r : Read). r.mark) q)

marks : (found : Word) → ((read_alone found).mark ≤ 1) ⊎ ((read_alone found).mark ≡ 4)
unfolding Read-cases
marks found = go (read-cases found)
  where
    go : Read-cases found → ((read_alone found).mark ≤ 1) ⊎ ((read_alone found).mark ≡ 4)
    go (inl p) = inl (subst (λ (n : ℕ). n ≤ 1) (sym (ap (λ (r : Read). r.mark) p.1)) (marked found (with_hamming (protected p.0))))
    go (inr q) = inr (ap (λ (r : Read). r.mark) q)

-- ---- one damaged place
module _ (w : Word) (c : Correct w) where
  whole : length w ≡ line_places
  whole = correct-length w c

  -- at a protected place the syndrome names it, and the flip gives the line back
  flipped : (i : ℕ) → i < 543 → accepted (flip i w) ≡ false → ReadsAs w (read_alone (flip i w))
  flipped i h e =
      reads_as w (flip i w) _ (read_flip (flip i w) i true e names (ap accepted (flip-flip i w) ∙ correct-accepted w c))
      (ap (λ (x : Word). with_hamming (protected x)) (flip-flip i w) ∙ correct-rewritten w c)
    where
      names : answer_to (syndrome (flip i w)) ≡ Protected i
      names = ap answer_to (column-position w i whole h ∙ ap (λ (s : ℕ). bit_xor s (get_or positions i 0)) (correct-syndrome w c)) ∙ position-named i h

  -- in the Hamming bits the protected word is untouched
  untouched : (i : ℕ) → 543 ≤ i → accepted (flip i w) ≡ true
  unfolding accepted
  untouched i h = ap (divisible generator) (protected-flip w whole i (omega (arith, protected-is))) ∙ correct-accepted w c

pub corrects : (w found : Word) → Correct w → length found ≡ line_places → distance w found ≤ 1 → ReadsAs w (read_alone found)
corrects w found c e d = go (accepted found) refl
  where
    hurt : (i : ℕ) → found ≡ flip i w → accepted found ≡ false → Dec (i < 543) → ReadsAs w (read_alone found)
    hurt i q f (yes h) =
        subst (λ (x : Word). ReadsAs w (read_alone x)) (sym q) (flipped w c i h (ap accepted (sym q) ∙ f))
    hurt i q f (no h) =
        absurd (true≢false (sym (untouched w c i (omega arith)) ∙ ap accepted (sym q) ∙ f))

    missed : accepted found ≡ false → OneFlip found w → ReadsAs w (read_alone found)
    missed f (inl q) = absurd (true≢false (sym (correct-accepted w c) ∙ ap accepted (sym q) ∙ f))
    missed f (inr p) = hurt p.0 p.2 f (dec_lt p.0 543)

    go : (b : Bool) → accepted found ≡ b → ReadsAs w (read_alone found)
    go true f =
        reads_as w found _ (read-accepted found f) (near w found c e (omega arith) (holds (accepted found) f))
    go false f =
        missed f (one-flip found w (e ∙ sym (correct-length w c)) (subst (λ (n : ℕ). n ≤ 1) (ap weight (xor_comm w found)) d))

-- ---- marks 0 and 1
-- a correct line reads as itself with mark 0
read-correct : (w : Word) → Correct w → read_alone w ≡ record { word = w; mark = 0 }
read-correct w c =
    read-accepted w (correct-accepted w c)
    ∙ ap (accepted_as w) (correct-rewritten w c)
    ∙ ap (λ (b : Bool). record { word = w; mark = cond b 0 1 }) (same_refl w)

-- what is read with mark 0 is the line found, and a correct line
clean-only : (found : Word) → length found ≡ line_places → (read_alone found).mark ≡ 0 → Correct found
unfolding Read-cases
clean-only found e m = go (read-cases found)
  where
    as-found : (x : Word) (b : Bool) → same found x ≡ b → ◌≡◌ {A = ℕ} (cond b 0 1) 0 → Correct x → Correct found
    as-found x true s z c = subst Correct (sym (same-equal found x (holds _ s))) c
    as-found x false s z c = let z : ⊥ = omega arith in absurd z

    go : Read-cases found → Correct found
    go (inl p) =
        as-found (with_hamming (protected p.0)) _ refl (sym (ap (λ (r : Read). r.mark) p.1) ∙ m)
        (accepted-correct p.0 (p.3 ∙ e) p.2)
    go (inr q) = let four : (read_alone found).mark ≡ 4 = ap (λ (r : Read). r.mark) q in let z : ⊥ = omega arith in absurd z

clean : (found : Word) → length found ≡ line_places → ((read_alone found).mark ≡ 0) ↔ Correct found
clean found e = (clean-only found e, λ c. ap (λ (r : Read). r.mark) (read-correct found c))

rewritten : (found : Word) → length found ≡ line_places
    → ((read_alone found).mark ≡ 1) ↔ (((read_alone found).mark ≡ 4 → ⊥) × (1 ≤ distance found (read_alone found).word))
rewritten found e = (λ m. (λ four. omega arith, differs m (sound found e)), λ p. back p.0 p.1 (marks found))
  where
    as-found : Correct found → ((read_alone found).mark ≡ 0) × ((read_alone found).word ≡ found)
    as-found c = (ap (λ (r : Read). r.mark) (read-correct found c), ap (λ (r : Read). r.word) (read-correct found c))

    -- read as found, it would be correct, and so have mark 0
    differs : (read_alone found).mark ≡ 1 → ((read_alone found).mark ≡ 4) ⊎ (((read_alone found).mark ≤ 1) × Correct (read_alone found).word)
        → 1 ≤ distance found (read_alone found).word
    differs m (inl four) = let z : ⊥ = omega arith in absurd z
    differs m (inr p) = go (dec_lt 0 (distance found (read_alone found).word))
      where
        go : Dec (0 < distance found (read_alone found).word) → 1 ≤ distance found (read_alone found).word
        go (yes h) = omega arith
        go (no h) =
            let q = distance-zero found (read_alone found).word (e ∙ sym (correct-length _ p.1)) (omega arith) in
            let z : ⊥ = omega (arith, (as-found (subst Correct (sym q) p.1)).0) in
            absurd z

    back : ((read_alone found).mark ≡ 4 → ⊥) → 1 ≤ distance found (read_alone found).word
        → ((read_alone found).mark ≤ 1) ⊎ ((read_alone found).mark ≡ 4) → (read_alone found).mark ≡ 1
    back h d (inr four) = absurd (h four)
    back h d (inl small) = go (dec_lt 0 (read_alone found).mark)
      where
        go : Dec (0 < (read_alone found).mark) → (read_alone found).mark ≡ 1
        go (yes k) = omega arith
        go (no k) =
            let same = (as-found (clean-only found e (omega arith))).1 in
            let z : ⊥ = omega (arith, ap (distance found) same ∙ distance_self found) in
            absurd z

hamming_hurt : (w found : Word) → Correct w → length found ≡ line_places → protected found ≡ protected w → 1 ≤ distance w found
    → read_alone found ≡ record { word = w; mark = 1 }
unfolding accepted
hamming_hurt w found c e p d =
    read-accepted found (ap (divisible generator) p ∙ correct-accepted w c)
    ∙ ap (accepted_as found) (ap with_hamming p ∙ correct-rewritten w c)
    ∙ go (same found w) refl
  where
    go : (b : Bool) → same found w ≡ b → ◌≡◌ {A = Read} (record { word = w; mark = cond b 0 1 }) (record { word = w; mark = 1 })
    go true s =
        let z : ⊥ = omega (arith, ap (distance w) (same-equal found w (holds _ s)) ∙ distance_self w) in
        absurd z
    go false s = refl

before : (found : Word) → ((read_before found).word ≡ (read_alone found).word)
    × (((read_before found).mark ≡ (read_alone found).mark) ⊎ (((read_before found).mark ≤ 1) × ((read_alone found).mark ≤ 1)))
unfolding read_before read_alone
before found = first (accepted found)
  where
    Alike : Read → Read → Type 0
    Alike r s = (r.word ≡ s.word) × ((r.mark ≡ s.mark) ⊎ ((r.mark ≤ 1) × (s.mark ≤ 1)))

    second : (i : ℕ) (b : Bool)
        → Alike (cond b (accepted_before 1 (flip i found)) (faulty found)) (after_flip b (flip i found) found)
    second i true = (refl, inr (omega arith, marked found _))
    second i false = (refl, inl refl)

    answered : (a : Answer) → Alike (corrected_before a found) (corrected a found)
    answered None = (refl, inl refl)
    answered (Hamming k) = (refl, inl refl)
    answered (Protected i) = second i (accepted (flip i found))

    first : (b : Bool)
        → Alike (cond b (accepted_before 0 found) (corrected_before (answer_to (syndrome found)) found)) (first_look b found)
    first true = (refl, inr (omega arith, marked found _))
    first false = answered (answer_to (syndrome found))

before_mark : (found : Word) → (accepted found ≡ true → (read_before found).mark ≡ 0)
    × (accepted found ≡ false → ((read_before found).mark ≡ 1) ⊎ ((read_before found).mark ≡ 4))
unfolding read_before
before_mark found = ((λ e. rw e), λ e. rw e (answered (answer_to (syndrome found))))
  where
    second : (i : ℕ) (b : Bool)
        → let r = cond b (accepted_before 1 (flip i found)) (faulty found) in (r.mark ≡ 1) ⊎ (r.mark ≡ 4)
    second i true = inl refl
    second i false = inr refl

    answered : (a : Answer) → ((corrected_before a found).mark ≡ 1) ⊎ ((corrected_before a found).mark ≡ 4)
    answered None = inr refl
    answered (Hamming k) = inr refl
    answered (Protected i) = second i (accepted (flip i found))

-- ---- writing and reading in bytes
writes : (payload : List ℕ) → length payload ≡ 64
    → Correct (places (written payload)) × (reading (written payload) ≡ record { line = written payload; mark = 0 })
unfolding written
writes payload e = (
  subst Correct (sym back) correct,
  sym (in_bytes (line_of word) (record { word = word; mark = 0 }) (ap read_alone back ∙ read-correct word correct)),
)
  where
    full : length (bits_of payload) ≡ data_places
    full = length-bits_of payload ∙ ap (λ (n : ℕ). 8 * n) e ∙ sym data_is

    word : Word
    word = codeword (bits_of payload)

    correct : Correct word
    correct = codeword-correct (bits_of payload) full

    long : length word ≡ line_places
    long = length-codeword (bits_of payload) full

    back : places (line_of word) ≡ word
    back = places-line_of word (omega (arith, long, places_is)) (omega (arith, long, places_is)) long

spare : (line other : List ℕ) → places line ≡ places other → reading line ≡ reading other
unfolding reading
spare line other e = ap (λ (w : Word). record { line = line_of (read_alone w).word; mark = (read_alone w).mark }) e

only : (d check : Word) → length check ≡ 31 → T (divisible generator (d ++ check)) ↔ (check ≡ crc generator d)
only d check e = (
  λ (t : T (divisible generator (d ++ check))). sym (same-equal (crc generator d) check (subst T same-crc t)),
  λ (q : check ≡ crc generator d).
      subst T (sym (same-crc ∙ ap (same (crc generator d)) q ∙ same_refl (crc generator d))) tt,
)
  where
    same-crc : divisible generator (d ++ check) ≡ same (crc generator d) check
    same-crc = divisible-crc generator d check (e ∙ sym length-generator)

none : (s : ℕ) → (answer_to s ≡ None) ↔ ((s ≡ 0) ⊎ (553 < s))
none s = (none-exactly s, back)
  where
    back : (s ≡ 0) ⊎ (553 < s) → answer_to s ≡ None
    back (inl e) = ap answer_to e ∙ none-zero
    back (inr h) = none_above s h

pub promises : Promises
promises =
    record {
      sized = correct-length;
      apart = λ w v c k d. correct-apart w v c k (le_of_suc-le-suc d);
      summed = correct-xor;
      corrects = corrects;
      detects = detects;
      kept = kept;
      sound = sound;
      marks = marks;
      clean = clean;
      rewritten = rewritten;
      hamming_hurt = hamming_hurt;
      before = before;
      before_mark = before_mark;
      tests = tests;
      writes = writes;
      spare = spare;
      only = only;
      none = none;
      numbered = λ s h. numbered s (omega arith);
      powers = λ s k. (
        λ e. (omega (arith, (hamming-power s k e).0), (hamming-power s k e).1),
        λ p. ap answer_to p.1 ∙ power-named k (omega arith),
      );
      named = λ s l h. place-named s (omega arith) (omega arith);
    }
