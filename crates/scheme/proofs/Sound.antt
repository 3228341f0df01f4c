-- Repair leaves correct lines, whatever was found: reading accepts correct lines only, and a line rebuilt from correct ones is correct
-- under its own address.
use mathlib.Core.Path.{◌≡◌, refl, ap, ◌∙◌}
use mathlib.Core.Bool.{Bool, true, false, not}
use mathlib.Core.List.{List, [], ◌∷◌, map}
use Prim.Native.Nat.{ℕ, ◌<◌}
use borrow.Author.Tests.{ne_eqb}
use lib.Bits.{bit_xor, xor_zero_r, xor_comm, xor_self}
use lib.Dec.{eqb}
use lib.ListN.{length}
use Rattle.gf2.specs.Word.{Word, ◌⊕◌}
use Rattle.gf2.proofs.Digits.{bit_xor-assoc}
use Rattle.gf2.proofs.Xor.{xor-nil}
use Rattle.gf2.proofs.Weight.{length-flip}
use Rattle.scheme.specs.Layer.{Cell, Layer, read_line, CorrectLine, parity_address, Promises}
use Rattle.scheme.specs.Visit.{Group, State, cell_at, line_at, is_faulty, without, sum}
use Rattle.scheme.specs.Repair.{read_all, repair}
use Rattle.scheme.specs.Parity.{read_parity, unusable, as_read, parity_after}
use Rattle.scheme.specs.Demand3.{◌∈◌, Rising, word_at}
use Rattle.scheme.specs.Sound.{AllPlaces, SoundParities, RepairSound}
use Rattle.scheme.proofs.Lists.{selected, map-from}
use Rattle.scheme.proofs.Sums.{total-split}
use Rattle.scheme.proofs.Written.{parity-correct}
use Rattle.scheme.proofs.Grows.{none-counted}
use Rattle.scheme.proofs.Every.{Every, Tried, Rebuilt, every-passes}
use Rattle.scheme.proofs.Stays.{first-reading-at}
use Rattle.scheme.proofs.Width.{read-width}
use Rattle.scheme.proofs.Parity.{without-lines}
use Rattle.scheme.proofs.Used.{usable, left-accepted, left-afresh, reads-correct, accepted-correct}

module _ (layer : Layer) (promises : Promises layer) where
  -- the parity line and the other lines of a group give the address of line n
  address-left : (n : ℕ) (ns : List ℕ) → Rising ns → n ∈ ns
      → bit_xor (parity_address layer ns) (parity_address layer (without n ns)) ≡ layer.address n
  address-left n ns r h =
      ap (λ (a : ℕ). bit_xor a others)
      (total-split bit_xor bit_xor-assoc xor_comm layer.address (parity_address layer) (λ m ms. refl) n ns r h)
      ∙ bit_xor-assoc (layer.address n) others others ∙ ap (bit_xor (layer.address n)) (xor_self others)
      ∙ xor_zero_r (layer.address n)
    where
      others : ℕ
      others = parity_address layer (without n ns)

  -- correct lines added to a correct one
  added-correct : (a : ℕ) (w : Word) → layer.Correct a w → (line : ℕ → Word) (ns : List ℕ)
      → ((m : ℕ) → m ∈ ns → CorrectLine layer m (line m)) → layer.Correct (bit_xor a (parity_address layer ns)) (w ⊕ sum line ns)
  added-correct a w c line [] h = rw (xor_zero_r a, xor-nil w) c
  added-correct a w c line (n ∷ ns) h = promises.summed a _ w _ c (parity-correct layer promises line n ns h)

  -- the sum of some correct lines
  some-correct : (line : ℕ → Word) (ns : List ℕ) (n : ℕ) → n ∈ ns → ((m : ℕ) → m ∈ ns → CorrectLine layer m (line m))
      → layer.Correct (parity_address layer ns) (sum line ns)
  some-correct line [] n i h = absurd i
  some-correct line (m ∷ ns) n i h = parity-correct layer promises line m ns h

  module _ (gs : List Group) (found : List Word) (all : AllPlaces layer gs found) where
    -- a line has all places, and is correct unless it is faulty
    abbrev Fine : ℕ → Cell → Type 0
    Fine n c = n < length found → (length c.line ≡ layer.width) × (is_faulty c ≡ false → CorrectLine layer n c.line)

    read-fine : Every Fine (read_all (read_line layer) 0 found)
    read-fine n h =
        rw (first-reading-at (read_line layer) found n h) (
          read-width layer promises (layer.address n) (word_at found n) (all.lines n h),
          reads-correct layer promises (layer.address n) (word_at found n) (all.lines n h),
        )

    tried-fine : Tried (read_line layer) Fine
    tried-fine n p c e f i h =
        let correct = reads-correct layer promises (layer.address n) _ (length-flip p c.line ∙ (f h).0) i in
        (promises.sized _ _ correct, λ d. correct)

    rebuilt-fine : (g : Group) → g ∈ gs → Rebuilt (as_read layer g) Fine
    rebuilt-fine g i = go (unusable layer g) refl
      where
        correct : unusable layer g ≡ false → (s : State) → Every Fine s → (n : ℕ) → n ∈ g.members
            → ((m : ℕ) → m ∈ without n g.members → is_faulty (cell_at s m) ≡ false)
            → CorrectLine layer n ((read_parity layer g).line ⊕ sum (line_at s) (without n g.members))
        correct e s f n h others =
            rw (address-left n g.members (all.rising g i) h) at
            (added-correct _ _ (accepted-correct layer promises g (all.parities g i) e) (line_at s) (without n g.members)
            (λ m j. (f m (all.inside g i m (selected (λ k. not (eqb k n)) g.members m j).0)).1 (others m j)))

        go : (b : Bool) → unusable layer g ≡ b → Rebuilt (as_read layer g) Fine
        go true e = rw (without-lines layer g e) (λ s f n h. absurd h)
        go false e =
            rw (usable layer g e)
            (λ s f n h faulty others l.
            let c = correct e s f n h others in
            (promises.sized _ _ c, λ d. c))

    end-fine : Every Fine (repair (read_line layer) (map (as_read layer) gs) found).cells
    unfolding repair
    end-fine =
        every-passes Fine (read_line layer) tried-fine (map (as_read layer) gs)
        (λ h j. let g = map-from (as_read layer) gs h j in rw g.2 (rebuilt-fine g.0 g.1)) _ read-fine

    parities-sound : SoundParities layer gs (repair (read_line layer) (map (as_read layer) gs) found).cells
    parities-sound none g i n h = go (unusable layer g) refl
      where
        s : State
        s = (repair (read_line layer) (map (as_read layer) gs) found).cells

        go : (b : Bool) → unusable layer g ≡ b → layer.Correct (parity_address layer g.members) (parity_after layer s g)
        go false e = rw (left-accepted layer s g e) (accepted-correct layer promises g (all.parities g i) e)
        go true e =
            rw (left-afresh layer s g e none)
            (some-correct (line_at s) g.members n h (λ m j. (end-fine m (all.inside g i m j)).1 (none-counted s none m)))

    -- every line that is left has all places
    pub left-places : (n : ℕ) → n < length found
        → length (line_at (repair (read_line layer) (map (as_read layer) gs) found).cells n) ≡ layer.width
    left-places n h = (end-fine n h).0

  pub repair-sound : RepairSound layer
  repair-sound =
      record { lines = λ gs found all n h d. (end-fine gs found all n h).1 (ne_eqb _ 4 d); parities = parities-sound }
