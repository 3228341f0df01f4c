-- Reading alone as it was before request Q-1, for comparison alone: no function goes by it. Mark 0 told that the protected word was
-- untouched, mark 1 that a place was flipped.
use Rattle.std.specs.Prelude.{cond, ℕ}
use Rattle.gf2.specs.Word.{Word, flip}
use Rattle.linecode.specs.Code.{protected, accepted, with_hamming, syndrome, answer_to}
use Rattle.linecode.specs.Reading.{Read, faulty}
use Rattle.linecode.specs.declared.hamming.Answer.{Answer}
use Rattle.linecode.specs.declared.hamming.Answer.TheVariants.{None, Hamming, Protected}

-- accepted with a mark, Hamming bits written afresh
abbrev pub accepted_before : ℕ → Word → Read
accepted_before mark w = record { word = with_hamming (protected w); mark = mark }

-- the corrector and the second look: mark 1 after a flip
abbrev pub corrected_before : Answer → Word → Read
corrected_before None w = faulty w
corrected_before (Hamming k) w = faulty w
corrected_before (Protected i) w = cond (accepted (flip i w)) (accepted_before 1 (flip i w)) (faulty w)

-- the first look: mark 0 for every divisible word
unfoldable pub read_before : Word → Read
read_before w = cond (accepted w) (accepted_before 0 w) (corrected_before (answer_to (syndrome w)) w)
