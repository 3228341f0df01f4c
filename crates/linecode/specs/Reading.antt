-- Document 01, "Reading alone" (document 000, III-C), with the marks as request Q-1 has them.
use Rattle.std.specs.Prelude.{Bool, true, false, cond, ℕ}
use Rattle.gf2.specs.Word.{Word, flip, same}
use Rattle.linecode.specs.Code.{protected, accepted, with_hamming, syndrome, answer_to}
use Rattle.linecode.specs.declared.hamming.Answer.{Answer}
use Rattle.linecode.specs.declared.hamming.Answer.TheVariants.{None, Hamming, Protected}

-- a line's places as read, with its mark
pub record Read : Type 0 where
  pub word : Word
  pub mark : ℕ

-- the mark of an accepted line: 0 correct as found, 1 where any of its places was rewritten
abbrev pub mark_of : Word → Word → ℕ
mark_of found fresh = cond (same found fresh) 0 1

-- accepted, as written afresh
abbrev pub accepted_as : Word → Word → Read
accepted_as found fresh = record { word = fresh; mark = mark_of found fresh }

-- faulty: kept as found
abbrev pub faulty : Word → Read
faulty w = record { word = w; mark = 4 }

-- the second look at the CRC, after the flip: Hamming bits written afresh too
abbrev pub after_flip : Bool → Word → Word → Read
after_flip true flipped w = accepted_as w (with_hamming (protected flipped))
after_flip false flipped w = faulty w

-- the corrector: where the syndrome names a protected place, flip it
abbrev pub corrected : Answer → Word → Read
corrected None w = faulty w
corrected (Hamming k) w = faulty w
corrected (Protected i) w = after_flip (accepted (flip i w)) (flip i w) w

-- the first look: a divisible word is accepted, its Hamming bits written afresh
abbrev pub first_look : Bool → Word → Read
first_look true w = accepted_as w (with_hamming (protected w))
first_look false w = corrected (answer_to (syndrome w)) w

unfoldable pub read_alone : Word → Read
read_alone w = first_look (accepted w) w
