-- `wordsums::hamming_bits` meets its contract: each place stands at its position, and the numbers there are summed.
use mathlib.Core.Path.{refl, ◌∙◌}
use mathlib.Core.List.{[], ◌∷◌}
use lib.ListN.{get_or}
use Rattle.wordsums.proofs.WordSums.{spread_by, across_by, position-words}
use Rattle.wordsums.proofs.hamming_bits.Goals as goal

pub returns : goal.returns
unfolding spread_by across_by
returns c =
    c.number_sum.ensures
    ∙ position-words
    (get_or c.args.data.now 0 0 ∷ get_or c.args.data.now 1 0 ∷ get_or c.args.data.now 2 0 ∷ get_or c.args.data.now 3 0 ∷ get_or c.args.data.now 4 0 ∷ get_or c.args.data.now 5 0 ∷ get_or c.args.data.now 6 0 ∷ get_or c.args.data.now 7 0 ∷ []) refl
    (c.fits-data 0, (c.fits-data 1, (c.fits-data 2, (c.fits-data 3, (c.fits-data 4, (c.fits-data 5, (c.fits-data 6, (c.fits-data 7, tt))))))))
    c.args.c c.ranges.c.fits
