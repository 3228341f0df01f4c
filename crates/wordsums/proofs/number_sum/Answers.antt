-- `wordsums::number_sum` meets its contract. Each call is a step of the form, and the form is the sum.
use mathlib.Core.Path.{refl, ap₂, ◌∙◌}
use Rattle.wordsums.proofs.WordSums.{nibbles_form, nibbles_by, high_by, low_by, sum_by, folded-step, added-step, paired-step, sum-words}
use Rattle.wordsums.proofs.number_sum.Goals as goal

pub returns : goal.returns
unfolding sum_by high_by low_by nibbles_by
returns c =
    let x = paired-step 32 0xffffffff 0xffffffff00000000 (refl {a = c.args.b6}) (refl {a = c.args.b8}) c.paired-x.ensures in
    let y = paired-step 32 0xffffffff 0xffffffff00000000 (refl {a = c.args.b7}) (refl {a = c.args.b9}) c.paired-y.ensures in
    let z = paired-step 16 0x0000ffff0000ffff 0xffff0000ffff0000 x y c.paired-z.ensures in
    let nibbles = folded-step 4 0x000f000f000f000f (folded-step 8 0x00ff00ff00ff00ff z c.folded.ensures) c.folded-nibbles.ensures in
    let high = folded-step 24 0xffff (folded-step 12 0xff000000ff nibbles c.folded-2.ensures) c.folded-high.ensures in
    let s = added-step 16 0x0000ffff0000ffff (added-step 32 0xffffffff (refl {a = c.args.all}) c.added.ensures) c.added-s.ensures in
    let low = added-step 4 0x0f0f0f0f0f (added-step 8 0x00ff00ff00ff00ff s c.added-2.ensures) c.added-low.ensures in
    let n = ap₂ nibbles_form low high in
    let parities = folded-step 1 0x1111111111 (folded-step 2 0x3333333333 n c.folded-3.ensures) c.folded-parities.ensures in
    let fives = folded-step 6 0x3000f000f (folded-step 3 0x0303030303 parities c.folded-4.ensures) c.folded-fives.ensures in
    folded-step 24 0x3ff (folded-step 12 0x3000000ff fives c.folded-5.ensures) c.folded-6.ensures
    ∙ sum-words c.args.all c.args.b6 c.args.b7 c.args.b8 c.args.b9
    (c.ranges.all.fits, (c.ranges.b6.fits, (c.ranges.b7.fits, (c.ranges.b8.fits, tt)))) c.ranges.b9.fits
