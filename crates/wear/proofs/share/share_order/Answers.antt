-- `wear::share::share_order` meets its contract.
use Rattle.tour.specs.Share.{share_order}
use Rattle.wear.proofs.Products.{rebuilt-fits, out-of-fits, order_is}
use Rattle.wear.proofs.share.share_order.Goals as goal

pub product-first-requires : goal.product-first-requires
product-first-requires c = (rebuilt-fits _ c.requires.0, rw c.out_of.ensures (out-of-fits _ c.requires.1))

pub product-second-requires : goal.product-second-requires
product-second-requires c = (rebuilt-fits _ c.requires.1, rw c.out_of-2.ensures (out-of-fits _ c.requires.0))

pub returns : goal.returns
unfolding share_order
returns c =
    rw (← c.out_of.ensures, ← c.out_of-2.ensures, ← c.product-first.ensures, ← c.product-second.ensures) (order_is _ _ _ c.cmp.ensures)
