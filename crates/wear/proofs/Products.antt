-- A report's numbers, the product of two numbers, and the order of two.
use mathlib.Core.Path.{◌≡◌, sym}
use mathlib.Core.Bool.{Bool, true, false, cond}
use Prim.Native.Nat.{ℕ, ◌*◌, ◌≤◌, ◌<◌, ◌^◌}
use native.Mathlib.Nat.{mul-le-mul}
use native.Mathlib.Omega.{arith}
use lib.Dec.{eqb}
use Rattle.std.specs.Ordering.{nat_cmp}
use Rattle.std.proofs.lemmas.Cmp.{ranked}
use Rattle.std.specs.declared.cmp.Ordering.{Ordering}
use Rattle.std.specs.declared.cmp.Ordering.TheVariants.{Less, Equal, Greater}
use Rattle.tour.specs.Adding.{is_report}
use Rattle.tour.specs.Share.{order_number, order_of, out_of}
use Rattle.tour.specs.declared.Wear as Declared
use Rattle.tour.proofs.Refused.{is-report}
use Rattle.tour.proofs.Shares.{order_same, order-less, order-more}

pub product_fits : (x y : ℕ) → x < 2 ^ 64 → y < 2 ^ 64 → x * y < 2 ^ 128
product_fits x y h k =
    let a : x ≤ 18446744073709551615 = omega arith in
    let b : y ≤ 18446744073709551615 = omega arith in
    let most : x * y ≤ 18446744073709551615 * 18446744073709551615 = mul-le-mul a b in
    omega arith

-- a report's numbers have 42 bits
pub rebuilt-fits : (w : Declared.Wear) → is_report w ≡ true → w.marks.rebuilt < 4398046511104
rebuilt-fits w e = let r = is-report w e in omega (arith, r.stores, r.lines, r.marks)

pub out-of-fits : (w : Declared.Wear) → is_report w ≡ true → out_of w < 4398046511104
unfolding out_of
out-of-fits w e = go (eqb w.lines 0)
  where
    go : (t : Bool) → cond t 1 w.lines < 4398046511104
    go true = omega arith
    go false = let r = is-report w e in omega (arith, r.stores, r.lines)

-- the order of two numbers, as the definition numbers it
pub order_is : (x y : ℕ) (r : Ordering) → r ≡ nat_cmp x y → order_number r ≡ order_of x y
order_is x y Less e = sym (order-less x y (ranked x y Less e))
order_is x y Equal e = sym (order_same x y (ranked x y Equal e))
order_is x y Greater e = sym (order-more x y (ranked x y Greater e))
