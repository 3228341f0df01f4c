-- Request Q-5: "The share of rebuilt lines in two reports is compared exactly in whole numbers".
use Rattle.std.specs.Prelude.{cond, ◌&&◌, ℕ, ◌*◌, eqb, ltb}
use Rattle.tour.specs.Adding.{is_report}
use Rattle.tour.specs.declared.Wear as Declared
use Rattle.std.specs.declared.cmp.Ordering.{Ordering}
use Rattle.std.specs.declared.cmp.Ordering.TheVariants.{Less, Equal, Greater}

-- the order of two numbers: 0 equal, 1 the first is smaller, 2 it is greater
unfoldable pub order_of : ℕ → ℕ → ℕ
order_of x y = cond (ltb x y) 1 (cond (ltb y x) 2 0)

-- and of what the code gives for it
abbrev pub order_number : Ordering → ℕ
order_number Less = 1
order_number Equal = 0
order_number Greater = 2

-- what a share is a share of; "a report with no lines counts as share zero", none of one line
unfoldable pub out_of : Declared.Wear → ℕ
out_of w = cond (eqb w.lines 0) 1 w.lines

-- the order of two shares of rebuilt lines, by whole numbers: each report's rebuilt lines times what the other's share is of
unfoldable pub share_order : Declared.Wear → Declared.Wear → ℕ
share_order a b = order_of (a.marks.rebuilt * out_of b) (b.marks.rebuilt * out_of a)

-- what a comparison answers, and the order of the shares
pub record Compared : Type 0 where
  pub answer : ℕ
  pub order : ℕ

-- the entry point: 15 for what is no report, with order 0
unfoldable pub compare_shares : Declared.Wear → Declared.Wear → Compared
compare_shares a b =
    cond (is_report a && is_report b) (record { answer = 0; order = share_order a b }) (record { answer = 15; order = 0 })
