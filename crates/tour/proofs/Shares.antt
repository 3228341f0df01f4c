-- Shares compared: the order of two numbers, cross products, and the order of all reports.
use mathlib.Core.Path.{◌≡◌, refl, sym, ap, ap₂, ◌∙◌}
use mathlib.Core.Logic.{◌⊎◌, inl, inr}
use mathlib.Core.Bool.{Bool, true, false}
use Prim.Native.Nat.{ℕ, ◌*◌, ◌≤◌, ◌<◌}
use native.Mathlib.Nat.{mul-one, zero-mul, mul_assoc, mul_comm, mul_right_comm, one-le-mul, mul-lt-mul_of_pos_right}
use native.Mathlib.Omega.{arith}
use borrow.Author.Tests.{ltb-true, ltb-false, lt-ltb, le-ltb, eqb-true, eqb-false, eq-eqb, ne_eqb}
use lib.Dec.{eqb, ltb}
use Rattle.tour.specs.Share.{order_of, out_of, share_order}
use Rattle.tour.specs.Promises.{IsReport, HasShare, OrderTells, SharesCompared, OrdersReports}
use Rattle.tour.specs.declared.Wear as Declared

-- ---- the order of two numbers
pub order_same : (x y : ℕ) → x ≡ y → order_of x y ≡ 0
unfolding order_of
order_same x y e = rw (le-ltb x y (omega arith), le-ltb y x (omega arith))

pub order-less : (x y : ℕ) → x < y → order_of x y ≡ 1
unfolding order_of
order-less x y h = rw (lt-ltb x y h)

pub order-more : (x y : ℕ) → y < x → order_of x y ≡ 2
unfolding order_of
order-more x y h = rw (le-ltb x y (omega arith), lt-ltb y x h)

-- the three cases
data Ordered (x y : ℕ) : Type 0 where
  same : x ≡ y → Ordered x y
  less : x < y → Ordered x y
  more : y < x → Ordered x y

ordered : (x y : ℕ) → Ordered x y
ordered x y = go (ltb x y) (ltb y x) refl refl
  where
    go : (a b : Bool) → ltb x y ≡ a → ltb y x ≡ b → Ordered x y
    go true b e f = less (ltb-true x y e)
    go false true e f = more (ltb-true y x f)
    go false false e f = same (omega (arith, ltb-false x y e, ltb-false y x f))

-- and what an order tells
module _ (x y : ℕ) where
  tells-same : order_of x y ≡ 0 → x ≡ y
  tells-same e = go (ordered x y)
    where
      go : Ordered x y → x ≡ y
      go (same f) = f
      go (less h) = omega (arith, e, order-less x y h)
      go (more h) = omega (arith, e, order-more x y h)

  tells-less : order_of x y ≡ 1 → x < y
  tells-less e = go (ordered x y)
    where
      go : Ordered x y → x < y
      go (same f) = omega (arith, e, order_same x y f)
      go (less h) = h
      go (more h) = omega (arith, e, order-more x y h)

  tells_more : order_of x y ≡ 2 → y < x
  tells_more e = go (ordered x y)
    where
      go : Ordered x y → y < x
      go (same f) = omega (arith, e, order_same x y f)
      go (less h) = omega (arith, e, order-less x y h)
      go (more h) = h

  order-tells : OrderTells (order_of x y) x y
  order-tells =
      record {
        equal = (tells-same, order_same x y);
        smaller = (tells-less, order-less x y);
        greater = (tells_more, order-more x y);
      }

  order-total : (order_of x y ≡ 0) ⊎ ((order_of x y ≡ 1) ⊎ (order_of x y ≡ 2))
  order-total = go (ordered x y)
    where
      go : Ordered x y → (order_of x y ≡ 0) ⊎ ((order_of x y ≡ 1) ⊎ (order_of x y ≡ 2))
      go (same f) = inl (order_same x y f)
      go (less h) = inr (inl (order-less x y h))
      go (more h) = inr (inr (order-more x y h))

  -- both times a number
  order-times : (k : ℕ) → 1 ≤ k → order_of (x * k) (y * k) ≡ order_of x y
  order-times k some = go (ordered x y)
    where
      go : Ordered x y → order_of (x * k) (y * k) ≡ order_of x y
      go (same f) = order_same _ _ (ap (λ (n : ℕ). n * k) f) ∙ sym (order_same x y f)
      go (less h) = order-less _ _ (mul-lt-mul_of_pos_right h some) ∙ sym (order-less x y h)
      go (more h) = order-more _ _ (mul-lt-mul_of_pos_right h some) ∙ sym (order-more x y h)

order-carries : (x y z k : ℕ) → order_of x y ≡ k → order_of y z ≡ k → order_of x z ≡ k
order-carries x y z k e f = go (ordered x y)
  where
    go : Ordered x y → order_of x z ≡ k
    go (same g) = rw g f
    go (less h) =
        let one = order-less x y h in
        let next = tells-less y z (f ∙ sym e ∙ one) in
        order-less x z (omega (arith, h, next)) ∙ sym one ∙ e
    go (more h) =
        let two = order-more x y h in
        let next = tells_more y z (f ∙ sym e ∙ two) in
        order-more x z (omega (arith, h, next)) ∙ sym two ∙ e

-- p of q and r of s are x of m and y of m: their cross products are in the order of x and y
cross : (p q r s x y m : ℕ) → 1 ≤ q → 1 ≤ s → 1 ≤ m → p * m ≡ x * q → r * m ≡ y * s → order_of (p * s) (r * q) ≡ order_of x y
cross p q r s x y m i j k e f =
    sym (order-times (p * s) (r * q) m k) ∙ ap₂ order_of first second ∙ order-times x y (q * s) (one-le-mul i j)
  where
    first : p * s * m ≡ x * (q * s)
    first = mul_right_comm p s m ∙ ap (λ (n : ℕ). n * s) e ∙ mul_assoc x q s

    second : r * q * m ≡ y * (q * s)
    second = mul_right_comm r q m ∙ ap (λ (n : ℕ). n * q) f ∙ mul_assoc y s q ∙ ap (λ (n : ℕ). y * n) (mul_comm s q)

-- ---- what a share is of
module _ (w : Declared.Wear) where
  out_none : w.lines ≡ 0 → out_of w ≡ 1
  unfolding out_of
  out_none e = rw (eq-eqb w.lines 0 e)

  out_some : 1 ≤ w.lines → out_of w ≡ w.lines
  unfolding out_of
  out_some h = rw (ne_eqb w.lines 0 (λ e. omega arith))

  lines-or-none : (w.lines ≡ 0) ⊎ (1 ≤ w.lines)
  lines-or-none = go (eqb w.lines 0) refl
    where
      go : (b : Bool) → eqb w.lines 0 ≡ b → (w.lines ≡ 0) ⊎ (1 ≤ w.lines)
      go true e = inl (eqb-true w.lines 0 e)
      go false e = inr (let d = eqb-false w.lines 0 e in omega (arith, d))

  pub out-least : 1 ≤ out_of w
  out-least = go lines-or-none
    where
      go : (w.lines ≡ 0) ⊎ (1 ≤ w.lines) → 1 ≤ out_of w
      go (inl e) = omega (arith, out_none e)
      go (inr h) = omega (arith, out_some h)

  -- a report's share, as one equation
  module _ (x m : ℕ) (r : IsReport w) where
    share-is : HasShare w x m → w.marks.rebuilt * m ≡ x * out_of w
    share-is h = go lines-or-none
      where
        go : (w.lines ≡ 0) ⊎ (1 ≤ w.lines) → w.marks.rebuilt * m ≡ x * out_of w
        go (inl e) =
            let none : w.marks.rebuilt ≡ 0 = omega (arith, r.marks, e) in
            ap (λ (n : ℕ). n * m) none ∙ zero-mul m ∙ sym (ap (λ (n : ℕ). n * out_of w) (h.no_lines e) ∙ zero-mul (out_of w))
        go (inr i) = h.of_lines i ∙ ap (λ (n : ℕ). x * n) (sym (out_some i))

    is_share : 1 ≤ m → w.marks.rebuilt * m ≡ x * out_of w → HasShare w x m
    is_share some e =
        record {
          some = some;
          of_lines = λ h. e ∙ ap (λ (n : ℕ). x * n) (out_some h);
          no_lines = λ z.
              let none : w.marks.rebuilt ≡ 0 = omega (arith, r.marks, z) in
              sym (mul-one x) ∙ ap (λ (n : ℕ). x * n) (sym (out_none z)) ∙ sym e ∙ ap (λ (n : ℕ). n * m) none ∙ zero-mul m;
        }

pub shares-compared : SharesCompared
unfolding share_order
shares-compared a b ra rb =
    let p = a.marks.rebuilt in
    let q = out_of a in
    let r = b.marks.rebuilt in
    let s = out_of b in
    let some = one-le-mul (out-least a) (out-least b) in
    record {
      agrees = λ x y m h k.
          rw (cross p q r s x y m (out-least a) (out-least b) h.some (share-is a x m ra h) (share-is b y m rb k)) (order-tells x y);
      common = (
        q * s,
        p * s,
        r * q,
        is_share a (p * s) (q * s) ra some (ap (λ (n : ℕ). p * n) (mul_comm q s) ∙ sym (mul_assoc p s q)),
        is_share b (r * q) (q * s) rb some (sym (mul_assoc r q s)),
      );
    }

-- ---- three reports: their order is that of three numbers
data Three (a b c : Declared.Wear) : Type 0 where
  three : (x y z : ℕ) → share_order a b ≡ order_of x y → share_order b c ≡ order_of y z → share_order a c ≡ order_of x z → Three a b c

as-three : (a b c : Declared.Wear) → Three a b c
unfolding share_order
as-three a b c =
    let p = a.marks.rebuilt in
    let r = b.marks.rebuilt in
    let u = c.marks.rebuilt in
    let q = out_of a in
    let s = out_of b in
    let v = out_of c in
    let m = q * s * v in
    let some = one-le-mul (one-le-mul (out-least a) (out-least b)) (out-least c) in
    let first : p * m ≡ p * (s * v) * q = ap (λ (n : ℕ). p * n) (mul_assoc q s v ∙ mul_comm q (s * v)) ∙ sym (mul_assoc p (s * v) q) in
    let second : r * m ≡ r * (q * v) * s = ap (λ (n : ℕ). r * n) (mul_right_comm q s v) ∙ sym (mul_assoc r (q * v) s) in
    let third : u * m ≡ u * (q * s) * v = sym (mul_assoc u (q * s) v) in
    three (p * (s * v)) (r * (q * v)) (u * (q * s))
    (cross p q r s _ _ m (out-least a) (out-least b) some first second)
    (cross r s u v _ _ m (out-least b) (out-least c) some second third)
    (cross p q u v _ _ m (out-least a) (out-least c) some first third)

pub orders-reports : OrdersReports
unfolding share_order
orders-reports =
    record {
      total = λ a b. order-total _ _;
      itself = λ a. order_same _ _ refl;
      turned = λ a b. (λ e. order-more _ _ (tells-less _ _ e), λ e. order-less _ _ (tells_more _ _ e));
      transitive = λ a b c k. transitive a b c k (as-three a b c);
      equals = λ a b c. equals a b c (as-three a b c);
    }
  where
    transitive : (a b c : Declared.Wear) (k : ℕ) → Three a b c → share_order a b ≡ k → share_order b c ≡ k → share_order a c ≡ k
    transitive a b c k (three x y z ab bc ac) e f = ac ∙ order-carries x y z k (sym ab ∙ e) (sym bc ∙ f)

    equals : (a b c : Declared.Wear) → Three a b c → share_order a b ≡ 0 → share_order a c ≡ share_order b c
    equals a b c (three x y z ab bc ac) e = ac ∙ ap (λ (n : ℕ). order_of n z) (tells-same x y (sym ab ∙ e)) ∙ sym bc
