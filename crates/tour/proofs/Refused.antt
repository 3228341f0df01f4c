-- What 15 refuses: the tests of a report and of a result, and what each answer tells.
use mathlib.Core.Path.{◌≡◌, refl}
use mathlib.Core.Logic.Iff
use mathlib.Core.Logic.{inl, inr, ◌↔◌}
use mathlib.Core.Bool.{Bool, true, false, cond, ◌&&◌, ◌||◌, false≢true, and-eq-true_iff}
use mathlib.Core.List.{[], ◌∷◌}
use Prim.Native.Nat.{ℕ, ◌<◌}
use native.Mathlib.Omega.{arith}
use borrow.Author.Tests.{leb-true, le-leb, ltb-true, lt-ltb, eqb-true, eq-eqb}
use lib.Dec.{eqb}
use Rattle.scheme.specs.Demand3.{◌∈◌}
use Rattle.rectangle.specs.Repair.{hands_over}
use Rattle.rectangle.proofs.Tests.{every-at}
use Rattle.results.proofs.Adding.{all-marks}
use Rattle.tour.specs.Wear.{Result, wear_of}
use Rattle.tour.specs.Adding.{most_stores, most_lines, is_report, is_result, has_room, plus, Added, add_store}
use Rattle.tour.specs.Share.{share_order, Compared, compare_shares}
use Rattle.tour.specs.Promises.{IsReport, IsResult, Refused}
use Rattle.tour.specs.declared.Wear as Declared

-- ---- the test of a report
pub is-report : (w : Declared.Wear) → is_report w ≡ true → IsReport w
unfolding is_report most_stores most_lines
is-report w e =
    let one = (and-eq-true_iff _ _).0 e in
    let two = (and-eq-true_iff _ _).0 one.1 in
    let three = (and-eq-true_iff _ _).0 two.1 in
    record {
      stores = leb-true _ _ one.0;
      lines = leb-true _ _ two.0;
      marks = eqb-true _ _ three.0;
      answers = eqb-true _ _ three.1;
    }

pub report-is : (w : Declared.Wear) → IsReport w → is_report w ≡ true
unfolding is_report most_stores most_lines
report-is w r =
    rw (le-leb _ _ r.stores, le-leb _ _ r.lines, eq-eqb _ _ r.marks, eq-eqb _ _ r.answers)

-- ---- of room for one more
room : (w : Declared.Wear) → (has_room w ≡ true) ↔ (w.stores < 1000000)
unfolding has_room most_stores
room w = (ltb-true _ _, lt-ltb _ _)

-- ---- and of a result
pub hands-over : (answer : ℕ) → hands_over answer ≡ true → answer ∈ (0 ∷ 11 ∷ 12 ∷ [])
unfolding hands_over
hands-over answer = go (eqb answer 0) (eqb answer 11) (eqb answer 12) refl refl refl
  where
    go : (a b c : Bool) → eqb answer 0 ≡ a → eqb answer 11 ≡ b → eqb answer 12 ≡ c → a || (b || c) ≡ true
        → answer ∈ (0 ∷ 11 ∷ 12 ∷ [])
    go true b c p q r h = inl (eqb-true answer 0 p)
    go false true c p q r h = inr (inl (eqb-true answer 11 q))
    go false false true p q r h = inr (inr (inl (eqb-true answer 12 r)))
    go false false false p q r h = absurd (false≢true h)

over-hands : (answer : ℕ) → answer ∈ (0 ∷ 11 ∷ 12 ∷ []) → hands_over answer ≡ true
unfolding hands_over
over-hands = every-at hands_over (0 ∷ 11 ∷ 12 ∷ []) refl

pub is-result : (store : Result) → is_result store ≡ true → IsResult store
unfolding is_result most_lines
is-result store e =
    let one = (and-eq-true_iff _ _).0 e in
    let two = (and-eq-true_iff _ _).0 one.1 in
    let three = (and-eq-true_iff _ _).0 two.1 in
    record {
      least = leb-true _ _ one.0;
      most = leb-true _ _ two.0;
      marks = (all-marks store.marks).0 three.0;
      answer = hands-over _ three.1;
    }

pub result-is : (store : Result) → IsResult store → is_result store ≡ true
unfolding is_result most_lines
result-is store r =
    rw (le-leb _ _ r.least, le-leb _ _ r.most, (all-marks store.marks).1 r.marks, over-hands _ r.answer)

-- ---- the two entry points, by their tests
module _ (w : Declared.Wear) (store : Result) where
  abbrev pub takes : Bool
  takes = is_report w && (has_room w && is_result store)

  pub added-taken : takes ≡ true → add_store w store ≡ record { answer = 0; wear = plus w (wear_of (store ∷ [])) }
  unfolding add_store
  added-taken e = rw e

  pub added-refused : takes ≡ false → add_store w store ≡ record { answer = 15; wear = w }
  unfolding add_store
  added-refused e = rw e

-- a choice between a result with 0 and one with 15 tells its test
module _ {A : Type 0} (answer : A → ℕ) (x y : A) (zero : answer x ≡ 0) where
  taken-tells : answer y ≡ 15 → (b : Bool) → (answer (cond b x y) ≡ 0) ↔ (b ≡ true)
  taken-tells e true = (λ z. refl, λ z. zero)
  taken-tells e false = (λ z. let f : ⊥ = omega (arith, e, z) in absurd f, λ z. absurd (false≢true z))

  not_taken : (b : Bool) → (answer (cond b x y) ≡ 0 → ⊥) → cond b x y ≡ y
  not_taken true d = absurd (d zero)
  not_taken false d = refl

pub tests : (w : Declared.Wear) (store : Result) → (takes w store ≡ true) ↔ (IsReport w × (w.stores < 1000000) × IsResult store)
tests w store = (
  λ e.
      let one = (and-eq-true_iff (is_report w) _).0 e in
      let two = (and-eq-true_iff (has_room w) (is_result store)).0 one.1 in
      (is-report w one.0, (room w).0 two.0, is-result store two.1),
  λ t. rw (report-is w t.0, (room w).1 t.1, result-is store t.2),
)

-- what is compared has the order of the shares
abbrev compared_if : Declared.Wear → Declared.Wear → Bool → Compared
compared_if a b t = cond t (record { answer = 0; order = share_order a b }) (record { answer = 15; order = 0 })

ordered : (a b : Declared.Wear) (t : Bool) → (compared_if a b t).answer ≡ 0 → (compared_if a b t).order ≡ share_order a b
ordered a b true e = refl
ordered a b false e = let z : ⊥ = omega (arith, e) in absurd z

pub refused : Refused
unfolding add_store compare_shares
refused =
    record {
      taken = λ w store.
          Iff.trans (taken-tells (λ (a : Added). a.answer) _ _ refl refl (takes w store)) (tests w store);
      refused = λ w store. not_taken (λ (a : Added). a.answer) _ _ refl (takes w store);
      compared = λ a b.
          Iff.trans (taken-tells (λ (c : Compared). c.answer) _ _ refl refl (is_report a && is_report b))
          (Iff.trans (and-eq-true_iff (is_report a) (is_report b)) (Iff.and (is-report a, report-is a) (is-report b, report-is b)));
      ordered = λ a b. ordered a b (is_report a && is_report b);
      not_compared = λ a b. not_taken (λ (c : Compared). c.answer) _ _ refl (is_report a && is_report b);
    }
