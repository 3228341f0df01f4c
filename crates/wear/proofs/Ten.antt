-- Ten numbers, added to.
use mathlib.Core.Path.{◌≡◌}
use mathlib.Core.List.{List}
use Prim.Native.Nat.{ℕ}
use lib.ListN.{length}
use borrow.Author.Tests.{eq-eqb, ne_eqb}
use Rattle.tour.specs.Wear.{Result}
use Rattle.tour.specs.Adding.{add_store}
use Rattle.tour.specs.Numbers.{report_numbers, numbers_of, wear_in, add_numbers}
use Rattle.tour.specs.declared.Wear as Declared
use Rattle.tour.proofs.Numbers.{written_back}

-- an addition on ten numbers: written where it is taken, and else as they were
module _ (numbers : List ℕ) (store : Result) (ten : length numbers ≡ 10) where
  pub numbers_taken : (after : Declared.Wear) → record { answer = 0; wear = after } ≡ add_store (wear_in numbers) store
      → (new : List ℕ) → new ≡ numbers_of after → record { answer = 0; numbers = new } ≡ add_numbers numbers store
  unfolding add_numbers report_numbers
  numbers_taken after f new g = rw (eq-eqb (length numbers) 10 ten, ← f, g)

  pub numbers_refused : (answer : ℕ) → record { answer = answer; wear = wear_in numbers } ≡ add_store (wear_in numbers) store
      → record { answer = answer; numbers = numbers } ≡ add_numbers numbers store
  unfolding add_numbers report_numbers
  numbers_refused answer f = rw (eq-eqb (length numbers) 10 ten, ← f, written_back numbers ten)

pub not_ten : (numbers : List ℕ) (store : Result) → (length numbers ≡ 10 → ⊥) → record { answer = 7; numbers = numbers } ≡ add_numbers numbers store
unfolding add_numbers report_numbers
not_ten numbers store d = rw (ne_eqb (length numbers) 10 d)
