-- A check of a file, with the report's numbers.
use mathlib.Core.Path.{◌≡◌}
use mathlib.Core.List.{List}
use Prim.Native.Nat.{ℕ}
use Rattle.rectangle.specs.Repair.{Buffers}
use Rattle.report.specs.Check.{StoreChecked, check_store}
use Rattle.report.specs.Numbers.{FileChecked, check_numbers, check_file}

pub file-checked : (file : List ℕ) (b : Buffers) (s : StoreChecked) (n : List ℕ) → s ≡ check_store 512 file b → n ≡ check_numbers s.checked
    → ◌≡◌ {A = FileChecked} (record { answer = s.checked.answer; numbers = n; buffers = s.buffers }) (check_file file b)
unfolding check_file
file-checked file b s n e f = rw (f, e)
