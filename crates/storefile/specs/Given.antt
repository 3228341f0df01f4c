-- What opening a file and its layout give, in the numbers of the definitions.
use Rattle.std.specs.Prelude.{◌≡◌, true, List, ℕ, ◌≤◌, length, replicate, Result, Ok, Err}
use Rattle.rectangle.specs.Answers.{number_of}
use Rattle.rectangle.specs.Refusals.{sides_fit}
use Rattle.rectangle.specs.declared.answers.Refusal.{Refusal}
use Rattle.storefile.specs.Opening.{rows_in, columns_in, sides_within, Opened}
use Rattle.storefile.specs.Layout.{Layout}
use Rattle.rectangle.specs.declared.sizes.Sides.{Sides}

-- rows and columns, which are 0 on refusal
abbrev pub opened_as : Result Sides Refusal → Opened
opened_as (Ok sides) = record { answer = 0; rows = sides.rows; columns = sides.columns }
opened_as (Err refusal) = record { answer = number_of refusal; rows = 0; columns = 0 }

-- the eight numbers, which are zeros on refusal
abbrev pub layout_as : Result (List ℕ) Refusal → Layout
layout_as (Ok numbers) = record { answer = 0; numbers = numbers }
layout_as (Err refusal) = record { answer = number_of refusal; numbers = replicate 8 0 }

-- rows and columns that a header tells and that nothing but the contents can refuse
pub record Told (limit : ℕ) (file : List ℕ) (rows columns : ℕ) : Type 0 where
  pub long : 28 ≤ length file
  pub rows_told : rows ≡ rows_in file
  pub columns_told : columns ≡ columns_in file
  pub sides : sides_fit rows columns ≡ true
  pub within : sides_within limit rows columns ≡ true
