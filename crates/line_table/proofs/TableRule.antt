-- The lent table's rule, by two computed tests: the registers, and the fields above them.
use mathlib.Core.Path.{◌≡◌, refl, sym, ap, ap₂, ◌∙◌}
use mathlib.Core.Bool.{Bool}
use mathlib.Core.List.{List, [], ◌∷◌, map}
use Prim.Native.Nat.{ℕ, ◌+◌, ◌-◌, ◌*◌, ◌/◌, ◌%◌, ◌^◌}
use native.Mathlib.Omega.{arith}
use lib.Dec.{T}
use lib.ListN.{drop}
use Rattle.gf2.specs.Word.{digits}
use Rattle.gf2.specs.Check.{column_sum}
use Rattle.register.specs.Slices.{up_from}
use Rattle.register.proofs.TableRule.{alike, alike-sound, is_slice_table, slice-table}
use Rattle.linecode.specs.Places.{hamming_places}
use Rattle.linecode.specs.Code.{positions, hamming_columns}
use Rattle.line_table.specs.Table.{field, fields, beside, line_table}

-- the fields as numbers, so that the test of the table need not work them out again for each entry
unfoldable pub field_numbers : List ℕ
field_numbers =
    34900227 ∷ 35031557 ∷ 35162886 ∷ 35294215 ∷ 35425545 ∷ 35556874 ∷ 35688203 ∷ 35819532 ∷
    35950861 ∷ 36082190 ∷ 36213519 ∷ 36344849 ∷ 36476178 ∷ 36607507 ∷ 36738836 ∷ 36870165 ∷
    37001494 ∷ 37132823 ∷ 37264152 ∷ 37395481 ∷ 37526810 ∷ 37658139 ∷ 37789468 ∷ 37920797 ∷
    38052126 ∷ 38183455 ∷ 38314785 ∷ 38446114 ∷ 38577443 ∷ 38708772 ∷ 38840101 ∷ 38971430 ∷
    39102759 ∷ 39234088 ∷ 39365417 ∷ 39496746 ∷ 39628075 ∷ 39759404 ∷ 39890733 ∷ 40022062 ∷
    40153391 ∷ 40284720 ∷ 40416049 ∷ 40547378 ∷ 40678707 ∷ 40810036 ∷ 40941365 ∷ 41072694 ∷
    41204023 ∷ 41335352 ∷ 41466681 ∷ 41598010 ∷ 41729339 ∷ 41860668 ∷ 41991997 ∷ 42123326 ∷
    42254655 ∷ 42385985 ∷ 42517314 ∷ 42648643 ∷ 42779972 ∷ 42911301 ∷ 43042630 ∷ 43173959 ∷
    43305288 ∷ 43436617 ∷ 43567946 ∷ 43699275 ∷ 43830604 ∷ 43961933 ∷ 44093262 ∷ 44224591 ∷
    44355920 ∷ 44487249 ∷ 44618578 ∷ 44749907 ∷ 44881236 ∷ 45012565 ∷ 45143894 ∷ 45275223 ∷
    45406552 ∷ 45537881 ∷ 45669210 ∷ 45800539 ∷ 45931868 ∷ 46063197 ∷ 46194526 ∷ 46325855 ∷
    46457184 ∷ 46588513 ∷ 46719842 ∷ 46851171 ∷ 46982500 ∷ 47113829 ∷ 47245158 ∷ 47376487 ∷
    47507816 ∷ 47639145 ∷ 47770474 ∷ 47901803 ∷ 48033132 ∷ 48164461 ∷ 48295790 ∷ 48427119 ∷
    48558448 ∷ 48689777 ∷ 48821106 ∷ 48952435 ∷ 49083764 ∷ 49215093 ∷ 49346422 ∷ 49477751 ∷
    49609080 ∷ 49740409 ∷ 49871738 ∷ 50003067 ∷ 50134396 ∷ 50265725 ∷ 1191247742 ∷ 1325597055 ∷
    1191510657 ∷ 1594295170 ∷ 1191773315 ∷ 1326122372 ∷ 1192035973 ∷ 2131691398 ∷ 1192298631 ∷ 1326647688 ∷ []

fields-test : T (alike (map field (up_from 0 128)) field_numbers)
unfolding field_numbers positions hamming_columns hamming_places
fields-test = tt

pub fields-are : fields ≡ field_numbers
unfolding fields
fields-are = alike-sound (map field (up_from 0 128)) field_numbers fields-test

abbrev pub low_of : ℕ → ℕ
low_of n = n % 2 ^ 32

abbrev pub high_of : ℕ → ℕ
high_of n = n / 2 ^ 32

abbrev fields_by : List ℕ → ℕ → ℕ
fields_by fs i = column_sum (drop (8 * (15 - i / 256)) fs) (digits 8 (i % 256))

abbrev pub are_fields : List ℕ → Bool
are_fields table = alike (map high_of table) (map (fields_by field_numbers) (up_from 0 4096))

beside-parts : (table : List ℕ) → table ≡ beside (map low_of table) (map high_of table)
beside-parts [] = refl
beside-parts (n ∷ table) = ap₂ ◌∷◌ (parts n) (beside-parts table)
  where
    parts : (n : ℕ) → n ≡ n % 2 ^ 32 + 2 ^ 32 * (n / 2 ^ 32)
    parts n = omega arith

pub line-table : (table : List ℕ) → T (is_slice_table (map low_of table)) → T (are_fields table) → table ≡ line_table
unfolding line_table
line-table table s t =
    beside-parts table
    ∙ ap₂ beside (slice-table (map low_of table) s)
    (alike-sound (map high_of table) (map (fields_by field_numbers) (up_from 0 4096)) t
    ∙ ap (λ (fs : List ℕ). map (fields_by fs) (up_from 0 4096)) (sym fields-are))
