-- The arguments of a call, and the functions that take one argument more or less.
use Rattle.std.specs.Prelude.{ℕ, List, [], nat_lt, Option, Some, None, slice_get, Err, if◌then◌else◌}
use Rattle.xt_names.specs.declared.codes.Code.TheVariants.{Dynamic}
use Rattle.xt_names.specs.declared.codes.DynamicCode.TheVariants.{FOER0000}
use Rattle.xdm_items.specs.declared.items.Item.{Item}
use Rattle.text_functions.specs.TextFunctions.{substring_of, substring_for_of}
use Rattle.item_functions.specs.Outcomes.{Outcome}
use Rattle.item_functions.specs.OnSequences.{subsequence_of, subsequence_for_of}
use Rattle.item_functions.specs.OnValues.{sum_of, sum_with_of}

abbrev pub or_no_items : Option (List Item) → List Item
or_no_items None = []
or_no_items (Some items) = items

-- the argument at the place, from 0, and the empty list where there is none
abbrev pub argument : List (List Item) → ℕ → List Item
argument args place = or_no_items (slice_get args place)

-- the error without a code of its own
abbrev pub error_value : Outcome
error_value = Err (Dynamic FOER0000)

abbrev pub subsequence_value : ℕ → List Item → List Item → List Item → Outcome
subsequence_value count a b c =
    if nat_lt count 3 then subsequence_of a b else subsequence_for_of a b c

abbrev pub substring_value : ℕ → List Item → List Item → List Item → Outcome
substring_value count a b c =
    if nat_lt count 3 then substring_of a b else substring_for_of a b c

abbrev pub sum_value : ℕ → List Item → List Item → Outcome
sum_value count a b = if nat_lt count 2 then sum_of a else sum_with_of a b
