-- How many items a sequence has (XQuery 1.0 and XPath 2.0 Functions and Operators, 15.1.4, 15.1.5,
-- 15.2 and 15.4.1).
use Rattle.std.specs.Prelude.{List, length, Bool, not, nat_le, nat_lt, ◌==◌, ℤ, pos, ◌^◌, Result, Ok, Err, if◌then◌else◌}
use Rattle.xt_names.specs.declared.codes.Code.{Code}
use Rattle.xt_names.specs.declared.codes.Code.TheVariants.{Dynamic}
use Rattle.xt_names.specs.declared.codes.DynamicCode.TheVariants.{FOAR0002, FORG0003, FORG0004, FORG0005}
use Rattle.xdm_items.specs.declared.items.Item.{Item}

-- the number as an integer, which has 64 bits
unfoldable pub counted : List Item → Result ℤ Code
counted items = if nat_lt (length items) (2 ^ 63) then Ok (pos (length items)) else Err (Dynamic FOAR0002)

unfoldable pub has_no_item : List Item → Bool
has_no_item items = length items == 0

unfoldable pub has_item : List Item → Bool
has_item items = not (length items == 0)

unfoldable pub zero_or_one : List Item → Result (List Item) Code
zero_or_one items = if nat_le (length items) 1 then Ok items else Err (Dynamic FORG0003)

unfoldable pub one_or_more : List Item → Result (List Item) Code
one_or_more items = if nat_lt 0 (length items) then Ok items else Err (Dynamic FORG0004)

unfoldable pub exactly_one : List Item → Result (List Item) Code
exactly_one items = if length items == 1 then Ok items else Err (Dynamic FORG0005)
