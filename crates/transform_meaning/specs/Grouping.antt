-- Groups (XSLT 2.0, 14.3).
use Rattle.std.specs.Prelude.{ℕ, List, [], ◌∷◌, map, flat_map, slice_get, Bool, false}
use Rattle.std.specs.Prelude.{if◌then◌else◌, Result, Ok, Err}
use Rattle.std.specs.List.{list_all, list_any}
use Rattle.std.specs.Option.{option_to_list}
use Rattle.xt_names.specs.declared.codes.Code.{Code}
use Rattle.xt_names.specs.declared.codes.Code.TheVariants.{SheetDynamic}
use Rattle.xt_names.specs.declared.codes.SheetDynamicCode.TheVariants.{XTTE1100, XTTE1120}
use Rattle.xt_syntax.specs.declared.patterns.Pattern.{Pattern}
use Rattle.xt_atoms.specs.declared.atoms.Atom.{Atom as AtomValue}
use Rattle.xdm_items.specs.Values.{atomized}
use Rattle.xdm_items.specs.declared.items.Item.{Item}
use Rattle.xdm_items.specs.declared.items.Item.TheVariants.{Node, Atom}
use Rattle.order_group.specs.Groups.{grouped_by, grouped_adjacent, grouped_starting}
use Rattle.order_group.specs.declared.groups.Group.{Group as PlacesGroup}
use Rattle.match_patterns.specs.Patterns.{pattern_matches}
use Rattle.operator_values.specs.Nodes.{is_node}
use Rattle.operator_values.specs.Operands.{atom_of}
use Rattle.expr_meaning.specs.Outcomes.Outcome.{Outcome, Ends, and_then, step_outcome, for_each}
use Rattle.expr_meaning.specs.SortMeaning.Sorted.{Placed, places, visit}
use Rattle.expr_meaning.specs.Env.{Env, Group, Meaning}
use Rattle.transform_meaning.specs.Places.{at_item, in_group}
use Rattle.transform_meaning.specs.Sorting.{SortMeaning, mixed, sort_columns}

-- what puts items into one group: a grouping key, or patterns
pub data GroupingMeaning : Type 0 where
  by : Meaning → GroupingMeaning
  adjacent : Meaning → GroupingMeaning
  starting : List Pattern → GroupingMeaning

-- the grouping keys of an item
abbrev pub keys_at : Meaning → Env → Placed Item → ℕ → Outcome (List (List Item))
keys_at key env f k = and_then (key (at_item env f) k) (λ xs j. Ends (atomized xs ∷ []) j)

-- the one grouping key of an item
abbrev pub only_key : List Item → Result AtomValue Code
only_key [] = Err (SheetDynamic XTTE1100)
only_key (x ∷ []) = Ok (atom_of x)
only_key (x ∷ y ∷ xs) = Err (SheetDynamic XTTE1100)

abbrev pub key_at : Meaning → Env → Placed Item → ℕ → Outcome (List AtomValue)
key_at key env f k =
    and_then (key (at_item env f) k) (λ xs j.
    and_then (step_outcome (only_key xs) j) (λ a i. Ends (a ∷ []) i))

-- whether a group begins at the item
abbrev pub begins : List Pattern → Item → Bool
begins patterns (Node n) = list_any (λ p. pattern_matches p n) patterns
begins patterns (Atom a) = false

unfoldable pub starting_groups : List Pattern → List Item → Result (List PlacesGroup) Code
starting_groups patterns xs =
    if list_all is_node xs then Ok (grouped_starting (map (begins patterns) xs))
    else Err (SheetDynamic XTTE1120)

-- the groups, as places from 0 in the population
abbrev pub groups_in : GroupingMeaning → Env → List (Placed Item) → List Item → ℕ →
    Outcome (List PlacesGroup)
groups_in (by key) env fs xs k =
    and_then (for_each (keys_at key env) fs k) (λ keys j. Ends (grouped_by keys) j)
groups_in (adjacent key) env fs xs k =
    and_then (for_each (key_at key env) fs k) (λ keys j. Ends (grouped_adjacent keys) j)
groups_in (starting patterns) env fs xs k = step_outcome (starting_groups patterns xs) k

abbrev pub items_at : List Item → List ℕ → List Item
items_at xs places = flat_map (λ i. option_to_list (slice_get xs i)) places

abbrev pub group_in : List Item → PlacesGroup → Group
group_in xs g = record { key = g.key; members = items_at xs g.members }

-- the population is counted first
abbrev pub groups_of : GroupingMeaning → Env → List Item → ℕ → Outcome (List Group)
groups_of grouping env xs k =
    and_then (step_outcome (places xs) k) (λ fs j.
    and_then (groups_in grouping env fs xs j) (λ gs i. Ends (map (group_in xs) gs) i))

-- xsl:for-each-group
abbrev pub each_group_of : Meaning → GroupingMeaning → List SortMeaning → Meaning → Meaning
each_group_of select grouping sorts body env k =
    and_then (select env k) (λ xs j.
    and_then (groups_of grouping env xs j)
    (visit mixed (sort_columns (in_group env) sorts) (λ g. body (in_group env g))))
