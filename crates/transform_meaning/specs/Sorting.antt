-- Sort keys, and what goes over items in their order (XSLT 2.0, 7 and 13).
use Rattle.std.specs.Prelude.{ℕ, List, [], ◌∷◌, map, Bool, true, false, Option, Some, None}
use Rattle.std.specs.Prelude.{option_map, option_and_then, Result, Ok}
use Rattle.xt_names.specs.declared.codes.Code.{Code}
use Rattle.xt_names.specs.declared.codes.Code.TheVariants.{SheetDynamic}
use Rattle.xt_names.specs.declared.codes.SheetDynamicCode.TheVariants.{XTTE1020, XTDE1030}
use Rattle.xt_atoms.specs.AtomTexts.{text_of}
use Rattle.xt_atoms.specs.Lexical.{integer_of}
use Rattle.xt_atoms.specs.declared.atoms.Atom.{Atom}
use Rattle.xt_atoms.specs.declared.atoms.Atom.TheVariants as atom
use Rattle.xdm_items.specs.declared.items.Item.{Item}
use Rattle.order_group.specs.Rows.{Cell}
use Rattle.expr_meaning.specs.Outcomes.Outcome.{Outcome, Ends, and_then, step_outcome}
use Rattle.xdm_items.specs.FunctionArguments.Arguments.{and_then as result_then}
use Rattle.expr_meaning.specs.SortMeaning.Sorted.{Column, Placed, key_cell, sorted_places, values, visit}
use Rattle.expr_meaning.specs.Env.{Env, Meaning}
use Rattle.transform_meaning.specs.Places.{at_item, in_turn}

-- xsl:sort: the key, whether it descends, and whether it is a number or a text, if that is said
pub record SortMeaning : Type 0 where
  pub key : Meaning
  pub descending : Bool
  pub number : Option Bool

-- the integer that the text spells, or the empty key
abbrev pub number_cell : Atom → Cell
number_cell a = option_map atom.Int (integer_of (text_of a))

abbrev pub typed_cell : Option Bool → Cell → Cell
typed_cell None cell = cell
typed_cell (Some true) cell = option_and_then number_cell cell
typed_cell (Some false) cell = option_map (λ a. atom.Str (text_of a)) cell

-- a key has at most one atom
unfoldable pub sort_cell : Option Bool → List Item → Result Cell Code
sort_cell number xs =
    result_then (key_cell (SheetDynamic XTTE1020) xs) (λ cell. Ok (typed_cell number cell))

-- the column that a sort key is, where a value has what can be read at it
abbrev pub sort_column : {A : Type 0} → (A → Env) → SortMeaning → Column A
sort_column at s = record {
  key = λ x k. and_then (s.key (at x) k) (λ xs j. step_outcome (sort_cell s.number xs) j);
  descending = s.descending;
}

abbrev pub sort_columns : {A : Type 0} → (A → Env) → List SortMeaning → List (Column A)
sort_columns at sorts = map (sort_column at) sorts

-- a column without an order
abbrev pub mixed : Code
mixed = SheetDynamic XTDE1030

-- items in the order of their keys, each at its new place
abbrev pub in_sort_order : List SortMeaning → Env → List Item → ℕ → Outcome (List (Placed Item))
in_sort_order sorts env xs k = sorted_places mixed (sort_columns (at_item env) sorts) xs k

-- xsl:for-each
abbrev pub each_of : Meaning → List SortMeaning → Meaning → Meaning
each_of select sorts body env k =
    and_then (select env k)
    (visit mixed (sort_columns (at_item env) sorts) (λ f. body (in_turn env f)))

-- xsl:perform-sort, of `select` or the content; without sort keys no item gets a place
abbrev pub sorted_of : Meaning → List SortMeaning → Meaning
sorted_of source [] = source
sorted_of source (s ∷ sorts) = λ env k.
    and_then (source env k) (λ xs j.
    and_then (in_sort_order (s ∷ sorts) env xs j) (λ fs i. Ends (values fs) i))
