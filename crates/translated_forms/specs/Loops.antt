-- xsl:for-each and xsl:perform-sort (XSLT 2.0, 7 and 13). Each item is held by the variables of the
-- focus in its turn.
use Rattle.std.specs.Prelude.{map, List, [], ◌∷◌, Bool, true, false, ◌||◌, codes}
use Rattle.std.specs.Prelude.{Option, Some, None, if◌then◌else◌}
use Rattle.xt_names.specs.declared.kinds.AtomType.TheVariants as atom
use Rattle.xt_syntax.specs.declared.exprs.Clause.{Clause}
use Rattle.xt_syntax.specs.declared.exprs.Expr.{Expr}
use Rattle.xt_syntax.specs.declared.exprs.Order.{Order}
use Rattle.xt_syntax.specs.declared.exprs.Clause.TheViews.{roll-Expr}
use Rattle.xt_syntax.specs.declared.exprs.Clause.TheOpen.{Context, Cast, Castable}
use Rattle.xt_sheets.specs.declared.values.Sort.{Sort}
use Rattle.carried_exprs.specs.Sights.{item_name, size_name, variable_of, the_item, library_call, position_name}
use Rattle.translated_forms.specs.Names.{items_name, atom_name}
use Rattle.translated_forms.specs.Forms.{let_clause, for_at_clause, flow, flow_ordered, order_of}
use Rattle.translated_forms.specs.Forms.{for_in, filtered, count_of}
use Rattle.translated_forms.specs.Mentions.{mentions, in_orders}
use Rattle.translated_forms.specs.Texts.{Carry}

-- A key of the order: as it is, its text, or the integer that its text spells. Two atoms fail.
abbrev pub string_of : Expr → Expr
string_of e = library_call (codes "string") (e ∷ [])

abbrev pub is_integer : Expr
is_integer = roll-Expr (Castable (roll-Expr Context) atom.Int false)

abbrev pub number_key : Expr → Expr
number_key e = roll-Expr (Cast (filtered (string_of e) (is_integer ∷ [])) atom.Int true)

abbrev pub text_key : Expr → Expr
text_key e = for_in atom_name e (string_of (variable_of atom_name))

abbrev pub typed_key : Option Bool → Expr → Expr
typed_key None e = e
typed_key (Some true) e = number_key e
typed_key (Some false) e = text_key e

-- the keys, as they are carried at an item
abbrev pub sort_order : Carry → Sort Expr → Order
sort_order carry s = order_of (typed_key s.number (carry s.key)) s.descending

abbrev pub sort_orders : Carry → List (Sort Expr) → List Order
sort_orders carry sorts = map (sort_order carry) sorts

-- `for $item at $position in e`
abbrev pub in_turn : Expr → Clause
in_turn e = for_at_clause item_name position_name e

-- the items in the order of their keys
unfoldable pub ordered : Expr → List Order → Expr
ordered e [] = e
ordered e (o ∷ orders) = flow_ordered (in_turn e ∷ []) (o ∷ orders) the_item

-- `let $items := e let $size := count($items)`
abbrev pub the_items : Expr
the_items = variable_of items_name

abbrev pub items_let : Expr → Clause
items_let e = let_clause items_name e

abbrev pub size_let : Clause
size_let = let_clause size_name (count_of items_name)

-- The body at each item in the order of the keys. The items are counted where their number is
-- mentioned; the position counts them too, and fails where they are too many.
abbrev pub needs_size : List Order → Expr → Bool
needs_size orders body = in_orders size_name orders || mentions size_name body

unfoldable pub each_in : Expr → List Order → Expr → Expr
each_in e orders body =
    if needs_size orders body
    then flow (items_let e ∷ size_let ∷ in_turn (ordered the_items orders) ∷ []) body
    else flow (in_turn (ordered e orders) ∷ []) body

-- the items alone in that order; without keys nothing is counted
unfoldable pub sorted : Expr → List Order → Expr
sorted e [] = e
sorted e (o ∷ orders) =
    if in_orders size_name (o ∷ orders)
    then flow_ordered (items_let e ∷ size_let ∷ in_turn the_items ∷ []) (o ∷ orders) the_item
    else ordered e (o ∷ orders)
