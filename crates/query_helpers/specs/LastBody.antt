-- The function `last` of a generated query: of attributes with one name it keeps the last, and it
-- leaves out an atom without characters that no other atom stands beside. Where all names differ it
-- counts nothing.
use Rattle.std.specs.Prelude.{List, [], ◌∷◌, pos, codes, None}
use Rattle.xt_names.specs.declared.kinds.ArithOp.TheVariants.{Sub}
use Rattle.xt_names.specs.declared.kinds.CompareOp.TheVariants.{Eq}
use Rattle.xt_names.specs.declared.names.ExprName.{ExprName}
use Rattle.xt_types.specs.declared.node_tests.NameTest.TheVariants.{Any}
use Rattle.xt_types.specs.declared.node_tests.Test.TheVariants.{Attr, Node}
use Rattle.xt_syntax.specs.declared.exprs.Expr.{Expr}
use Rattle.xt_syntax.specs.declared.exprs.Clause.TheViews.{roll-Expr}
use Rattle.xt_syntax.specs.declared.exprs.Clause.TheOpen.{Arith, Value}
use Rattle.xt_syntax.specs.declared.queries.QueryFunction.{QueryFunction}
use Rattle.carried_exprs.specs.Sights.{made_name, item_name, position_name, local_uri, variable_of}
use Rattle.carried_exprs.specs.Sights.{nothing, library_call}
use Rattle.query_helpers.specs.Forms.{for_in, for_at, let_in, if_of, if_many, some_in, is_of_kind}
use Rattle.query_helpers.specs.Forms.{both_of, integer_of, text_literal}

abbrev pub items_name : ExprName
items_name = made_name (codes "items")

abbrev pub names_name : ExprName
names_name = made_name (codes "names")

abbrev pub later_name : ExprName
later_name = made_name (codes "later")

abbrev pub near_name : ExprName
near_name = made_name (codes "near")

abbrev pub is_attribute_in : ExprName → Expr
is_attribute_in v = is_of_kind (variable_of v) (Attr Any)

abbrev pub is_node_in : ExprName → Expr
is_node_in v = is_of_kind (variable_of v) Node

abbrev pub node_name_in : ExprName → Expr
node_name_in v = library_call (codes "node-name") (variable_of v ∷ [])

-- `for $item in $items return if ($item instance of attribute()) then node-name($item) else ()`
abbrev pub all_names : Expr
all_names =
    for_in item_name (variable_of items_name)
    (if_of (is_attribute_in item_name) (node_name_in item_name) nothing)

-- `remove(subsequence($items, $position), 1)`
abbrev pub those_behind : Expr
those_behind =
    library_call (codes "remove")
    (library_call (codes "subsequence") (variable_of items_name ∷ variable_of position_name ∷ [])
    ∷ integer_of (pos 1) ∷ [])

-- whether an attribute of the name comes again
abbrev pub comes_again : Expr
comes_again =
    some_in later_name those_behind
    (both_of (is_attribute_in later_name)
    (roll-Expr (Value Eq (node_name_in item_name) (node_name_in later_name))))

-- the texts of the atoms at the place and beside it, with commas between them
abbrev pub those_near : Expr
those_near =
    library_call (codes "subsequence")
    (variable_of items_name
    ∷ roll-Expr (Arith Sub (variable_of position_name) (integer_of (pos 1))) ∷ integer_of (pos 3) ∷ [])

abbrev pub words_near : Expr
words_near =
    library_call (codes "string-join")
    (for_in near_name those_near
    (if_of (is_node_in near_name) nothing (library_call (codes "string") (variable_of near_name ∷ [])))
    ∷ text_literal (codes ",") ∷ [])

abbrev pub kept_arms : List (Expr × Expr)
kept_arms =
    (is_attribute_in item_name, if_of comes_again nothing (variable_of item_name))
    ∷ (is_node_in item_name, variable_of item_name)
    ∷ (words_near, variable_of item_name) ∷ []

abbrev pub kept_item_body : Expr
kept_item_body = if_many kept_arms nothing

abbrev pub names_all_differ : Expr
names_all_differ =
    library_call (codes "deep-equal")
    (variable_of names_name ∷ library_call (codes "distinct-values") (variable_of names_name ∷ []) ∷ [])

abbrev pub last_body : Expr
last_body =
    let_in names_name all_names
    (if_of names_all_differ (variable_of items_name)
    (for_at item_name position_name (variable_of items_name) kept_item_body))

abbrev pub last_function : QueryFunction
last_function = record {
  name = record { uri = local_uri; local = codes "last" };
  params = record { name = items_name; kind = None } ∷ [];
  kind = None;
  body = last_body;
}
