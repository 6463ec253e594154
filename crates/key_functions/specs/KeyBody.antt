-- The function of a key in a generated query: of the tree of a node, which is a document's, all nodes
-- and attributes that have one of the values (XSLT 2.0, 16.3).
use Rattle.std.specs.Prelude.{ℕ, List, [], ◌∷◌, map, codes, Some, None}
use Rattle.xt_names.specs.declared.kinds.AtomType.TheVariants as type
use Rattle.xt_names.specs.declared.names.ExprName.{ExprName}
use Rattle.xt_types.specs.declared.axes.Axis.TheVariants.{Attribute, DescendantOrSelf}
use Rattle.xt_types.specs.declared.node_tests.Test.TheVariants.{Node}
use Rattle.xt_types.specs.declared.types.Count.TheVariants.{Many, One}
use Rattle.xt_types.specs.declared.types.ItemType.TheVariants.{Atomic, Kind}
use Rattle.xt_types.specs.declared.types.SeqType.TheVariants.{Of}
use Rattle.xt_syntax.specs.declared.exprs.Expr.{Expr}
use Rattle.xt_syntax.specs.declared.exprs.Clause.TheViews.{roll-Expr}
use Rattle.xt_syntax.specs.declared.exprs.Clause.TheOpen.{Comma, Root, Slash, Step}
use Rattle.xt_syntax.specs.declared.queries.QueryFunction.{QueryFunction}
use Rattle.carried_exprs.specs.Sights.{item_name, key_name, library_call, local_uri, made_name}
use Rattle.carried_exprs.specs.Sights.{nothing, the_item, value_name, variable_of}
use Rattle.query_helpers.specs.CopyBody.{all_along}
use Rattle.query_helpers.specs.Forms.{for_in, if_of, some_in}

abbrev pub values_name : ExprName
values_name = made_name (codes "values")

-- a declaration as the query has it: whether `$x:item` matches, and the value of that node, which is
-- the focus as well
pub record KeyParts : Type 0 where
  pub test : Expr
  pub value : Expr

-- `$x:item/(/)/descendant-or-self::node()`
abbrev pub nodes_of_tree : Expr
nodes_of_tree =
    roll-Expr (Slash (roll-Expr (Slash the_item (roll-Expr Root)))
    (roll-Expr (Step DescendantOrSelf Node [])))

-- `($x:item, $x:item/attribute::node())`
abbrev pub with_attributes : Expr
with_attributes = roll-Expr (Comma (the_item ∷ all_along Attribute ∷ []))

-- `if (TEST) then $x:item/data(VALUE) else ()`
abbrev pub values_by : KeyParts → Expr
values_by d =
    if_of d.test (roll-Expr (Slash the_item (library_call (codes "data") (d.value ∷ [])))) nothing

-- an expression in brackets is that expression
abbrev pub listed : List Expr → Expr
listed [] = nothing
listed (e ∷ []) = e
listed (e ∷ f ∷ more) = roll-Expr (Comma (e ∷ f ∷ more))

abbrev pub own_values : List KeyParts → Expr
own_values ds = listed (map values_by ds)

abbrev pub is_key_value : Expr
is_key_value =
    library_call (codes "deep-equal") (variable_of key_name ∷ variable_of value_name ∷ [])

-- `some $x:key in (..) satisfies some $x:value in $x:values satisfies deep-equal($x:key, $x:value)`:
-- all values of the node are made before one is compared
abbrev pub has_value : List KeyParts → Expr
has_value ds =
    some_in key_name (own_values ds) (some_in value_name (variable_of values_name) is_key_value)

abbrev pub key_body : List KeyParts → Expr
key_body ds =
    for_in item_name nodes_of_tree
    (for_in item_name with_attributes (if_of (has_value ds) the_item nothing))

-- `declare function local:NAME($x:item as node(), $x:values as xs:anyAtomicType*) { .. }`: where there
-- is no item the call fails once its arguments are evaluated
abbrev pub key_function : List ℕ → List KeyParts → QueryFunction
key_function local ds = record {
  name = record { uri = local_uri; local = local };
  params = record { name = item_name; kind = Some (Of (Kind Node) One) }
      ∷ record { name = values_name; kind = Some (Of (Atomic type.Any) Many) } ∷ [];
  kind = None;
  body = key_body ds;
}
