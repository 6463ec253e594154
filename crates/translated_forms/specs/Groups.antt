-- xsl:for-each-group (XSLT 2.0, 14.3).
use Rattle.std.specs.Prelude.{List, [], ◌∷◌, ◌++◌, Bool, ◌||◌, codes, if◌then◌else◌}
use Rattle.xt_names.specs.declared.kinds.ArithOp.TheVariants.{Sub}
use Rattle.xt_names.specs.declared.kinds.CompareOp.TheVariants.{Eq, Gt}
use Rattle.xt_names.specs.declared.names.ExprName.{ExprName}
use Rattle.xt_syntax.specs.declared.exprs.Clause.{Clause}
use Rattle.xt_syntax.specs.declared.exprs.Expr.{Expr}
use Rattle.xt_syntax.specs.declared.exprs.Order.{Order}
use Rattle.xt_syntax.specs.declared.exprs.Clause.TheViews.{roll-Expr}
use Rattle.xt_syntax.specs.declared.exprs.Clause.TheOpen.{Context, Or, General, Arith}
use Rattle.carried_exprs.specs.Sights.{item_name, size_name, group_name, key_name, variable_of, position_name}
use Rattle.carried_exprs.specs.Sights.{value_name}
use Rattle.carried_exprs.specs.Sights.{the_item, nothing, library_call}
use Rattle.translated_forms.specs.Names.{items_name, atom_name, keys_name}
use Rattle.translated_forms.specs.Names.{starts_name, index_name, start_name, next_name}
use Rattle.translated_forms.specs.Forms.{let_clause, for_at_clause, flow, flow_where, flow_ordered}
use Rattle.translated_forms.specs.Forms.{flow_or_body, some_in, if_of, filtered, number, local_call}
use Rattle.translated_forms.specs.Forms.{count_of, same_key}
use Rattle.translated_forms.specs.Mentions.{mentions, in_clauses, in_orders}
use Rattle.translated_forms.specs.Converted.{data_of}
use Rattle.translated_forms.specs.Loops.{in_turn, the_items, items_let, size_let}

-- a name that is bound before the rest
pub record Named : Type 0 where
  pub name : ExprName
  pub value : Expr

-- Of bindings that end and make nothing those whose names are mentioned after them.
abbrev pub needed_before : Named → (ExprName → Bool) → List Clause → List Clause
needed_before b used cs =
    if in_clauses b.name cs || used b.name then let_clause b.name b.value ∷ cs else cs

abbrev pub needed : List Named → (ExprName → Bool) → List Clause
needed [] used = []
needed (b ∷ bs) used = needed_before b used (needed bs used)

-- what goes over the groups: the variable that tells one from the others, the list of what it holds,
-- and what is bound for the group
pub record Grouped : Type 0 where
  pub variable : ExprName
  pub source : ExprName
  pub members : List Named

abbrev pub first_in_group : Expr
first_in_group = filtered (variable_of group_name) (number 1 ∷ [])

-- the first item, and the number of groups
abbrev pub focus_of_group : ExprName → List Named
focus_of_group source =
    record { name = item_name; value = first_in_group }
    ∷ record { name = size_name; value = count_of source } ∷ []

abbrev pub at_each : Grouped → Expr → Clause
at_each g e = for_at_clause g.variable position_name e

abbrev pub in_orders_of : List Order → ExprName → Bool
in_orders_of orders name = in_orders name orders

abbrev pub in_body : Expr → ExprName → Bool
in_body body name = mentions name body

-- the groups in the order of their keys
unfoldable pub groups_ordered : Grouped → List Order → Expr
groups_ordered g [] = variable_of g.source
groups_ordered g (o ∷ orders) =
    flow_ordered (at_each g (variable_of g.source) ∷ needed g.members (in_orders_of (o ∷ orders)))
    (o ∷ orders) (variable_of g.variable)

-- the body at each group in its turn, after these clauses
unfoldable pub each_group : List Clause → Grouped → List Order → Expr → Expr
each_group clauses g orders body =
    flow (clauses ++ at_each g (groups_ordered g orders) ∷ [])
    (flow_or_body (needed g.members (in_body body)) body)

-- the population; it is counted where the grouping key mentions its number
abbrev pub size_if_mentioned : Expr → List Clause
size_if_mentioned key = if mentions size_name key then size_let ∷ [] else []

abbrev pub population : Expr → Expr → List Clause
population select key = items_let select ∷ size_if_mentioned key

-- group-by: the different keys, and for each the items that have it. The key has another name while
-- keys are evaluated, since these may read that of an outer group.
abbrev pub has_key : Expr → Expr
has_key key = some_in atom_name (data_of key) (same_key atom_name value_name)

abbrev pub members_by : Expr → Expr
members_by key = flow_where (in_turn the_items ∷ []) (has_key key) the_item

abbrev pub grouped_by : Expr → Grouped
grouped_by key = record {
  variable = value_name;
  source = keys_name;
  members = record { name = group_name; value = members_by key }
      ∷ record { name = key_name; value = variable_of value_name } ∷ focus_of_group keys_name;
}

abbrev pub different_keys : Expr → Clause
different_keys key =
    let_clause keys_name
    (library_call (codes "distinct-values") (flow (in_turn the_items ∷ []) (data_of key) ∷ []))

unfoldable pub each_group_by : Expr → Expr → List Order → Expr → Expr
each_group_by select key orders body =
    each_group (population select key ++ different_keys key ∷ []) (grouped_by key) orders body

-- groups from one start up to the next: `subsequence($items, $start, $next - $start)`
abbrev pub subsequence_of : List Expr → Expr
subsequence_of args = library_call (codes "subsequence") args

abbrev pub up_to_next : Expr
up_to_next = roll-Expr (Arith Sub (variable_of next_name) (variable_of start_name))

abbrev pub items_from_start : Expr
items_from_start =
    if_of (library_call (codes "empty") (variable_of next_name ∷ []))
    (subsequence_of (the_items ∷ variable_of start_name ∷ []))
    (subsequence_of (the_items ∷ variable_of start_name ∷ up_to_next ∷ []))

abbrev pub start_behind : Expr
start_behind =
    filtered (variable_of starts_name)
    (roll-Expr (General Gt (roll-Expr Context) (variable_of start_name)) ∷ number 1 ∷ [])

-- the groups that begin at starts, each with this key
abbrev pub grouped_at : Expr → Grouped
grouped_at key = record {
  variable = start_name;
  source = starts_name;
  members = record { name = key_name; value = key }
      ∷ record { name = next_name; value = start_behind }
      ∷ record { name = group_name; value = items_from_start } ∷ focus_of_group starts_name;
}

-- the indexes of the items at which the test holds
abbrev pub starts_let : ExprName → ExprName → Expr → Clause
starts_let variable source test =
    let_clause starts_name
    (flow_where (for_at_clause variable index_name (variable_of source) ∷ []) test
    (variable_of index_name))

-- group-adjacent: each item has one key, and a group starts where it is not the one before
abbrev pub all_keys : Expr → Clause
all_keys key =
    let_clause keys_name
    (flow (in_turn the_items ∷ []) (library_call (codes "exactly-one") (data_of key ∷ [])))

abbrev pub key_before : Expr
key_before =
    subsequence_of (variable_of keys_name
    ∷ roll-Expr (Arith Sub (variable_of index_name) (number 1)) ∷ number 1 ∷ [])

abbrev pub is_new_key : Expr
is_new_key =
    library_call (codes "not")
    (library_call (codes "deep-equal") (variable_of value_name ∷ key_before ∷ []) ∷ [])

abbrev pub key_at_start : Expr
key_at_start = filtered (variable_of keys_name) (variable_of start_name ∷ [])

unfoldable pub each_group_adjacent : Expr → Expr → List Order → Expr → Expr
each_group_adjacent select key orders body =
    each_group
    (population select key
    ++ all_keys key ∷ starts_let value_name keys_name is_new_key ∷ [])
    (grouped_at key_at_start) orders body

-- group-starting-with: the items are nodes, and a group starts at the first and where the test holds;
-- there is no key
abbrev pub is_start : Expr → Expr
is_start test =
    roll-Expr (Or (roll-Expr (General Eq (variable_of index_name) (number 1)) ∷ test ∷ []))

abbrev pub nodes_of : Expr → Expr
nodes_of e = local_call (codes "nodes") (e ∷ [])

unfoldable pub each_group_starting : Expr → Expr → List Order → Expr → Expr
each_group_starting select test orders body =
    each_group
    (items_let (nodes_of select) ∷ starts_let item_name items_name (is_start test) ∷ [])
    (grouped_at nothing) orders body
