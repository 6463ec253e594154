-- The function `nodes` of a generated query: the items, which are nodes (XSLT 2.0, 6.3).
use Rattle.std.specs.Prelude.{[], ◌∷◌, codes, Some, None}
use Rattle.xt_types.specs.declared.node_tests.Test.TheVariants.{Node}
use Rattle.xt_types.specs.declared.types.ItemType.TheVariants.{Kind}
use Rattle.xt_types.specs.declared.types.SeqType.TheVariants.{Of}
use Rattle.xt_types.specs.declared.types.Count.TheVariants.{Many}
use Rattle.xt_syntax.specs.declared.queries.QueryFunction.{QueryFunction}
use Rattle.carried_exprs.specs.Sights.{local_uri, variable_of}
use Rattle.query_helpers.specs.LastBody.{items_name}

abbrev pub nodes_function : QueryFunction
nodes_function = record {
  name = record { uri = local_uri; local = codes "nodes" };
  params = record { name = items_name; kind = Some (Of (Kind Node) Many) } ∷ [];
  kind = None;
  body = variable_of items_name;
}
