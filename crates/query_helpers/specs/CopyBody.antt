-- The function `copy` of a generated query: a new node with the same tree below it; an atom stays as it
-- is (XSLT 2.0, 11.9).
use Rattle.std.specs.Prelude.{List, [], ◌∷◌, codes, None}
use Rattle.xt_types.specs.declared.axes.Axis.{Axis}
use Rattle.xt_types.specs.declared.axes.Axis.TheVariants.{Attribute, Child}
use Rattle.xt_types.specs.declared.node_tests.NameTest.TheVariants.{Any}
use Rattle.xt_types.specs.declared.node_tests.Test.TheVariants.{Node, Doc, Elem, Attr, Text, Comment, Pi}
use Rattle.xt_syntax.specs.declared.exprs.Expr.{Expr}
use Rattle.xt_syntax.specs.declared.exprs.NameSource.{NameSource}
use Rattle.xt_syntax.specs.declared.exprs.Clause.TheViews.{roll-Expr, roll-NameSource}
use Rattle.xt_syntax.specs.declared.exprs.Clause.TheOpen.{Comma, Slash, Step, ElemC, AttrC, DocC}
use Rattle.xt_syntax.specs.declared.exprs.Clause.TheOpen.{TextC, CommentC, PiC, Computed}
use Rattle.xt_syntax.specs.declared.queries.QueryFunction.{QueryFunction}
use Rattle.carried_exprs.specs.Sights.{item_name, local_uri, the_item, library_call}
use Rattle.query_helpers.specs.Forms.{if_many, is_of_kind}

-- `$item/attribute::node()` and `$item/child::node()`
abbrev pub all_along : Axis → Expr
all_along axis = roll-Expr (Slash the_item (roll-Expr (Step axis Node [])))

abbrev pub all_content : Expr
all_content = roll-Expr (Comma (all_along Attribute ∷ all_along Child ∷ []))

abbrev pub own_name : NameSource
own_name = roll-NameSource (Computed (library_call (codes "node-name") (the_item ∷ [])))

abbrev pub own_string : Expr
own_string = library_call (codes "string") (the_item ∷ [])

abbrev pub copy_arms : List (Expr × Expr)
copy_arms =
    (is_of_kind the_item Doc, roll-Expr (DocC the_item))
    ∷ (is_of_kind the_item (Elem Any), roll-Expr (ElemC own_name all_content))
    ∷ (is_of_kind the_item (Attr Any), roll-Expr (AttrC own_name own_string))
    ∷ (is_of_kind the_item Text, roll-Expr (TextC own_string))
    ∷ (is_of_kind the_item Comment, roll-Expr (CommentC own_string))
    ∷ (is_of_kind the_item (Pi None), roll-Expr (PiC own_name own_string)) ∷ []

abbrev pub copy_body : Expr
copy_body = if_many copy_arms the_item

abbrev pub copy_function : QueryFunction
copy_function = record {
  name = record { uri = local_uri; local = codes "copy" };
  params = record { name = item_name; kind = None } ∷ [];
  kind = None;
  body = copy_body;
}
