-- The function `simple` of a generated query: the simple content of items (XSLT 2.0, 5.7.2). Text
-- nodes that stand beside each other join without the separator, and empty ones go. Where there is no
-- text node it counts nothing.
use Rattle.std.specs.Prelude.{[], ◌∷◌, pos, codes, None}
use Rattle.xt_names.specs.declared.kinds.ArithOp.TheVariants.{Sub}
use Rattle.xt_names.specs.declared.names.ExprName.{ExprName}
use Rattle.xt_types.specs.declared.node_tests.Test.TheVariants.{Text}
use Rattle.xt_syntax.specs.declared.exprs.Expr.{Expr}
use Rattle.xt_syntax.specs.declared.exprs.Clause.TheViews.{roll-Expr}
use Rattle.xt_syntax.specs.declared.exprs.Clause.TheOpen.{Arith}
use Rattle.xt_syntax.specs.declared.queries.QueryFunction.{QueryFunction}
use Rattle.carried_exprs.specs.Sights.{made_name, item_name, position_name, local_uri, variable_of}
use Rattle.carried_exprs.specs.Sights.{nothing, library_call}
use Rattle.query_helpers.specs.Forms.{for_in, for_at, let_in, if_of, some_in, is_of_kind, both_of}
use Rattle.query_helpers.specs.Forms.{integer_of, text_literal}
use Rattle.query_helpers.specs.LastBody.{items_name}

abbrev pub separator_name : ExprName
separator_name = made_name (codes "separator")

abbrev pub kept_name : ExprName
kept_name = made_name (codes "kept")

abbrev pub before_name : ExprName
before_name = made_name (codes "before")

abbrev pub is_text_in : ExprName → Expr
is_text_in v = is_of_kind (variable_of v) Text

abbrev pub string_in : ExprName → Expr
string_in v = library_call (codes "string") (variable_of v ∷ [])

-- all but empty text nodes
abbrev pub some_text : Expr
some_text = some_in item_name (variable_of items_name) (is_text_in item_name)

abbrev pub kept_text : Expr
kept_text =
    if_of (is_text_in item_name) (if_of (string_in item_name) (variable_of item_name) nothing)
    (variable_of item_name)

abbrev pub kept_texts : Expr
kept_texts = for_at item_name position_name (variable_of items_name) kept_text

-- the separator comes before an item that has one before it, unless both are text nodes
abbrev pub one_before : Expr
one_before =
    library_call (codes "subsequence")
    (variable_of kept_name
    ∷ roll-Expr (Arith Sub (variable_of position_name) (integer_of (pos 1))) ∷ integer_of (pos 1) ∷ [])

abbrev pub is_parted : Expr
is_parted =
    some_in before_name one_before
    (library_call (codes "not") (both_of (is_text_in item_name) (is_text_in before_name) ∷ []))

abbrev pub with_gap : Expr
with_gap =
    library_call (codes "concat")
    (if_of is_parted (variable_of separator_name) (text_literal [])
    ∷ string_in item_name ∷ [])

abbrev pub joined_kept : Expr
joined_kept =
    library_call (codes "string-join")
    (for_at item_name position_name (variable_of kept_name) with_gap ∷ text_literal [] ∷ [])

abbrev pub run_texts : Expr
run_texts = let_in kept_name kept_texts joined_kept

abbrev pub plain_texts : Expr
plain_texts =
    library_call (codes "string-join")
    (for_in item_name (variable_of items_name) (string_in item_name)
    ∷ variable_of separator_name ∷ [])

abbrev pub simple_body : Expr
simple_body = if_of some_text run_texts plain_texts

abbrev pub simple_function : QueryFunction
simple_function = record {
  name = record { uri = local_uri; local = codes "simple" };
  params = record { name = items_name; kind = None }
      ∷ record { name = separator_name; kind = None } ∷ [];
  kind = None;
  body = simple_body;
}
