-- The uris of the names in a query, which need prefixes where it is printed.
use Rattle.std.specs.Prelude.{ℕ, List, [], ◌∷◌, ◌++◌, flat_map, Option, Some, None}
use Rattle.xt_names.specs.declared.names.ExprName.{ExprName}
use Rattle.xt_types.specs.declared.node_tests.NameTest.{NameTest}
use Rattle.xt_types.specs.declared.node_tests.NameTest.TheVariants as name
use Rattle.xt_types.specs.declared.node_tests.Test.{Test}
use Rattle.xt_types.specs.declared.node_tests.Test.TheVariants as test
use Rattle.xt_types.specs.declared.node_tests.SpaceRule.{SpaceRule}
use Rattle.xt_types.specs.declared.types.ItemType.{ItemType}
use Rattle.xt_types.specs.declared.types.ItemType.TheVariants as item
use Rattle.xt_types.specs.declared.types.SeqType.{SeqType}
use Rattle.xt_types.specs.declared.types.SeqType.TheVariants.{Empty, Of}
use Rattle.xt_syntax.specs.declared.exprs.Expr.{Expr}
use Rattle.xt_syntax.specs.declared.queries.QueryFunction.{QueryFunction}
use Rattle.xt_syntax.specs.declared.queries.QueryParam.{QueryParam}
use Rattle.xt_syntax.specs.declared.queries.QueryVar.{QueryVar}
use Rattle.xt_syntax.specs.declared.exprs.Clause.TheOpen.{Int, Str, Var, Context, Root, Comma, Or}
use Rattle.xt_syntax.specs.declared.exprs.Clause.TheOpen.{And, If, Flwor, Quant, General, Value, Is}
use Rattle.xt_syntax.specs.declared.exprs.Clause.TheOpen.{Before, After, Range, Arith, Minus, Plus}
use Rattle.xt_syntax.specs.declared.exprs.Clause.TheOpen.{Union, Intersect, Except, InstanceOf}
use Rattle.xt_syntax.specs.declared.exprs.Clause.TheOpen.{Treat, Castable, Cast, Slash, Step}
use Rattle.xt_syntax.specs.declared.exprs.Clause.TheOpen.{Filter, Call, ElemC, AttrC, DocC, TextC}
use Rattle.xt_syntax.specs.declared.exprs.Clause.TheOpen.{CommentC, PiC, Direct, For, Let, Fixed}
use Rattle.xt_syntax.specs.declared.exprs.Clause.TheOpen.{Computed, Chars, Enclosed, Child}
use Rattle.xt_syntax.specs.Layers.{Kinds, Steps, ExprLayer, ClauseLayer, NameLayer, PartLayer}
use Rattle.xt_syntax.specs.Layers.{FlworLayer, expr_gives}

abbrev pub Uris : Type 0
Uris = List (List ℕ)

abbrev pub joined : List Uris → Uris
joined [] = []
joined (us ∷ rest) = us ++ joined rest

unfoldable pub name_test_uris : NameTest → Uris
name_test_uris name.Any = []
name_test_uris (name.Uri uri) = uri ∷ []
name_test_uris (name.Local local) = []
name_test_uris (name.Exact n) = n.uri ∷ []

unfoldable pub test_uris : Test → Uris
test_uris (test.Named n) = name_test_uris n
test_uris test.Node = []
test_uris test.Text = []
test_uris test.Comment = []
test_uris (test.Pi target) = []
test_uris test.Doc = []
test_uris (test.Elem n) = name_test_uris n
test_uris (test.Attr n) = name_test_uris n

unfoldable pub item_uris : ItemType → Uris
item_uris item.Any = []
item_uris (item.Kind wanted) = test_uris wanted
item_uris (item.Atomic kind) = []

unfoldable pub type_uris : SeqType → Uris
type_uris Empty = []
type_uris (Of kind count) = item_uris kind

unfoldable pub kind_uris : Option SeqType → Uris
kind_uris None = []
kind_uris (Some kind) = type_uris kind

abbrev pub uris : Kinds
uris = record {
  Clauses = Uris;
  Exprs = Uris;
  Names = Uris;
  Parts = Uris;
  Arms = Uris;
  Binds = Uris;
  Attrs = Uris;
  Flwors = Uris;
  Orders = Uris;
}

abbrev pub if_some : Option Uris → Uris
if_some None = []
if_some (Some us) = us

abbrev pub name_uris : Option ExprName → Uris
name_uris None = []
name_uris (Some name) = name.uri ∷ []

abbrev pub expr_uris : ExprLayer uris → Uris
expr_uris (Int n) = []
expr_uris (Str text) = []
expr_uris (Var name) = name.uri ∷ []
expr_uris Context = []
expr_uris Root = []
expr_uris (Comma all) = joined all
expr_uris (Or all) = joined all
expr_uris (And all) = joined all
expr_uris (If arms other) = joined arms ++ other
expr_uris (Flwor parts) = parts
expr_uris (Quant every binds test) = joined binds ++ test
expr_uris (General op a b) = a ++ b
expr_uris (Value op a b) = a ++ b
expr_uris (Is a b) = a ++ b
expr_uris (Before a b) = a ++ b
expr_uris (After a b) = a ++ b
expr_uris (Range a b) = a ++ b
expr_uris (Arith op a b) = a ++ b
expr_uris (Minus a) = a
expr_uris (Plus a) = a
expr_uris (Union a b) = a ++ b
expr_uris (Intersect a b) = a ++ b
expr_uris (Except a b) = a ++ b
expr_uris (InstanceOf a kind) = a ++ type_uris kind
expr_uris (Treat a kind) = a ++ type_uris kind
expr_uris (Castable a kind empty) = a
expr_uris (Cast a kind empty) = a
expr_uris (Slash a b) = a ++ b
expr_uris (Step axis wanted tests) = test_uris wanted ++ joined tests
expr_uris (Filter of tests) = of ++ joined tests
expr_uris (Call name args) = name.uri ∷ joined args
expr_uris (ElemC name content) = name ++ content
expr_uris (AttrC name content) = name ++ content
expr_uris (DocC content) = content
expr_uris (TextC content) = content
expr_uris (CommentC content) = content
expr_uris (PiC name content) = name ++ content
expr_uris (Direct name attrs parts) = name.uri ∷ (joined attrs ++ joined parts)

abbrev pub clause_uris : ClauseLayer uris → Uris
clause_uris (For bind place) = name_uris place ++ bind
clause_uris (Let bind) = bind

abbrev pub source_uris : NameLayer uris → Uris
source_uris (Fixed name) = name.uri ∷ []
source_uris (Computed e) = e

abbrev pub part_uris : PartLayer uris → Uris
part_uris (Chars text) = []
part_uris (Enclosed e) = e
part_uris (Child e) = e

abbrev pub flwor_uris : FlworLayer uris → Uris
flwor_uris f = joined f.clauses ++ (if_some f.test ++ (joined f.orders ++ f.body))

abbrev pub uri_steps : Steps uris
uri_steps = record {
  of_expr = expr_uris;
  of_clause = clause_uris;
  of_name = source_uris;
  of_part = part_uris;
  of_arm = λ a. a.test ++ a.then;
  of_bind = λ b. b.var.uri ∷ (kind_uris b.kind ++ b.source);
  of_attr = λ a. a.name.uri ∷ joined a.parts;
  of_flwor = flwor_uris;
  of_order = λ o. o.key;
}

abbrev pub uris_in : Expr → Uris
uris_in = expr_gives uris uri_steps

abbrev pub uris_in_value : Option Expr → Uris
uris_in_value None = []
uris_in_value (Some e) = uris_in e

-- in declarations
abbrev pub uris_of_variable : QueryVar → Uris
uris_of_variable v = v.name.uri ∷ (kind_uris v.kind ++ uris_in_value v.value)

abbrev pub uris_of_param : QueryParam → Uris
uris_of_param p = p.name.uri ∷ kind_uris p.kind

abbrev pub uris_of_function : QueryFunction → Uris
uris_of_function f =
    f.name.uri ∷ (flat_map uris_of_param f.params ++ (kind_uris f.kind ++ uris_in f.body))

abbrev pub uris_of_rule : SpaceRule → Uris
uris_of_rule r = name_test_uris r.test
