-- The static rules that a part of a production can break (XPath 2.0, 2.1.1, 2.5 and 3.2.1.1; XQuery 1.0, 3.7.1.1).
use Rattle.std.specs.Prelude.{ℕ, List, [], ◌∷◌, ◌++◌, Bool, false, ◌&&◌, if◌then◌else◌}
use Rattle.std.specs.List.{list_any}
use Rattle.std.specs.Str.{bytes_eq}
use Rattle.xt_names.specs.declared.names.Binding.{Binding}
use Rattle.xt_names.specs.declared.names.ExprName.{ExprName}
use Rattle.xt_names.specs.declared.names.Name.{Name}
use Rattle.xt_names.specs.declared.codes.Code.{Code}
use Rattle.xt_names.specs.declared.codes.Code.TheVariants.{QueryStatic}
use Rattle.xt_names.specs.declared.codes.QueryStaticCode.TheVariants.{XPST0010, XQST0040, XQST0089}
use Rattle.xt_syntax.specs.declared.exprs.Expr.{Expr}
use Rattle.expr_names.specs.Names.{undeclared_in, test_broken}
use Rattle.expr_names.specs.Types.{type_named, call_type, known_broken, cast_broken, arity_broken}
use Rattle.expr_names.specs.Doubles.{names_differ}
use Rattle.expr_keys.specs.declared.keys.Key.{Key}
use Rattle.expr_keys.specs.declared.keys.Key.TheVariants.{NamespaceWord as namespace_word}
use Rattle.expr_keys.specs.declared.productions.Production.{Production}
use Rattle.expr_keys.specs.declared.productions.Production.TheVariants as production
use Rattle.expr_keys.specs.declared.productions.Level.{Level}
use Rattle.expr_keys.specs.declared.productions.Level.TheVariants as level
use Rattle.expr_rules.specs.declared.expr_meant.meant.Meant.{Meant}
use Rattle.expr_rules.specs.declared.expr_meant.meant.Meant.TheVariants as meant
use Rattle.expr_rules.specs.ExprMeant.Parts.{key_of}
use Rattle.expr_rules.specs.ExprMeant.Names.{written_of, written_test_in}
use Rattle.expr_rules.specs.Known.{name_of, named_type}

-- a prefix is declared
abbrev pub undeclared_of : List Binding → Meant → List Code
undeclared_of bound m = undeclared_in bound (written_of m)

-- .. that of a name test too
unfoldable pub test_broken_of : List Binding → Meant → List Code
test_broken_of bound (meant.Token t) = test_broken bound (written_test_in t)
test_broken_of bound _ = []

-- an atomic type is known
unfoldable pub type_broken_of : List Binding → Meant → List Code
type_broken_of bound (meant.Token t) = undeclared_of bound (meant.Token t) ++ known_broken (named_type bound (meant.Token t))
type_broken_of bound _ = []

-- .. and one that a cast is to
unfoldable pub cast_broken_of : List Binding → Meant → List Code
cast_broken_of bound (meant.Token t) = undeclared_of bound (meant.Token t) ++ cast_broken (named_type bound (meant.Token t))
cast_broken_of bound _ = []

-- the namespace axis is left out
unfoldable pub axis_key_broken : Key → List Code
axis_key_broken namespace_word = QueryStatic XPST0010 ∷ []
axis_key_broken _ = []

abbrev pub axis_broken : Meant → List Code
axis_broken m = axis_key_broken (key_of m)

unfoldable pub operated_broken : Level → List Binding → Meant → List Code
operated_broken level.InstanceOf bound m = type_broken_of bound m
operated_broken level.Treat bound m = type_broken_of bound m
operated_broken _ bound m = []

-- the rules that a part breaks where it is in the production; it is the first one, or a later one
unfoldable pub own_broken : List Binding → Production → Bool → Meant → List Code
own_broken bound production.AxisStep first m = if first then axis_broken m else test_broken_of bound m
own_broken bound production.AttributeStep first m = test_broken_of bound m
own_broken bound production.TestStep first m = test_broken_of bound m
own_broken bound production.NamedKind first m = test_broken_of bound m
own_broken bound production.Variable first m = undeclared_of bound m
own_broken bound production.Call first m = undeclared_of bound m
own_broken bound production.ForIn first m = undeclared_of bound m
own_broken bound production.LetAssign first m = undeclared_of bound m
own_broken bound production.QuantifiedIn first m = undeclared_of bound m
own_broken bound production.AtVariable first m = undeclared_of bound m
own_broken bound production.Constructed first m = undeclared_of bound m
own_broken bound production.DirectElement first m = undeclared_of bound m
own_broken bound production.ChildElement first m = undeclared_of bound m
own_broken bound production.AttributeValue first m = undeclared_of bound m
own_broken bound production.AsType first m = type_broken_of bound m
own_broken bound production.ItemsType first m = if first then type_broken_of bound m else []
own_broken bound production.SingleAtomicType first m = cast_broken_of bound m
own_broken bound (production.OperatorTail l) first m = operated_broken l bound m
own_broken bound _ first m = []

-- the arguments of a call
unfoldable pub args_in : Meant → List Expr
args_in (meant.Arguments args) = args
args_in _ = []

abbrev pub args_of : List Meant → List Expr
args_of [] = []
args_of (m ∷ ms) = args_in m

-- a call of the name of an atomic type has one argument
abbrev pub call_broken : List Binding → List ℕ → List Meant → List Code
call_broken bound functions [] = []
call_broken bound functions (m ∷ ms) = arity_broken (call_type (type_named (name_of bound functions m))) (args_of ms)

-- the part is the variable behind `at`, of this name
unfoldable pub is_place_of : ExprName → Meant → Bool
is_place_of n (meant.Place p) = bytes_eq n.uri p.uri && bytes_eq n.local p.local
is_place_of n _ = false

-- a `for` has two names for its item and its position (XQuery 1.0, 3.8.1)
abbrev pub bind_broken : List Binding → List Meant → List Code
bind_broken bound [] = []
bind_broken bound (m ∷ ms) = if list_any (is_place_of (name_of bound [] m)) ms then QueryStatic XQST0089 ∷ [] else []

-- the rules that are tested once all parts are there
unfoldable pub end_broken : List Binding → List ℕ → Production → List Meant → List Code
end_broken bound functions production.Call ms = call_broken bound functions ms
end_broken bound functions production.ForIn ms = bind_broken bound ms
end_broken bound functions _ ms = []

abbrev pub name_and : Meant → List Name → List Name
name_and (meant.Attribute a) ns = a.name ∷ ns
name_and _ ns = ns

abbrev pub attr_names : List Meant → List Name
attr_names [] = []
attr_names (m ∷ ms) = name_and m (attr_names ms)

-- no two attributes have one name
abbrev pub doubles_broken : List Meant → List Code
doubles_broken ms = if names_differ (attr_names ms) then [] else QueryStatic XQST0040 ∷ []
