-- What an expression means (XPath 2.0, 3; XQuery 1.0, 3): one line a form, each over the meanings of
-- its parts. Work goes from left to right, and the first error or want of calls is the outcome.
use Rattle.std.specs.Prelude.{[], ◌∷◌, Option, Some, None}
use Rattle.xt_names.specs.declared.names.ExprName.{ExprName}
use Rattle.xt_atoms.specs.declared.atoms.Atom.TheVariants as atom
use Rattle.xdm_items.specs.declared.items.Item.TheVariants.{Atom}
use Rattle.xt_syntax.specs.declared.exprs.Expr.{Expr}
use Rattle.xt_syntax.specs.declared.exprs.Clause.TheOpen.{Int, Str, Var, Context, Root, Comma, Or}
use Rattle.xt_syntax.specs.declared.exprs.Clause.TheOpen.{And, If, Flwor, Quant, General, Value, Is}
use Rattle.xt_syntax.specs.declared.exprs.Clause.TheOpen.{Before, After, Range, Arith, Minus, Plus}
use Rattle.xt_syntax.specs.declared.exprs.Clause.TheOpen.{Union, Intersect, Except, InstanceOf}
use Rattle.xt_syntax.specs.declared.exprs.Clause.TheOpen.{Treat, Castable, Cast, Slash, Step}
use Rattle.xt_syntax.specs.declared.exprs.Clause.TheOpen.{Filter, Call, ElemC, AttrC, DocC, TextC}
use Rattle.xt_syntax.specs.declared.exprs.Clause.TheOpen.{CommentC, PiC, Direct, For, Let, Fixed}
use Rattle.xt_syntax.specs.declared.exprs.Clause.TheOpen.{Computed, Chars, Enclosed, Child}
use Rattle.xt_syntax.specs.Layers.{Kinds, Steps, ExprLayer, ClauseLayer, NameLayer, PartLayer}
use Rattle.xt_syntax.specs.Layers.{expr_gives}
use Rattle.operator_values.specs.Comparisons.{general_value, single_value}
use Rattle.operator_values.specs.Nodes.{is_value, before_value, after_value, union_value}
use Rattle.operator_values.specs.Nodes.{intersect_value, except_value}
use Rattle.operator_values.specs.Numbers.{arithmetic_value, range_value, negated_value}
use Rattle.operator_values.specs.Numbers.{signed_value}
use Rattle.operator_values.specs.Types.{instance_value, treated_value, cast_value, castable_value}
use Rattle.expr_meaning.specs.Env.{Program, Meaning}
use Rattle.expr_meaning.specs.Logic.{or_of, and_of, choice_of, Bound, quantifier_of}
use Rattle.expr_meaning.specs.Values.{just, variable, context, comma_of, unary, binary}
use Rattle.expr_meaning.specs.Paths.{root_of, filter_of, step_of, slash_of}
use Rattle.expr_meaning.specs.Flow.{ClauseMeaning, OrderMeaning, for_clause, for_at_clause}
use Rattle.expr_meaning.specs.Flow.{let_clause, flwor_of}
use Rattle.expr_meaning.specs.Calls.{call_of}
use Rattle.expr_meaning.specs.Names.{NameMeaning, fixed, computed}
use Rattle.expr_meaning.specs.Making.{PartMeaning, chars, enclosed, child, AttributeMeaning}
use Rattle.expr_meaning.specs.Making.{element_made, document_made, attribute_made, text_made}
use Rattle.expr_meaning.specs.Making.{comment_made, pi_made, direct_made}

abbrev pub meanings : Kinds
meanings = record {
  Clauses = ClauseMeaning;
  Exprs = Meaning;
  Names = NameMeaning;
  Parts = PartMeaning;
  Arms = Meaning × Meaning;
  Binds = Bound;
  Attrs = AttributeMeaning;
  Flwors = Meaning;
  Orders = OrderMeaning;
}

abbrev pub expr_means : Program → ExprLayer meanings → Meaning
expr_means program (Int n) = just (Atom (atom.Int n) ∷ [])
expr_means program (Str text) = just (Atom (atom.Str text) ∷ [])
expr_means program (Var name) = variable program name
expr_means program Context = context
expr_means program Root = root_of
expr_means program (Comma all) = comma_of all
expr_means program (Or all) = or_of all
expr_means program (And all) = and_of all
expr_means program (If arms other) = choice_of arms other
expr_means program (Flwor parts) = parts
expr_means program (Quant every binds test) = quantifier_of every binds test
expr_means program (General op a b) = binary (general_value op) a b
expr_means program (Value op a b) = binary (single_value op) a b
expr_means program (Is a b) = binary is_value a b
expr_means program (Before a b) = binary before_value a b
expr_means program (After a b) = binary after_value a b
expr_means program (Range a b) = binary range_value a b
expr_means program (Arith op a b) = binary (arithmetic_value op) a b
expr_means program (Minus a) = unary negated_value a
expr_means program (Plus a) = unary signed_value a
expr_means program (Union a b) = binary union_value a b
expr_means program (Intersect a b) = binary intersect_value a b
expr_means program (Except a b) = binary except_value a b
expr_means program (InstanceOf a kind) = unary (instance_value kind) a
expr_means program (Treat a kind) = unary (treated_value kind) a
expr_means program (Castable a kind empty) = unary (castable_value kind empty) a
expr_means program (Cast a kind empty) = unary (cast_value kind empty) a
expr_means program (Slash a b) = slash_of a b
expr_means program (Step axis node_test tests) = step_of axis node_test tests
expr_means program (Filter of tests) = filter_of of tests
expr_means program (Call name args) = call_of program name args
expr_means program (ElemC name content) = element_made program name content
expr_means program (AttrC name content) = attribute_made program name content
expr_means program (DocC content) = document_made content
expr_means program (TextC content) = text_made content
expr_means program (CommentC content) = comment_made content
expr_means program (PiC name content) = pi_made name content
expr_means program (Direct name attrs parts) = direct_made name attrs parts

abbrev pub placed_clause : Bound → Option ExprName → ClauseMeaning
placed_clause b None = for_clause b
placed_clause b (Some at) = for_at_clause b at

abbrev pub clause_means : ClauseLayer meanings → ClauseMeaning
clause_means (For bind place) = placed_clause bind place
clause_means (Let bind) = let_clause bind

abbrev pub name_means : NameLayer meanings → NameMeaning
name_means (Fixed name) = fixed name
name_means (Computed e) = computed e

abbrev pub part_means : PartLayer meanings → PartMeaning
part_means (Chars text) = chars text
part_means (Enclosed e) = enclosed e
part_means (Child e) = child e

abbrev pub steps : Program → Steps meanings
steps program = record {
  of_expr = expr_means program;
  of_clause = clause_means;
  of_name = name_means;
  of_part = part_means;
  of_arm = λ a. (a.test, a.then);
  of_bind = λ b. record { var = b.var; kind = b.kind; source = b.source };
  of_attr = λ a. (a.name, a.parts);
  of_flwor = λ f. flwor_of f.clauses f.test f.orders f.body;
  of_order = λ o. (o.key, o.descending);
}

-- the meaning of an expression in a program
abbrev pub outcome : Program → Expr → Meaning
outcome program = expr_gives meanings (steps program)
