-- Expressions and parts of the form that the grammar gives (XPath 2.0, 3; XQuery 1.0, 3).
use Rattle.std.specs.Prelude.{ℕ, List, [], ◌∷◌, length, Bool, true, false, not, ◌&&◌, ◌||◌, ◌==◌, nat_le, pos, int_le, Option, Some, None, codes}
use Rattle.std.specs.List.{list_all}
use Rattle.std.specs.Str.{bytes_eq}
use Rattle.xt_names.specs.Allowed.{is_empty_text}
use Rattle.xt_names.specs.declared.names.ExprName.{ExprName}
use Rattle.xt_names.specs.declared.names.Name.{Name}
use Rattle.xt_names.specs.declared.kinds.AtomType.{AtomType}
use Rattle.xt_names.specs.declared.kinds.AtomType.TheVariants as atom
use Rattle.xt_syntax.specs.XtTypes.declared.types.SeqType.{SeqType}
use Rattle.xt_syntax.specs.XtTypes.Regular.{is_regular_test, is_regular_type}
use Rattle.xt_forms.specs.NamedTexts.{is_one_of}
use Rattle.xt_syntax.specs.declared.exprs.Expr.{Expr}
use Rattle.xt_syntax.specs.declared.exprs.Arm.{Arm}
use Rattle.xt_syntax.specs.declared.exprs.Clause.{Clause}
use Rattle.xt_syntax.specs.declared.exprs.Order.{Order}
use Rattle.xt_syntax.specs.declared.exprs.Flwor.{Flwor as FlworOf}
use Rattle.xt_syntax.specs.declared.exprs.Bind.{Bind}
use Rattle.xt_syntax.specs.declared.exprs.NameSource.{NameSource}
use Rattle.xt_syntax.specs.declared.exprs.DirectAttr.{DirectAttr}
use Rattle.xt_syntax.specs.declared.exprs.Part.{Part}
use Rattle.xt_syntax.specs.declared.exprs.Clause.TheOpen.{Int, Str, Var, Context, Root, Comma, Or, And, If, Flwor, Quant, General, Value, Is, Before, After, Range, Arith, Minus, Plus, Union, Intersect, Except, InstanceOf, Treat, Castable, Cast, Slash, Step, Filter, Call, ElemC, AttrC, DocC, TextC, CommentC, PiC, Direct, For, Let, Fixed, Computed, Chars, Enclosed, Child}
use Rattle.xt_syntax.specs.Layers.{Kinds, Steps, ExprLayer, ClauseLayer, NameLayer, PartLayer, FlworLayer, expr_gives, arm_gives, clause_gives, bind_gives, order_gives, name_gives, attr_gives, part_gives, flwor_gives}
use Rattle.xt_forms.specs.declared.facts.ExprFacts.{ExprFacts}
use Rattle.xt_forms.specs.declared.facts.NameFacts.{NameFacts}
use Rattle.xt_forms.specs.declared.facts.PartFacts.{PartFacts}

abbrev pub regulars : Kinds
regulars = record { Clauses = Bool; Exprs = ExprFacts; Names = NameFacts; Parts = PartFacts; Arms = Bool; Binds = Bool; Attrs = Bool; Flwors = Bool; Orders = Bool }

abbrev pub every : List Bool → Bool
every bs = list_all (λ b. b) bs

abbrev pub every_regular : List ExprFacts → Bool
every_regular all = list_all (λ e. e.regular) all

abbrev pub every_part_regular : List PartFacts → Bool
every_part_regular all = list_all (λ p. p.regular) all

abbrev pub is_some_at_all : {A : Type 0} → List A → Bool
is_some_at_all all = not (length all == 0)

-- the types that an atom is cast to
unfoldable pub is_cast_type : AtomType → Bool
is_cast_type atom.Str = true
is_cast_type atom.Untyped = true
is_cast_type atom.Int = true
is_cast_type atom.Bool = true
is_cast_type atom.QName = false
is_cast_type atom.Any = false

abbrev pub cast_names : List (List ℕ)
cast_names = codes "string" ∷ codes "untypedAtomic" ∷ codes "integer" ∷ codes "boolean" ∷ []

-- a call of a name of such a type is a cast
unfoldable pub is_cast_name : ExprName → Bool
is_cast_name name = bytes_eq name.uri (codes "http://www.w3.org/2001/XMLSchema") && is_one_of name.local cast_names

unfoldable pub is_bare_name : Name → Bool
is_bare_name name = is_empty_text name.prefix && is_empty_text name.uri

unfoldable pub is_regular_kind : Option SeqType → Bool
is_regular_kind None = true
is_regular_kind (Some kind) = is_regular_type kind

-- no two runs of characters stand beside each other; `after` says that one stands before
abbrev pub chars_apart : Bool → List PartFacts → Bool
chars_apart after [] = true
chars_apart after (p ∷ ps) = not (after && p.is_chars) && chars_apart p.is_chars ps

abbrev pub are_regular_parts : List PartFacts → Bool
are_regular_parts parts = every_part_regular parts && chars_apart false parts

abbrev pub has_no_child : List PartFacts → Bool
has_no_child parts = list_all (λ p. not p.is_child) parts

-- a form that is neither `if` nor a direct element
abbrev pub other_form : Bool → ExprFacts
other_form regular = record { regular = regular; is_if = false; is_direct = false }

-- an `if`, whose last part is none
abbrev pub if_facts : Bool → ExprFacts → ExprFacts
if_facts arms last = record { regular = arms && last.regular && not last.is_if; is_if = true; is_direct = false }

abbrev pub direct_facts : Bool → ExprFacts
direct_facts regular = record { regular = regular; is_if = false; is_direct = true }

-- a child is a direct element
abbrev pub child_facts : ExprFacts → PartFacts
child_facts e = record { regular = e.regular && e.is_direct; is_chars = false; is_child = true }

abbrev pub two : ExprFacts → ExprFacts → ExprFacts
two a b = other_form (a.regular && b.regular)

abbrev pub expr_facts : ExprLayer regulars → ExprFacts
expr_facts (Int n) = other_form (int_le (pos 0) n)
expr_facts (Str text) = other_form true
expr_facts (Var name) = other_form true
expr_facts Context = other_form true
expr_facts Root = other_form true
expr_facts (Comma all) = other_form (not (length all == 1) && every_regular all)
expr_facts (Or all) = other_form (nat_le 2 (length all) && every_regular all)
expr_facts (And all) = other_form (nat_le 2 (length all) && every_regular all)
expr_facts (If arms other) = if_facts (is_some_at_all arms && every arms) other
expr_facts (Flwor parts) = other_form parts
expr_facts (Quant every_one binds test) = other_form (is_some_at_all binds && every binds && test.regular)
expr_facts (General op a b) = two a b
expr_facts (Value op a b) = two a b
expr_facts (Is a b) = two a b
expr_facts (Before a b) = two a b
expr_facts (After a b) = two a b
expr_facts (Range a b) = two a b
expr_facts (Arith op a b) = two a b
expr_facts (Minus a) = other_form (a.regular)
expr_facts (Plus a) = other_form (a.regular)
expr_facts (Union a b) = two a b
expr_facts (Intersect a b) = two a b
expr_facts (Except a b) = two a b
expr_facts (InstanceOf a kind) = other_form (a.regular && is_regular_type kind)
expr_facts (Treat a kind) = other_form (a.regular && is_regular_type kind)
expr_facts (Castable a kind empty) = other_form (a.regular && is_cast_type kind)
expr_facts (Cast a kind empty) = other_form (a.regular && is_cast_type kind)
expr_facts (Slash a b) = two a b
expr_facts (Step axis node_test tests) = other_form (is_regular_test node_test && every_regular tests)
expr_facts (Filter of tests) = other_form (of.regular && is_some_at_all tests && every_regular tests)
expr_facts (Call name args) = other_form (not (is_cast_name name) && every_regular args)
expr_facts (ElemC name content) = other_form (name.regular && content.regular)
expr_facts (AttrC name content) = other_form (name.regular && content.regular)
expr_facts (DocC content) = other_form (content.regular)
expr_facts (TextC content) = other_form (content.regular)
expr_facts (CommentC content) = other_form (content.regular)
expr_facts (PiC name content) = other_form (name.regular && name.is_bare && content.regular)
expr_facts (Direct name attrs parts) = direct_facts (every attrs && are_regular_parts parts)

abbrev pub clause_regular : ClauseLayer regulars → Bool
clause_regular (For bind place) = bind
clause_regular (Let bind) = bind

abbrev pub name_facts : NameLayer regulars → NameFacts
name_facts (Fixed name) = record { regular = true; is_bare = is_bare_name name }
name_facts (Computed e) = record { regular = e.regular; is_bare = true }

abbrev pub part_facts : PartLayer regulars → PartFacts
part_facts (Chars text) = record { regular = not (is_empty_text text); is_chars = true; is_child = false }
part_facts (Enclosed e) = record { regular = e.regular; is_chars = false; is_child = false }
part_facts (Child e) = child_facts e

abbrev pub test_regular : Option ExprFacts → Bool
test_regular None = true
test_regular (Some e) = e.regular

-- a FLWOR binds, and is stable only where it orders
abbrev pub flwor_regular : FlworLayer regulars → Bool
flwor_regular f =
    is_some_at_all f.clauses && every f.clauses && test_regular f.test && (is_some_at_all f.orders || not f.stable) && every f.orders && f.body.regular

abbrev pub regular_steps : Steps regulars
regular_steps = record {
  of_expr = expr_facts;
  of_clause = clause_regular;
  of_name = name_facts;
  of_part = part_facts;
  of_arm = λ a. a.test.regular && a.then.regular;
  of_bind = λ b. is_regular_kind b.kind && b.source.regular;
  of_attr = λ a. are_regular_parts a.parts && has_no_child a.parts;
  of_flwor = flwor_regular;
  of_order = λ o. o.key.regular;
}

abbrev pub expr_facts_of : Expr → ExprFacts
expr_facts_of = expr_gives regulars regular_steps

abbrev pub is_regular_arm : Arm → Bool
is_regular_arm = arm_gives regulars regular_steps

abbrev pub is_regular_clause : Clause → Bool
is_regular_clause = clause_gives regulars regular_steps

abbrev pub is_regular_bind : Bind → Bool
is_regular_bind = bind_gives regulars regular_steps

abbrev pub is_regular_order : Order → Bool
is_regular_order = order_gives regulars regular_steps

abbrev pub name_facts_of : NameSource → NameFacts
name_facts_of = name_gives regulars regular_steps

abbrev pub is_regular_attr : DirectAttr → Bool
is_regular_attr = attr_gives regulars regular_steps

abbrev pub part_facts_of : Part → PartFacts
part_facts_of = part_gives regulars regular_steps

abbrev pub is_regular_flwor : FlworOf → Bool
is_regular_flwor = flwor_gives regulars regular_steps

abbrev pub is_regular_expr : Expr → Bool
is_regular_expr e = (expr_facts_of e).regular
