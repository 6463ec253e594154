-- Expressions that may be carried: no constructor, no name that the translation makes up, the name of
-- a key is a literal, and the current group, keys and functions are used only where they may be
-- (XSLT 2.0, 14.3 and 16).
use Rattle.std.specs.Prelude.{List, [], ◌∷◌, length, Bool, true, false, ◌&&◌, Option, Some, None}
use Rattle.std.specs.List.{list_all}
use Rattle.xt_names.specs.Classes.{is_xml_text}
use Rattle.xt_names.specs.declared.names.ExprName.{ExprName}
use Rattle.xt_syntax.specs.declared.exprs.Expr.{Expr}
use Rattle.xt_syntax.specs.declared.exprs.Arm.{Arm}
use Rattle.xt_syntax.specs.declared.exprs.Clause.{Clause}
use Rattle.xt_syntax.specs.declared.exprs.Order.{Order}
use Rattle.xt_syntax.specs.declared.exprs.Flwor.{Flwor as FlworOf}
use Rattle.xt_syntax.specs.declared.exprs.Bind.{Bind}
use Rattle.xt_syntax.specs.declared.exprs.Clause.TheOpen.{Int, Str, Var, Context, Root, Comma, Or}
use Rattle.xt_syntax.specs.declared.exprs.Clause.TheOpen.{And, If, Flwor, Quant, General, Value, Is}
use Rattle.xt_syntax.specs.declared.exprs.Clause.TheOpen.{Before, After, Range, Arith, Minus, Plus}
use Rattle.xt_syntax.specs.declared.exprs.Clause.TheOpen.{Union, Intersect, Except, InstanceOf}
use Rattle.xt_syntax.specs.declared.exprs.Clause.TheOpen.{Treat, Castable, Cast, Slash, Step}
use Rattle.xt_syntax.specs.declared.exprs.Clause.TheOpen.{Filter, Call, ElemC, AttrC, DocC, TextC}
use Rattle.xt_syntax.specs.declared.exprs.Clause.TheOpen.{CommentC, PiC, Direct, For, Let}
use Rattle.xt_syntax.specs.Layers.{Kinds, Steps, ExprLayer, ClauseLayer, FlworLayer, expr_gives}
use Rattle.xt_syntax.specs.Layers.{clause_gives, arm_gives, bind_gives, flwor_gives, order_gives}
use Rattle.expr_meaning.specs.Calls.{Called, library, document, current, current_group, current_key}
use Rattle.expr_meaning.specs.Calls.{key, declared, called}
use Rattle.carried_exprs.specs.Sights.{Setting, may_call, may_name}

-- whether a part may be carried, and whether it is a literal
pub record PartFit : Type 0 where
  pub fits : Bool
  pub literal : Bool

abbrev pub plain : Bool → PartFit
plain fits = record { fits = fits; literal = false }

abbrev pub fit_kinds : Kinds
fit_kinds = record {
  Clauses = Bool;
  Exprs = PartFit;
  Names = Bool;
  Parts = Bool;
  Arms = Bool;
  Binds = Bool;
  Attrs = Bool;
  Flwors = Bool;
  Orders = Bool;
}

abbrev pub all_fit : List PartFit → Bool
all_fit all = list_all (λ a. a.fits) all

abbrev pub every : List Bool → Bool
every all = list_all (λ b. b) all

abbrev pub both : PartFit → PartFit → PartFit
both a b = plain (a.fits && b.fits)

abbrev pub begins_with_literal : List PartFit → Bool
begins_with_literal [] = false
begins_with_literal (a ∷ all) = a.literal

abbrev pub call_fits : Setting → Called → ExprName → List PartFit → Bool
call_fits w (library f) name args = true
call_fits w document name args = true
call_fits w current name args = true
call_fits w current_group name args = w.has_group
call_fits w current_key name args = w.has_group
call_fits w key name args = w.has_keys && begins_with_literal args
call_fits w declared name args = may_call w name

abbrev pub test_fits : Option PartFit → Bool
test_fits None = true
test_fits (Some a) = a.fits

abbrev pub place_fits : Setting → Option ExprName → Bool
place_fits w None = true
place_fits w (Some at) = may_name w at

abbrev pub expr_fit : Setting → ExprLayer fit_kinds → PartFit
expr_fit w (Int n) = plain true
expr_fit w (Str text) = record { fits = is_xml_text text; literal = true }
expr_fit w (Var name) = plain (may_name w name)
expr_fit w Context = plain true
expr_fit w Root = plain true
expr_fit w (Comma all) = plain (all_fit all)
expr_fit w (Or all) = plain (all_fit all)
expr_fit w (And all) = plain (all_fit all)
expr_fit w (If arms other) = plain (every arms && other.fits)
expr_fit w (Flwor parts) = plain parts
expr_fit w (Quant every_one binds test) = plain (every binds && test.fits)
expr_fit w (General op a b) = both a b
expr_fit w (Value op a b) = both a b
expr_fit w (Is a b) = both a b
expr_fit w (Before a b) = both a b
expr_fit w (After a b) = both a b
expr_fit w (Range a b) = both a b
expr_fit w (Arith op a b) = both a b
expr_fit w (Minus a) = plain a.fits
expr_fit w (Plus a) = plain a.fits
expr_fit w (Union a b) = both a b
expr_fit w (Intersect a b) = both a b
expr_fit w (Except a b) = both a b
expr_fit w (InstanceOf a kind) = plain a.fits
expr_fit w (Treat a kind) = plain a.fits
expr_fit w (Castable a kind empty) = plain a.fits
expr_fit w (Cast a kind empty) = plain a.fits
expr_fit w (Slash a b) = both a b
expr_fit w (Step axis wanted tests) = plain (all_fit tests)
expr_fit w (Filter of tests) = plain (of.fits && all_fit tests)
expr_fit w (Call name args) =
    plain (call_fits w (called name (length args)) name args && all_fit args)
expr_fit w (ElemC name content) = plain false
expr_fit w (AttrC name content) = plain false
expr_fit w (DocC content) = plain false
expr_fit w (TextC content) = plain false
expr_fit w (CommentC content) = plain false
expr_fit w (PiC name content) = plain false
expr_fit w (Direct name attrs parts) = plain false

abbrev pub clause_fits : Setting → ClauseLayer fit_kinds → Bool
clause_fits w (For bind place) = bind && place_fits w place
clause_fits w (Let bind) = bind

abbrev pub flwor_fits : FlworLayer fit_kinds → Bool
flwor_fits f = every f.clauses && (test_fits f.test && (every f.orders && f.body.fits))

abbrev pub fit_steps : Setting → Steps fit_kinds
fit_steps w = record {
  of_expr = expr_fit w;
  of_clause = clause_fits w;
  of_name = λ n. false;
  of_part = λ p. false;
  of_arm = λ a. a.test.fits && a.then.fits;
  of_bind = λ b. may_name w b.var && b.source.fits;
  of_attr = λ a. false;
  of_flwor = flwor_fits;
  of_order = λ o. o.key.fits;
}

abbrev pub fit_of : Setting → Expr → PartFit
fit_of w = expr_gives fit_kinds (fit_steps w)

abbrev pub is_fit_arm : Setting → Arm → Bool
is_fit_arm w = arm_gives fit_kinds (fit_steps w)

abbrev pub is_fit_clause : Setting → Clause → Bool
is_fit_clause w = clause_gives fit_kinds (fit_steps w)

abbrev pub is_fit_bind : Setting → Bind → Bool
is_fit_bind w = bind_gives fit_kinds (fit_steps w)

abbrev pub is_fit_order : Setting → Order → Bool
is_fit_order w = order_gives fit_kinds (fit_steps w)

abbrev pub is_fit_flwor : Setting → FlworOf → Bool
is_fit_flwor w = flwor_gives fit_kinds (fit_steps w)

-- an expression as a stylesheet has it there
abbrev pub may_be_carried : Setting → Expr → Bool
may_be_carried w e = (fit_of w e).fits
