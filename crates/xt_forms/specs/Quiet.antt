-- Predicates that fail on no node, as patterns have them.
use Rattle.std.specs.Prelude.{ℕ, List, [], ◌∷◌, Bool, true, false, ◌&&◌, if◌then◌else◌, codes}
use Rattle.std.specs.List.{list_all}
use Rattle.std.specs.Str.{bytes_eq}
use Rattle.xt_names.specs.declared.names.ExprName.{ExprName}
use Rattle.function_table.specs.Find.{is_in_fn}
use Rattle.xt_forms.specs.NamedTexts.{is_one_of}
use Rattle.xt_forms.specs.Regular.{is_regular_expr}
use Rattle.xt_forms.specs.declared.quiet_forms.QuietForm.{QuietForm}
use Rattle.xt_forms.specs.declared.quiet_forms.QuietForm.TheVariants as form
use Rattle.xt_forms.specs.declared.quiet_calls.QuietCall.{QuietCall}
use Rattle.xt_forms.specs.declared.quiet_calls.QuietCall.TheVariants as call
use Rattle.xt_syntax.specs.declared.exprs.Expr.{Expr}
use Rattle.xt_syntax.specs.declared.exprs.Clause.TheOpen.{Int, Str, Var, Context, Root, Comma, Or, And, If, Flwor, Quant, General, Value, Is, Before, After, Range, Arith, Minus, Plus, Union, Intersect, Except, InstanceOf, Treat, Castable, Cast, Slash, Step, Filter, Call, ElemC, AttrC, DocC, TextC, CommentC, PiC, Direct}
use Rattle.xt_syntax.specs.Layers.{Kinds, Steps, ExprLayer, expr_gives}

abbrev pub quiets : Kinds
quiets = record { Clauses = Unit {0}; Exprs = QuietForm; Names = Unit {0}; Parts = Unit {0}; Arms = Unit {0}; Binds = Unit {0}; Attrs = Unit {0}; Flwors = Unit {0}; Orders = Unit {0} }

-- steps joined by `/`
unfoldable pub is_path : QuietForm → Bool
is_path form.Integer = false
is_path form.Literal = false
is_path form.Position = false
is_path form.Last = false
is_path form.NameOf = false
is_path form.CountOf = false
is_path form.Step = true
is_path form.Path = true
is_path form.Condition = false
is_path form.Other = false

-- what `or`, `and` and `not` take
unfoldable pub is_truth : QuietForm → Bool
is_truth form.Integer = false
is_truth form.Literal = false
is_truth form.Position = false
is_truth form.Last = false
is_truth form.NameOf = false
is_truth form.CountOf = false
is_truth form.Step = true
is_truth form.Path = true
is_truth form.Condition = true
is_truth form.Other = false

-- what a whole predicate is: an integer and last() stand alone
unfoldable pub is_predicate : QuietForm → Bool
is_predicate form.Integer = true
is_predicate form.Literal = false
is_predicate form.Position = false
is_predicate form.Last = true
is_predicate form.NameOf = false
is_predicate form.CountOf = false
is_predicate form.Step = true
is_predicate form.Path = true
is_predicate form.Condition = true
is_predicate form.Other = false

abbrev pub condition_if : Bool → QuietForm
condition_if b = if b then form.Condition else form.Other

abbrev pub joined : List QuietForm → QuietForm
joined all = condition_if (list_all is_truth all)

abbrev pub stepped : Bool → QuietForm
stepped quiet = if quiet then form.Step else form.Other

-- a path is read from the left, so after its last `/` is one step
unfoldable pub slashed : QuietForm → QuietForm → QuietForm
slashed a form.Step = if is_path a then form.Path else form.Other
slashed a form.Integer = form.Other
slashed a form.Literal = form.Other
slashed a form.Position = form.Other
slashed a form.Last = form.Other
slashed a form.NameOf = form.Other
slashed a form.CountOf = form.Other
slashed a form.Path = form.Other
slashed a form.Condition = form.Other
slashed a form.Other = form.Other

-- what is compared with an integer
unfoldable pub is_number : QuietForm → Bool
is_number form.Integer = false
is_number form.Literal = false
is_number form.Position = true
is_number form.Last = true
is_number form.NameOf = false
is_number form.CountOf = true
is_number form.Step = false
is_number form.Path = false
is_number form.Condition = false
is_number form.Other = false

-- what is compared with a literal
unfoldable pub is_text : QuietForm → Bool
is_text form.Integer = false
is_text form.Literal = false
is_text form.Position = false
is_text form.Last = false
is_text form.NameOf = true
is_text form.CountOf = false
is_text form.Step = true
is_text form.Path = true
is_text form.Condition = false
is_text form.Other = false

-- what is compared with last()
unfoldable pub is_position : QuietForm → Bool
is_position form.Integer = false
is_position form.Literal = false
is_position form.Position = true
is_position form.Last = false
is_position form.NameOf = false
is_position form.CountOf = false
is_position form.Step = false
is_position form.Path = false
is_position form.Condition = false
is_position form.Other = false

unfoldable pub compared : QuietForm → QuietForm → QuietForm
compared a form.Integer = condition_if (is_number a)
compared a form.Literal = condition_if (is_text a)
compared a form.Last = condition_if (is_position a)
compared a form.Position = form.Other
compared a form.NameOf = form.Other
compared a form.CountOf = form.Other
compared a form.Step = form.Other
compared a form.Path = form.Other
compared a form.Condition = form.Other
compared a form.Other = form.Other

-- the functions that quiet predicates call
unfoldable pub local_call : List ℕ → QuietCall
local_call local =
    if is_one_of local (codes "true" ∷ codes "false" ∷ []) then call.Constant
    else if bytes_eq local (codes "not") then call.Not
    else if bytes_eq local (codes "position") then call.Position
    else if bytes_eq local (codes "last") then call.Last
    else if is_one_of local (codes "exists" ∷ codes "empty" ∷ []) then call.Exists
    else if bytes_eq local (codes "count") then call.Count
    else if is_one_of local (codes "name" ∷ codes "local-name" ∷ []) then call.NameOf
    else call.Other

unfoldable pub quiet_call : ExprName → QuietCall
quiet_call name = if is_in_fn name then local_call name.local else call.Other

unfoldable pub called : QuietCall → QuietForm
called call.Constant = form.Condition
called call.Not = form.Other
called call.Position = form.Position
called call.Last = form.Last
called call.Exists = form.Other
called call.Count = form.Other
called call.NameOf = form.NameOf
called call.Other = form.Other

unfoldable pub called_with : QuietCall → QuietForm → QuietForm
called_with call.Constant a = form.Other
called_with call.Not a = condition_if (is_truth a)
called_with call.Position a = form.Other
called_with call.Last a = form.Other
called_with call.Exists a = condition_if (is_path a)
called_with call.Count a = if is_path a then form.CountOf else form.Other
called_with call.NameOf a = form.Other
called_with call.Other a = form.Other

-- calls with one argument or none
unfoldable pub call_form : QuietCall → List QuietForm → QuietForm
call_form f [] = called f
call_form f (a ∷ []) = called_with f a
call_form f (a ∷ b ∷ more) = form.Other

abbrev pub expr_quiet : ExprLayer quiets → QuietForm
expr_quiet (Int n) = form.Integer
expr_quiet (Str text) = form.Literal
expr_quiet (Var name) = form.Other
expr_quiet Context = form.Other
expr_quiet Root = form.Other
expr_quiet (Comma all) = form.Other
expr_quiet (Or all) = joined all
expr_quiet (And all) = joined all
expr_quiet (If arms other) = form.Other
expr_quiet (Flwor parts) = form.Other
expr_quiet (Quant every_one binds test) = form.Other
expr_quiet (General op a b) = compared a b
expr_quiet (Value op a b) = form.Other
expr_quiet (Is a b) = form.Other
expr_quiet (Before a b) = form.Other
expr_quiet (After a b) = form.Other
expr_quiet (Range a b) = form.Other
expr_quiet (Arith op a b) = form.Other
expr_quiet (Minus a) = form.Other
expr_quiet (Plus a) = form.Other
expr_quiet (Union a b) = form.Other
expr_quiet (Intersect a b) = form.Other
expr_quiet (Except a b) = form.Other
expr_quiet (InstanceOf a kind) = form.Other
expr_quiet (Treat a kind) = form.Other
expr_quiet (Castable a kind empty) = form.Other
expr_quiet (Cast a kind empty) = form.Other
expr_quiet (Slash a b) = slashed a b
expr_quiet (Step axis node_test tests) = stepped (list_all is_predicate tests)
expr_quiet (Filter of tests) = form.Other
expr_quiet (Call name args) = call_form (quiet_call name) args
expr_quiet (ElemC name content) = form.Other
expr_quiet (AttrC name content) = form.Other
expr_quiet (DocC content) = form.Other
expr_quiet (TextC content) = form.Other
expr_quiet (CommentC content) = form.Other
expr_quiet (PiC name content) = form.Other
expr_quiet (Direct name attrs parts) = form.Other

abbrev pub quiet_steps : Steps quiets
quiet_steps = record {
  of_expr = expr_quiet;
  of_clause = λ c. tt;
  of_name = λ n. tt;
  of_part = λ p. tt;
  of_arm = λ a. tt;
  of_bind = λ b. tt;
  of_attr = λ a. tt;
  of_flwor = λ f. tt;
  of_order = λ o. tt;
}

abbrev pub quiet_form_of : Expr → QuietForm
quiet_form_of = expr_gives quiets quiet_steps

-- what a text spells that is such a predicate
abbrev pub is_quiet_expr : Expr → Bool
is_quiet_expr e = is_regular_expr e && is_predicate (quiet_form_of e)
