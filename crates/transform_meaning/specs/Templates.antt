-- Templates and functions of a stylesheet, and how deep they call each other (XSLT 2.0, 6, 10).
use Rattle.std.specs.Prelude.{ℕ, zero, suc, List, [], ◌∷◌, map, length, slice_get}
use Rattle.std.specs.Prelude.{Bool, ◌&&◌, ◌==◌, if◌then◌else◌, Option, Some, None, option_and_then, Result, Ok}
use Rattle.xt_names.specs.declared.codes.Code.{Code}
use Rattle.xt_names.specs.declared.codes.Code.TheVariants.{QueryStatic, SheetStatic}
use Rattle.xt_names.specs.declared.codes.QueryStaticCode.TheVariants.{XPST0017}
use Rattle.xt_names.specs.declared.codes.SheetStaticCode.TheVariants.{XTSE0650}
use Rattle.xt_names.specs.declared.names.ExprName.{ExprName}
use Rattle.xt_syntax.specs.declared.exprs.Expr.{Expr}
use Rattle.xt_syntax.specs.declared.patterns.Pattern.{Pattern}
use Rattle.xt_tree.specs.declared.trees.Tree.{Tree}
use Rattle.xdm_items.specs.declared.items.Item.{Item}
use Rattle.doc_set.specs.Sets.{DocumentSet}
use Rattle.xt_sheets.specs.declared.instrs.Bound.{Bound}
use Rattle.xt_sheets.specs.declared.sheets.Rule.{Rule}
use Rattle.xt_sheets.specs.declared.sheets.Sheet.{Sheet}
use Rattle.xt_sheets.specs.declared.sheets.SheetFunction.{SheetFunction}
use Rattle.xt_sheets.specs.declared.sheets.Template.{Template}
use Rattle.rule_order.specs.Rules.{rule_at}
use Rattle.xdm_items.specs.FunctionArguments.Arguments.{and_then as result_then}
use Rattle.expr_meaning.specs.Outcomes.Outcome.{Outcome, Fails, Deep, and_then, step_outcome}
use Rattle.expr_meaning.specs.Env.{Binding, Calls, Meaning, Program}
use Rattle.expr_meaning.specs.Queries.{Given, body_env, converted_to}
use Rattle.transform_meaning.specs.Bindings.{TemplateMeaning, converted_value, template_of}
use Rattle.transform_meaning.specs.Dispatch.{Doors, built_in_of}
use Rattle.transform_meaning.specs.Instrs.{bound_does, body_does}
use Rattle.transform_meaning.specs.Keys.{keys_of}
use Rattle.transform_meaning.specs.Places.{item_in}
use Rattle.xt_names.specs.ExprNames.{same_name}

-- What is fixed while a stylesheet runs. The document has the number 0, the further ones those from
-- 1, and the trees that are made those behind.
pub record Run : Type 0 where
  pub sheet : Sheet
  pub document : Tree
  pub documents : DocumentSet
  pub given : List Given

-- what the expressions of a stylesheet stand in; they compute no names
abbrev pub program_of : Run → List Binding → Calls → Program
program_of run globals calls = record {
  calls = calls;
  keys = keys_of run.document run.documents run.sheet.keys;
  documents = run.documents;
  globals = globals;
  namespaces = [];
  element_default = [];
}

abbrev pub template_does : Sheet → Doors → Template → TemplateMeaning
template_does sheet doors t = record {
  params = map (bound_does sheet doors) t.params;
  kind = t.kind;
  body = body_does sheet doors t.body;
}

-- a template, if there is one, where these parameters are passed
abbrev pub template_run : Sheet → Doors → Option Template → List Binding → Meaning
template_run sheet doors None passed env k = Fails (SheetStatic XTSE0650)
template_run sheet doors (Some t) passed env k =
    template_of (template_does sheet doors t) passed env k

abbrev pub template_at : Sheet → Doors → ℕ → List Binding → Meaning
template_at sheet doors place = template_run sheet doors (slice_get sheet.templates place)

-- the template of the rule, or the built-in rules where there is none
abbrev pub by_rule : Sheet → Doors → Option Rule → List Binding → Meaning
by_rule sheet doors None passed env k =
    built_in_of sheet.rules doors passed (item_in env.focus) env k
by_rule sheet doors (Some r) passed env k = template_at sheet doors r.template passed env k

-- the focus node by the current rule
abbrev pub entered : Sheet → Doors → List Binding → Meaning
entered sheet doors passed env k =
    by_rule sheet doors (option_and_then (rule_at sheet.rules) env.state.rule) passed env k

-- the function of the name with so many parameters
abbrev pub is_called : SheetFunction → ExprName → ℕ → Bool
is_called f name arity = same_name f.name name && length f.params == arity

abbrev pub find_function : List SheetFunction → ExprName → ℕ → Option SheetFunction
find_function [] name arity = None
find_function (f ∷ fs) name arity =
    if is_called f name arity then Some f else find_function fs name arity

-- the parameters with the arguments, each converted in turn
abbrev pub bound_args : List (Bound Expr Pattern) → List (List Item) → Result (List Binding) Code
bound_args [] args = Ok []
bound_args (p ∷ ps) [] = Ok []
bound_args (p ∷ ps) (xs ∷ args) =
    result_then (converted_to p.kind xs) (λ ys.
    result_then (bound_args ps args) (λ bs. Ok ((p.name, ys) ∷ bs)))

-- the content of a function sees its parameters and the globals, and has no focus, no current rule
-- and no group, the default mode and no tunnel parameter (10.3)
abbrev pub function_run : Sheet → Doors → SheetFunction → List Binding → ℕ → Outcome (List Item)
function_run sheet doors f bound k =
    converted_value f.kind (body_does sheet doors f.body) (body_env bound) k

-- the doors after a call: none where no call is left
abbrev pub if_left : Option Doors → (Doors → ℕ → Outcome (List Item)) → ℕ → Outcome (List Item)
if_left None go k = Deep
if_left (Some doors) go k = go doors k

-- a call of a function: the arguments are converted before a call is found to be lacked
abbrev pub called_function : Sheet → Option Doors → Option SheetFunction → List (List Item) → ℕ →
    Outcome (List Item)
called_function sheet left None args k = Fails (QueryStatic XPST0017)
called_function sheet left (Some f) args k =
    and_then (step_outcome (bound_args f.params args) k) (λ bound.
    if_left left (λ doors. function_run sheet doors f bound))

abbrev pub calls_behind : Sheet → Option Doors → Calls
calls_behind sheet left name args k =
    called_function sheet left (find_function sheet.functions name (length args)) args k

-- the ways out of an instruction, where calls lead to these doors
abbrev pub doors_before : Run → List Binding → Option Doors → Doors
doors_before run globals left = record {
  program = program_of run globals (calls_behind run.sheet left);
  enter = λ passed env. if_left left (λ doors. entered run.sheet doors passed env);
  named = λ place passed env. if_left left (λ doors. template_at run.sheet doors place passed env);
}

-- .. with so many calls left: of functions, of named templates, and of rules, built-in ones as well
abbrev pub doors_at : Run → List Binding → ℕ → Doors
doors_at run globals zero = doors_before run globals None
doors_at run globals (suc n) = doors_before run globals (Some (doors_at run globals n))
