-- What small stylesheets become: the functions and the body of their queries.
use Rattle.std.specs.Prelude.{◌≡◌, ℕ, ℤ, pos, List, [], ◌∷◌, ◌++◌, true, false, Some, None, codes}
use Rattle.xt_names.specs.declared.names.ExprName.{ExprName}
use Rattle.xt_syntax.specs.declared.exprs.Arm.{Arm}
use Rattle.xt_syntax.specs.declared.exprs.Expr.{Expr}
use Rattle.xt_syntax.specs.declared.exprs.Clause.TheViews.{roll-Expr}
use Rattle.xt_syntax.specs.declared.exprs.Clause.TheOpen.{Comma, Context, Call as CallOf, DocC, Or}
use Rattle.xt_syntax.specs.declared.patterns.Pattern.{Pattern}
use Rattle.xt_syntax.specs.declared.queries.QueryFunction.{QueryFunction}
use Rattle.xt_syntax.specs.declared.queries.QueryParam.{QueryParam}
use Rattle.xt_types.specs.declared.axes.Axis.TheVariants as axis
use Rattle.xt_types.specs.declared.node_tests.NameTest.TheVariants.{Any}
use Rattle.xt_types.specs.declared.node_tests.Test.TheVariants.{Named, Text, Attr}
use Rattle.xt_sheets.specs.declared.instrs.Instr.TheViews.{roll-Value}
use Rattle.xt_sheets.specs.declared.instrs.Instr.TheOpen.{Select}
use Rattle.xt_sheets.specs.declared.sheets.Level.{Level}
use Rattle.xt_sheets.specs.declared.sheets.Rule.{Rule}
use Rattle.xt_sheets.specs.declared.sheets.Sheet.{Sheet}
use Rattle.xt_sheets.specs.declared.sheets.Template.{Template}
use Rattle.carried_exprs.specs.Sights.{item_name, size_name, variable_of, the_item, nothing, library_call, position_name}
use Rattle.translated_forms.specs.Names.{items_name, count_name, mode_function, rule_function}
use Rattle.translated_forms.specs.Names.{next_function, named_function, flag_name, passed_name, given_name}
use Rattle.translated_forms.specs.Forms.{flow, let_clause, for_at_clause, if_many, if_of, arm_of, is_of_kind, number}
use Rattle.translation.specs.PatternTests.{match_test}
use Rattle.translation.specs.Sheets.{helper_functions, query_of_sheet}
use Rattle.translation_rows.specs.Samples.{TheInstr, BoundForm, bind_it, do_it, named, string}
use Rattle.translation_rows.specs.Rows.{all_children, bound_p, call_with_p, chars, count_items, element_r, items}
use Rattle.translation_rows.specs.Rows.{literal_r, text_of, value_of, value_text, next}

-- stylesheets
abbrev pub elements : Pattern
elements = record {
  rooted = false;
  steps = record { axis = axis.Child; test = Named Any; quiet = []; deep = false } ∷ [];
}

abbrev pub rule_of : ℕ → ℕ → ℤ → Rule
rule_of template precedence priority = record {
  template = template;
  pattern = elements;
  modes = 0 ∷ [];
  precedence = precedence;
  priority = priority;
}

abbrev pub matched : List TheInstr → Template
matched body = record { name = None; params = []; kind = None; body = body; has_match = true }

abbrev pub sheet_of : List Level → List Rule → List Template → Sheet
sheet_of levels rules templates = record {
  levels = levels;
  globals = [];
  templates = templates;
  rules = rules;
  functions = [];
  keys = [];
  modes = named [] ∷ [];
  space = [];
  omit = false;
}

-- one rule
abbrev pub one_rule : Sheet
one_rule =
    sheet_of (record { first = 1 } ∷ []) (rule_of 0 1 (pos 0) ∷ [])
    (matched (do_it (literal_r []) ∷ []) ∷ [])

abbrev pub three_rules : Sheet
three_rules =
    sheet_of (record { first = 1 } ∷ [])
    (rule_of 0 1 (pos 0) ∷ rule_of 1 1 (pos 5) ∷ rule_of 0 1 (pos 0) ∷ [])
    (matched (do_it (chars (codes "a")) ∷ []) ∷ matched (do_it next ∷ []) ∷ [])

-- a named template with a parameter that has a default
abbrev pub default_d : BoundForm
default_d = record bound_p { value = roll-Value Expr Pattern (Select (string (codes "d"))) }

abbrev pub p_var : Expr
p_var = variable_of (named (codes "p"))

abbrev pub named_n : Template
named_n = record {
  name = Some (named (codes "n"));
  params = bind_it default_d ∷ [];
  kind = None;
  body = do_it (value_of p_var) ∷ [];
  has_match = false;
}

abbrev pub calling : Sheet
calling =
    sheet_of (record { first = 1 } ∷ []) (rule_of 1 1 (pos 0) ∷ [])
    (named_n ∷ matched (do_it call_with_p ∷ []) ∷ [])

-- queries
abbrev pub focus_arguments : List Expr
focus_arguments = the_item ∷ variable_of position_name ∷ variable_of size_name ∷ []

abbrev pub param : ExprName → QueryParam
param name = record { name = name; kind = None }

abbrev pub focus_params : List QueryParam
focus_params = param item_name ∷ param position_name ∷ param size_name ∷ []

abbrev pub function_of : ExprName → List QueryParam → Expr → QueryFunction
function_of name params body = record { name = name; params = params; kind = None; body = body }

abbrev pub call_of : ExprName → List Expr → Expr
call_of name args = roll-Expr (CallOf name args)

abbrev pub in_turn : ExprName → List Expr → Expr
in_turn name more =
    flow (let_clause items_name all_children ∷ let_clause count_name count_items
    ∷ for_at_clause item_name position_name items ∷ [])
    (call_of name (the_item ∷ variable_of position_name ∷ variable_of count_name ∷ more))

-- the rules that are built in
abbrev pub built_in_items : List Expr → List Expr
built_in_items more =
    in_turn (mode_function 0) more
    ∷ if_of (roll-Expr (Or (is_of_kind the_item Text ∷ is_of_kind the_item (Attr Any) ∷ [])))
    (text_of (library_call (codes "string") (the_item ∷ []))) nothing ∷ []

abbrev pub built_in : List Expr → Expr
built_in more = roll-Expr (Comma (built_in_items more))

abbrev pub arm_for : ℕ → List Expr → Arm
arm_for place more =
    arm_of (match_test elements, call_of (rule_function place 0) (focus_arguments ++ more))

abbrev pub start : List Expr → Expr
start more =
    roll-Expr (DocC (call_of (mode_function 0) (roll-Expr Context ∷ number 1 ∷ number 1 ∷ more)))

-- the parameter p
abbrev pub flag : Expr
flag = variable_of (flag_name (codes "p") 1)

abbrev pub passed : Expr
passed = variable_of (passed_name (codes "p") 1)

abbrev pub with_p : List QueryParam
with_p =
    focus_params ++ (param (flag_name (codes "p") 1) ∷ param (passed_name (codes "p") 1) ∷ [])

abbrev pub p_or_default : Expr
p_or_default = if_of flag passed (string (codes "d"))

pub record SheetRows : Type 0 where
  pub one : (query_of_sheet one_rule).functions
      ≡ function_of (mode_function 0) focus_params (if_many (arm_for 1 [] ∷ []) (built_in []))
      ∷ function_of (rule_function 1 0) focus_params (element_r (roll-Expr (Comma [])))
      ∷ helper_functions
  pub one_body : (query_of_sheet one_rule).body ≡ start []
  pub order : (query_of_sheet three_rules).functions
      ≡ function_of (mode_function 0) focus_params
      (if_many (arm_for 2 [] ∷ arm_for 3 [] ∷ arm_for 1 [] ∷ []) (built_in []))
      ∷ function_of (rule_function 1 0) focus_params (text_of (string (codes "a")))
      ∷ function_of (rule_function 2 0) focus_params (call_of (next_function 2 0) focus_arguments)
      ∷ function_of (next_function 2 0) focus_params
      (if_many (arm_for 3 [] ∷ arm_for 1 [] ∷ []) (built_in []))
      ∷ function_of (rule_function 3 0) focus_params (text_of (string (codes "a")))
      ∷ helper_functions
  pub parameters : (query_of_sheet calling).functions
      ≡ function_of (mode_function 0) with_p
      (if_many (arm_for 1 (flag ∷ passed ∷ []) ∷ []) (built_in (flag ∷ passed ∷ [])))
      ∷ function_of (rule_function 1 0) with_p
      (flow (let_clause (given_name (codes "p") 1) (string (codes "1")) ∷ [])
      (call_of (named_function 1) (focus_arguments
      ++ (library_call (codes "true") [] ∷ variable_of (given_name (codes "p") 1) ∷ []))))
      ∷ function_of (named_function 1) with_p
      (flow (let_clause (named (codes "p")) p_or_default ∷ []) (value_text p_var))
      ∷ helper_functions
  pub parameters_body : (query_of_sheet calling).body
      ≡ start (library_call (codes "false") [] ∷ nothing ∷ [])
