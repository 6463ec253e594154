-- One stylesheet of declarations in the order of precedence, and the rules that they break together
-- (XSLT 2.0, 3.10.3).
use Rattle.std.specs.Prelude.{ℕ, List, [], ◌∷◌, ◌++◌, map, take, length, nat_lt, Bool, Option, Some}
use Rattle.std.specs.Prelude.{None}
use Rattle.std.specs.List.{range_with_len}
use Rattle.xt_names.specs.declared.names.ExprName.{ExprName}
use Rattle.xt_names.specs.declared.codes.Code.{Code}
use Rattle.xt_names.specs.declared.codes.SheetStaticCode.TheVariants.{XTDE0640}
use Rattle.xt_syntax.specs.declared.exprs.Expr.{Expr}
use Rattle.xt_syntax.specs.declared.patterns.Pattern.{Pattern}
use Rattle.xt_sheets.specs.declared.sheets.Sheet.{Sheet}
use Rattle.xt_sheets.specs.declared.sheets.Template.{Template}
use Rattle.global_needs.specs.Needs.{needs}
use Rattle.global_order.specs.Order.{order_of}
use Rattle.sheet_modules.specs.declared.sheet_levels.levels.SheetLevel.{SheetLevel}
use Rattle.sheet_rules.specs.declared.sheet_declarations.lists.Declaration.{Declaration}
use Rattle.sheet_assembly.specs.Named.{ordered}
use Rattle.sheet_assembly.specs.Sheets.{sheet_of}
use Rattle.sheet_rules.specs.declared.wide_rules.passing.Parameters.{Parameters}
use Rattle.sheet_rules.specs.WideRules.Passing.{parameters_of}
use Rattle.sheet_rules.specs.WideRules.Doubles.{code_if}
use Rattle.sheet_rules.specs.WideRules.First.{first_wide}
use Rattle.sheet_rules.specs.Rules.{broken_rules}

-- The stylesheet with its globals in declaration order, given the names of its modes and of the
-- templates that are called. There are no more globals than declarations.
unfoldable pub declared_sheet : List (Declaration Expr Pattern) → List ExprName → List ExprName
    → List SheetLevel → Sheet
declared_sheet ds modes called levels = sheet_of (record {
  declarations = ds;
  modes = modes;
  called = called;
  levels = levels;
  order = range_with_len 0 (length ds);
})

-- the places of the globals, in the order in which they are evaluated
unfoldable pub evaluation_order : Sheet → List ℕ
evaluation_order s = order_of (needs s)

-- some global depends on itself, through others or not, so the order leaves it out
unfoldable pub is_circular : Sheet → Bool
is_circular s = nat_lt (length (evaluation_order s)) (length s.globals)

-- the parameters of the templates that are called, by their numbers
abbrev pub parameters_in : Template → Parameters
parameters_in t = parameters_of t.params

abbrev pub called_parameters : ℕ → List Template → List Parameters
called_parameters count ts = map parameters_in (take count ts)

-- all rules that the declarations break together
unfoldable pub wide_broken : List (Declaration Expr Pattern) → List ExprName → Sheet → List Code
wide_broken ds called s =
    broken_rules ds called (called_parameters (length called) s.templates)
    ++ code_if (is_circular s) XTDE0640

abbrev pub as_faults : Option Code → List Code
as_faults None = []
as_faults (Some code) = code ∷ []

-- the one of them that is told
unfoldable pub wide_faults : List (Declaration Expr Pattern) → List ExprName → Sheet → List Code
wide_faults ds called s = as_faults (first_wide (wide_broken ds called s))

-- the stylesheet with its globals at these places, in this order
abbrev pub with_order : List ℕ → Sheet → Sheet
with_order order s = record s { globals = ordered s.globals order }

-- .. in the order in which they are evaluated
unfoldable pub in_order : Sheet → Sheet
in_order s = with_order (evaluation_order s) s
