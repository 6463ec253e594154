-- Numbers of names that are used (XSLT 2.0, 6.5 and 10.1).
use Rattle.std.specs.Prelude.{ℕ, List, [], Bool, true, nat_eq}
use Rattle.std.specs.List.{list_any, list_all}
use Rattle.xt_names.specs.declared.names.ExprName.{ExprName}
use Rattle.xt_syntax.specs.declared.exprs.Expr.{Expr}
use Rattle.xt_syntax.specs.declared.patterns.Pattern.{Pattern}
use Rattle.xt_sheets.specs.declared.values.ModeUse.{ModeUse}
use Rattle.xt_sheets.specs.declared.values.ModeUse.TheVariants.{Number, Current}
use Rattle.sheet_values.specs.SheetTexts.Names.{number_of}
use Rattle.sheet_rules.specs.declared.sheet_declarations.lists.Declaration.{Declaration}
use Rattle.sheet_rules.specs.Uses.{declared_uses}
use Rattle.sheet_uses.specs.declared.uses.Use.{Use}
use Rattle.sheet_uses.specs.declared.uses.Use.TheVariants as use_of

-- the number is that of one of the names
abbrev pub is_number_in : List ExprName → ℕ → Bool
is_number_in names number = list_any (λ n. nat_eq (number_of names n) number) names

abbrev pub has_mode : List ExprName → ModeUse → Bool
has_mode modes (Number mode) = is_number_in modes mode
has_mode modes Current = true

-- a mode has the number of one of these modes, and a template that is called that of one of these
-- names
unfoldable pub has_number : List ExprName → List ExprName → Use → Bool
has_number modes called (use_of.Variable name) = true
has_number modes called (use_of.Call name arity literal) = true
has_number modes called (use_of.Template number passed) = is_number_in called number
has_number modes called (use_of.Apply mode) = has_mode modes mode

-- .. and so have all that are used
abbrev pub have_numbers : List ExprName → List ExprName → List (Declaration Expr Pattern) → Bool
have_numbers modes called ds = list_all (has_number modes called) (declared_uses ds [] [])
