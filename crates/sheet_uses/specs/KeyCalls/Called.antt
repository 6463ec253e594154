-- Calls of functions that a stylesheet declares (XSLT 2.0, 10.3).
use Rattle.std.specs.Prelude.{List, [], ◌∷◌, ◌++◌, Bool, false, if◌then◌else◌}
use Rattle.xt_names.specs.declared.codes.Code.{Code}
use Rattle.xt_names.specs.declared.codes.Code.TheVariants.{SheetStatic}
use Rattle.xt_names.specs.declared.codes.SheetStaticCode.TheVariants.{XTUN0001}
use Rattle.name_rules.specs.declared.functions.Signature.{Signature}
use Rattle.name_rules.specs.Scopes.{has_function}
use Rattle.sheet_uses.specs.declared.uses.Use.{Use}
use Rattle.sheet_uses.specs.declared.uses.Use.TheVariants as use_of

unfoldable pub is_declared : List Signature → Use → Bool
is_declared functions (use_of.Call name arity literal) = has_function functions name arity
is_declared functions (use_of.Variable name) = false
is_declared functions (use_of.Template number passed) = false
is_declared functions (use_of.Apply mode) = false

abbrev pub called_code : List Signature → Use → List Code
called_code functions u = if is_declared functions u then SheetStatic XTUN0001 ∷ [] else []

abbrev pub called_codes : List Signature → List Use → List Code
called_codes functions [] = []
called_codes functions (u ∷ us) = called_code functions u ++ called_codes functions us
