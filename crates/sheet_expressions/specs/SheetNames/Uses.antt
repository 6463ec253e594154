-- The rules that uses of names break, given what a stylesheet declares.
use Rattle.std.specs.Prelude.{ℕ, List, [], ◌∷◌, ◌++◌, Bool, ◌&&◌, ◌||◌, ◌==◌, nat_lt, codes}
use Rattle.std.specs.Prelude.{Option, Some, None, if◌then◌else◌}
use Rattle.std.specs.Str.{bytes_eq}
use Rattle.xt_names.specs.declared.names.ExprName.{ExprName}
use Rattle.xt_names.specs.declared.codes.Code.{Code}
use Rattle.xt_names.specs.declared.codes.Code.TheVariants.{QueryStatic, SheetStatic}
use Rattle.xt_names.specs.declared.codes.QueryStaticCode.TheVariants.{XPST0008, XPST0017}
use Rattle.xt_names.specs.declared.codes.SheetStaticCode.TheVariants.{XTSE0650, XTDE1260}
use Rattle.function_table.specs.Find.{is_in_fn}
use Rattle.name_rules.specs.Scopes.{has_name, may_be_called}
use Rattle.sheet_uses.specs.declared.uses.Use.{Use}
use Rattle.sheet_uses.specs.declared.uses.Use.TheVariants as use_of
use Rattle.sheet_expressions.specs.declared.sheet_names.names.Names.{Names}
use Rattle.sheet_expressions.specs.SheetNames.Names.{as_name}

abbrev pub is_called : ExprName → ℕ → List ℕ → ℕ → Bool
is_called name arity local wanted = bytes_eq name.local local && arity == wanted

-- functions that stylesheets alone may call (XSLT 2.0, 14.1, 16.1, 16.3 and 16.6)
abbrev pub is_of_sheets : ExprName → ℕ → Bool
is_of_sheets name arity =
    is_in_fn name
    && (is_called name arity (codes "current") 0
    || is_called name arity (codes "current-group") 0
    || is_called name arity (codes "current-grouping-key") 0
    || is_called name arity (codes "key") 2
    || is_called name arity (codes "document") 1)

abbrev pub is_key_call : ExprName → ℕ → Bool
is_key_call name arity = is_in_fn name && is_called name arity (codes "key") 2

-- a function of every stylesheet, or one that is declared (XPath 2.0, 3.1.5)
abbrev pub is_callable : Names → ExprName → ℕ → Bool
is_callable names name arity =
    is_of_sheets name arity || may_be_called names.functions name arity

-- a key that is not declared (XSLT 2.0, 16.3)
unfoldable pub broken_key : Names → Option (List ℕ) → Option Code
broken_key names None = None
broken_key names (Some text) =
    if has_name names.keys (as_name text) then None else Some (SheetStatic XTDE1260)

abbrev pub broken_call : Names → ExprName → ℕ → Option (List ℕ) → Option Code
broken_call names name arity literal =
    if is_callable names name arity
    then (if is_key_call name arity then broken_key names literal else None)
    else Some (QueryStatic XPST0017)

-- the rule that the use breaks
unfoldable pub broken_use : Names → Use → Option Code
broken_use names (use_of.Variable name) =
    if has_name names.variables name then None else Some (QueryStatic XPST0008)
broken_use names (use_of.Call name arity literal) = broken_call names name arity literal
broken_use names (use_of.Template number passed) =
    if nat_lt number names.templates then None else Some (SheetStatic XTSE0650)
broken_use names (use_of.Apply mode) = None

abbrev pub broken_in : Option Code → List Code
broken_in None = []
broken_in (Some code) = code ∷ []

-- .. and those that many break, in order
abbrev pub broken_uses : Names → List Use → List Code
broken_uses names [] = []
broken_uses names (u ∷ us) = broken_in (broken_use names u) ++ broken_uses names us
