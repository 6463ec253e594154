-- Globals, functions and keys of a stylesheet (XSLT 2.0, 9.5, 10.3 and 16.3.1).
use Rattle.std.specs.Prelude.{ℕ, List, [], ◌∷◌, ◌++◌, map, Bool, true, false, Option, Some, None, slice_get}
use Rattle.xt_syntax.specs.declared.exprs.Expr.{Expr}
use Rattle.xt_syntax.specs.declared.patterns.Pattern.{Pattern}
use Rattle.xt_sheets.specs.declared.sheets.Global.{Global}
use Rattle.xt_sheets.specs.declared.sheets.SheetFunction.{SheetFunction}
use Rattle.xt_sheets.specs.declared.sheets.KeyRule.{KeyRule}
use Rattle.sheet_modules.specs.declared.modules.GlobalPart.{GlobalPart}
use Rattle.sheet_modules.specs.declared.modules.FunctionPart.{FunctionPart}
use Rattle.sheet_modules.specs.declared.modules.KeyPart.{KeyPart}
use Rattle.sheet_modules.specs.declared.modules.Part.{Part}
use Rattle.sheet_modules.specs.declared.modules.Part.TheVariants as part
use Rattle.sheet_rules.specs.declared.sheet_declarations.lists.Declaration.{Declaration}

-- the first mark, and those after it; where there is none nothing is marked
abbrev pub is_marked : List Bool → Bool
is_marked [] = false
is_marked (m ∷ ms) = m

abbrev pub behind : List Bool → List Bool
behind [] = []
behind (m ∷ ms) = ms

-- what each declaration gives, which counts or not
abbrev pub each_by : {D A : Type 0} → (Bool → D → List A) → List Bool → List D → List A
each_by f marks [] = []
each_by f marks (d ∷ ds) = f (is_marked marks) d ++ each_by f (behind marks) ds

-- what each declaration gives
abbrev pub each : {D A : Type 0} → (D → List A) → List D → List A
each f [] = []
each f (d ∷ ds) = f d ++ each f ds

abbrev pub global : GlobalPart Expr Pattern → Global
global g = record { bound = g.bound; param = g.param }

abbrev pub global_in : Bool → Part Expr Pattern → List Global
global_in true (part.Global g) = global g ∷ []
global_in counts p = []

abbrev pub global_if : Bool → Declaration Expr Pattern → List Global
global_if counts d = global_in counts d.part

abbrev pub at : Option Global → List Global
at None = []
at (Some g) = g ∷ []

-- the globals at these places, in this order
abbrev pub ordered : List Global → List ℕ → List Global
ordered globals [] = []
ordered globals (place ∷ places) = at (slice_get globals place) ++ ordered globals places

abbrev pub sheet_function : FunctionPart Expr Pattern → SheetFunction
sheet_function f = record { name = f.name; params = f.params; kind = f.kind; body = f.body }

abbrev pub function_in : Bool → Part Expr Pattern → List SheetFunction
function_in true (part.Function f) = sheet_function f ∷ []
function_in counts p = []

abbrev pub function_if : Bool → Declaration Expr Pattern → List SheetFunction
function_if counts d = function_in counts d.part

abbrev pub key_rule : KeyPart Expr Pattern → KeyRule
key_rule k = record { name = k.name; pattern = k.pattern; key = k.key }

abbrev pub key_rules : Part Expr Pattern → List KeyRule
key_rules (part.Key keys) = map key_rule keys
key_rules p = []

abbrev pub keys_in : Declaration Expr Pattern → List KeyRule
keys_in d = key_rules d.part
