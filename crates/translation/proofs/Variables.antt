-- The variables of a query are the globals of the stylesheet.
use Rattle.std.proofs.Common.{◌≡◌, List, [], ◌∷◌, map, refl}
use Rattle.std.specs.Prelude.{Bool, true, false, is_none}
use Rattle.xt_syntax.specs.declared.exprs.Expr.{Expr}
use Rattle.xt_syntax.specs.declared.patterns.Pattern.{Pattern}
use Rattle.xt_sheets.specs.declared.instrs.Bound.{Bound}
use Rattle.xt_sheets.specs.declared.sheets.Global.{Global}
use Rattle.xt_sheets.specs.declared.sheets.Sheet.{Sheet}
use Rattle.translated_forms.specs.Places.{Table}
use Rattle.translation.specs.Globals.{global_variable, variable_of_global}
use Rattle.translation.specs.Laws.{VariablesAreGlobals}
use Rattle.translation.specs.Sheets.{query_of_sheet}
use Rattle.translation.specs.Tables.{table_of}

one_name : (t : Table) (param : Bool) (b : Bound Expr Pattern) → (global_variable t param b).name ≡ b.name
one_name t true b = refl
one_name t false b = refl

one_external : (t : Table) (param : Bool) (b : Bound Expr Pattern) →
    is_none (global_variable t param b).value ≡ param
one_external t true b = refl
one_external t false b = refl

all_names : (t : Table) (gs : List Global) →
    map (λ v. v.name) (map (variable_of_global t) gs) ≡ map (λ g. g.bound.name) gs
all_names t [] = refl
all_names t (g ∷ gs) = λ i. one_name t g.param g.bound i ∷ all_names t gs i

all_external : (t : Table) (gs : List Global) →
    map (λ v. is_none v.value) (map (variable_of_global t) gs) ≡ map (λ g. g.param) gs
all_external t [] = refl
all_external t (g ∷ gs) = λ i. one_external t g.param g.bound i ∷ all_external t gs i

pub variables_are : (s : Sheet) → VariablesAreGlobals s
unfolding query_of_sheet
variables_are s =
    record { names = all_names (table_of s) s.globals; external = all_external (table_of s) s.globals }
