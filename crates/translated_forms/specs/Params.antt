-- Parameters (XSLT 2.0, 10.1). Each name has a number and two parameters of the generated functions:
-- whether a value is passed, and the value.
use Rattle.std.specs.Prelude.{ℕ, suc, map, List, [], ◌∷◌, Bool, true, false, ◌&&◌, codes}
use Rattle.std.specs.Prelude.{Option, if◌then◌else◌}
use Rattle.std.specs.List.{list_any}
use Rattle.xt_names.specs.declared.names.ExprName.{ExprName}
use Rattle.xt_types.specs.declared.types.SeqType.{SeqType}
use Rattle.xt_syntax.specs.declared.exprs.Clause.{Clause}
use Rattle.xt_syntax.specs.declared.exprs.Expr.{Expr}
use Rattle.carried_exprs.specs.Sights.{variable_of, nothing, library_call}
use Rattle.translated_forms.specs.Names.{passed_name, flag_name, given_name}
use Rattle.translated_forms.specs.Forms.{let_clause}
use Rattle.translated_forms.specs.Places.{Param, Place, Table}
use Rattle.xt_names.specs.Allowed.{same_truth}
use Rattle.xt_names.specs.ExprNames.{same_name}

-- a variable, or a parameter; its value depends on its place
pub record BoundAt : Type 0 where
  pub name : ExprName
  pub kind : Option SeqType
  pub tunnel : Bool
  pub value : Place → Expr

abbrev pub same_param : Param → Param → Bool
same_param a b = same_truth a.tunnel b.tunnel && same_name a.name b.name

abbrev pub param_of : BoundAt → Param
param_of b = record { tunnel = b.tunnel; name = b.name }

-- the number of the first that is the same
abbrev pub number_from : ℕ → List Param → Param → ℕ
number_from n [] p = n
number_from n (q ∷ qs) p = if same_param q p then n else number_from (suc n) qs p

abbrev pub number_in : List Param → Param → ℕ
number_in params p = number_from 1 params p

-- the variables of a parameter
abbrev pub flag_of : ℕ → Param → ExprName
flag_of n p = flag_name p.name.local n

abbrev pub value_of : ℕ → Param → ExprName
value_of n p = passed_name p.name.local n

abbrev pub given_of : ℕ → Param → ExprName
given_of n p = given_name p.name.local n

abbrev pub truth : Bool → Expr
truth true = library_call (codes "true") []
truth false = library_call (codes "false") []

-- the parameters as they came
abbrev pub same_from : ℕ → List Param → List Expr
same_from n [] = []
same_from n (p ∷ ps) =
    variable_of (flag_of n p) ∷ variable_of (value_of n p) ∷ same_from (suc n) ps

abbrev pub same_arguments : List Param → List Expr
same_arguments params = same_from 1 params

-- no parameters
abbrev pub none_from : List Param → List Expr
none_from [] = []
none_from (p ∷ ps) = truth false ∷ nothing ∷ none_from ps

-- .. with those that an instruction passes; tunnel parameters go on where they are in scope
abbrev pub is_given : List BoundAt → Param → Bool
is_given given p = list_any (λ b. same_param p (param_of b)) given

abbrev pub flag_argument : List BoundAt → Bool → ℕ → Param → Expr
flag_argument given has_tunnel n p =
    if is_given given p then truth true
    else if p.tunnel && has_tunnel then variable_of (flag_of n p)
    else truth false

abbrev pub value_argument : List BoundAt → Bool → ℕ → Param → Expr
value_argument given has_tunnel n p =
    if is_given given p then variable_of (given_of n p)
    else if p.tunnel && has_tunnel then variable_of (value_of n p)
    else nothing

abbrev pub arguments_from : ℕ → List BoundAt → Bool → List Param → List Expr
arguments_from n given has_tunnel [] = []
arguments_from n given has_tunnel (p ∷ ps) =
    flag_argument given has_tunnel n p ∷ value_argument given has_tunnel n p
    ∷ arguments_from (suc n) given has_tunnel ps

abbrev pub passed_arguments : Table → Place → List BoundAt → List Expr
passed_arguments t p given = arguments_from 1 given p.has_tunnel t.params

-- What is passed is evaluated in order before the call, under names that nothing else has: the content
-- of a later one still reads the tunnel parameters as they were.
abbrev pub given_let : Table → Place → BoundAt → Clause
given_let t p b = let_clause (given_of (number_in t.params (param_of b)) (param_of b)) (b.value p)

abbrev pub given_lets : Table → Place → List BoundAt → List Clause
given_lets t p given = map (given_let t p) given
