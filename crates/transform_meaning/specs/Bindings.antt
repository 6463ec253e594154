-- Variables, parameters and what is bound to them (XSLT 2.0, 9.3 and 10.1), and sequence
-- constructors, in which a variable is bound for what comes after it (5.7 and 9.1).
use Rattle.std.specs.Prelude.{List, [], ◌∷◌, ◌++◌, Bool, if◌then◌else◌}
use Rattle.std.specs.Prelude.{Option, Some, None}
use Rattle.xt_names.specs.declared.codes.Code.{Code}
use Rattle.xt_names.specs.declared.codes.Code.TheVariants.{SheetDynamic}
use Rattle.xt_names.specs.declared.codes.SheetDynamicCode.TheVariants.{XTDE0700}
use Rattle.xt_names.specs.declared.names.ExprName.{ExprName}
use Rattle.xt_types.specs.declared.types.SeqType.{SeqType}
use Rattle.xt_atoms.specs.declared.atoms.Atom.TheVariants as atom
use Rattle.xdm_items.specs.declared.items.Item.{Item}
use Rattle.xdm_items.specs.declared.items.Item.TheVariants.{Atom}
use Rattle.expr_meaning.specs.Outcomes.Outcome.{Ends, Fails, and_then, step_outcome}
use Rattle.expr_meaning.specs.Env.{Binding, Env, Meaning, bind, look_up}
use Rattle.expr_meaning.specs.Queries.{converted_to}
use Rattle.expr_meaning.specs.Values.{just}
use Rattle.transform_meaning.specs.Making.{document_with}

-- the value, converted to the type if there is one
abbrev pub converted_value : Option SeqType → Meaning → Meaning
converted_value kind value env k =
    and_then (value env k) (λ xs j. step_outcome (converted_to kind xs) j)

-- content is the value where there is a type, and else that of a document
abbrev pub content_value : Option SeqType → Meaning → Meaning
content_value None content = document_with content
content_value (Some type) content = converted_value (Some type) content

abbrev pub empty_text : Meaning
empty_text = just (Atom (atom.Str []) ∷ [])

-- a variable, or a parameter; its value is what it is bound to by itself, which a required one has
-- not
pub record BoundMeaning : Type 0 where
  pub name : ExprName
  pub kind : Option SeqType
  pub value : Option Meaning
  pub tunnel : Bool

abbrev pub own_value : Option Meaning → Meaning
own_value None = just []
own_value (Some value) = value

-- with a name bound to the value, the rest
abbrev pub bound_then : ExprName → Meaning → Meaning → Meaning
bound_then name value rest env k = and_then (value env k) (λ xs. rest (bind name xs env))

-- what an instruction does: it binds a name for those after it, or it makes items
pub data Doing : Type 0 where
  Binds : (name : ExprName) (value : Meaning) → Doing
  Makes : (items : Meaning) → Doing

abbrev pub nothing : Meaning
nothing = just []

abbrev pub then_rest : Meaning → Meaning → Meaning
then_rest m rest env k =
    and_then (m env k) (λ xs j. and_then (rest env j) (λ ys i. Ends (xs ++ ys) i))

abbrev pub one_then : Doing → Meaning → Meaning
one_then (Binds name value) rest = bound_then name value rest
one_then (Makes m) rest = then_rest m rest

-- a sequence constructor
abbrev pub body_of : List Doing → Meaning
body_of [] = nothing
body_of (d ∷ ds) = one_then d (body_of ds)

-- A parameter: the value that is passed, converted, or else its own value; where it is required and
-- no value is passed, this error.
abbrev pub default_value : Code → Option Meaning → Meaning
default_value missing None env k = Fails missing
default_value missing (Some value) env k = value env k

abbrev pub given_or_default : Code → BoundMeaning → Option (List Item) → Meaning
given_or_default missing p None env k = default_value missing p.value env k
given_or_default missing p (Some xs) env k = step_outcome (converted_to p.kind xs) k

-- an ordinary parameter looks among those that are passed, a tunnel parameter in the tunnel map
abbrev pub passed_value : List Binding → BoundMeaning → Env → Option (List Item)
passed_value passed p env = look_up (if p.tunnel then env.state.tunnel else passed) p.name

abbrev pub param_value : List Binding → BoundMeaning → Meaning
param_value passed p env k =
    given_or_default (SheetDynamic XTDE0700) p (passed_value passed p env) env k

-- the parameters of a template in order, each seeing those before it, and then the rest
abbrev pub params_then : List Binding → List BoundMeaning → Meaning → Meaning
params_then passed [] rest = rest
params_then passed (p ∷ ps) rest =
    bound_then p.name (param_value passed p) (params_then passed ps rest)

-- a template, where these parameters are passed
pub record TemplateMeaning : Type 0 where
  pub params : List BoundMeaning
  pub kind : Option SeqType
  pub body : Meaning

abbrev pub template_of : TemplateMeaning → List Binding → Meaning
template_of t passed = converted_value t.kind (params_then passed t.params t.body)
