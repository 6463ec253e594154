-- Places in a run at which all variables but some have the same values.
use Rattle.std.specs.Prelude.{◌≡◌, List, Bool, false}
use Rattle.std.specs.List.{list_any}
use Rattle.xt_names.specs.declared.names.ExprName.{ExprName}
use Rattle.expr_meaning.specs.Env.{Env, look_up}
use Rattle.xt_names.specs.ExprNames.{same_name}

-- the name is one of these
abbrev pub is_one_of : List ExprName → ExprName → Bool
is_one_of names name = list_any (λ n. same_name n name) names

-- but for these names; the focus and the state are the same
pub record Beside (names : List ExprName) (e f : Env) : Type 0 where
  pub locals : (name : ExprName) → is_one_of names name ≡ false →
      look_up e.locals name ≡ look_up f.locals name
  pub focus : e.focus ≡ f.focus
  pub state : e.state ≡ f.state
