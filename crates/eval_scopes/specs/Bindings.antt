-- What variables bind.
use Rattle.std.specs.Prelude.{List, [], ◌∷◌}
use Rattle.eval_scopes.specs.NodeWalks.Moves.{given}
use Rattle.expr_meaning.specs.Env.{Binding}
use Rattle.eval_scopes.specs.declared.scopes.Variable.{Variable}

abbrev pub binding_of : Variable → Binding
binding_of v = (v.name, given v.value.moves)

-- variables bound one after another, so that the last is innermost
abbrev pub pushed_on : List Binding → List Variable → List Binding
pushed_on outer [] = outer
pushed_on outer (v ∷ vs) = pushed_on (binding_of v ∷ outer) vs
