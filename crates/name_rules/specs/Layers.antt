-- The names of a scope, table by table.
use Rattle.std.specs.Prelude.{List, [], ◌∷◌, ◌++◌}
use Rattle.std.specs.HashSet.{HashSet}
use Rattle.std.specs.declared.rc.Rc.{Rc}
use Rattle.xt_names.specs.declared.names.ExprName.{ExprName}

abbrev pub layer_names : {S A : Type 0} → List (Rc (HashSet ExprName S) A) → List ExprName
layer_names [] = []
layer_names (l ∷ ls) = l.value.keys ++ layer_names ls
