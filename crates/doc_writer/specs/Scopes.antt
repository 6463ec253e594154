-- The bindings in force around a tree.
use Rattle.std.specs.Prelude.{List, [], ◌∷◌, codes}
use Rattle.xt_names.specs.Allowed.{xml_uri}
use Rattle.xt_names.specs.declared.names.Binding.{Binding}
use Rattle.xt_names.specs.ExprNames.{binding}

-- xml is bound from the start, and the empty prefix to no uri
abbrev pub first_scope : List Binding
first_scope = binding (codes "xml") xml_uri ∷ binding [] [] ∷ []
