-- The bindings of prefixes that are in force within elements (Namespaces in XML 1.0, 6.1).
use Rattle.std.specs.Prelude.{List, [], ◌∷◌, ◌++◌}
use Rattle.xt_names.specs.declared.names.Binding.{Binding}

-- the declarations of elements, of which the innermost is the first
abbrev pub all_of : List (List Binding) → List Binding
all_of [] = []
all_of (l ∷ ls) = l ++ all_of ls
