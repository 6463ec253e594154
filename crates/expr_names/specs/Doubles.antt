-- Names that stand twice in a list (XQuery 1.0, 3.7.1.1).
use Rattle.std.specs.Prelude.{List, [], ◌∷◌, Bool, true, not, ◌&&◌}
use Rattle.std.specs.List.{list_any}
use Rattle.xt_names.specs.declared.names.Name.{Name}
use Rattle.xt_names.specs.Names.{same_name}

-- no two of them have one uri and local part
abbrev pub names_differ : List Name → Bool
names_differ [] = true
names_differ (n ∷ ns) = not (list_any (same_name n) ns) && names_differ ns
