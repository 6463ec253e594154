-- Names with prefixes, and tables of them.
use Rattle.std.specs.Prelude.{Bool, ◌&&◌, codes}
use Rattle.std.specs.HashSet.{HashSet, contains}
use Rattle.std.specs.Str.{bytes_eq}
use Rattle.xt_names.specs.declared.names.Name.{Name}

-- the prefixes do not count
abbrev pub same_name : Name → Name → Bool
same_name a b = bytes_eq a.uri b.uri && bytes_eq a.local b.local

-- whether the table has a key of this name
abbrev pub has_key : {S : Type 0} → HashSet Name S → Name → Bool
has_key seen name = contains same_name seen name

-- the namespace of XSLT (XSLT 2.0, 3.1)
unfoldable pub is_in_xslt : Name → Bool
is_in_xslt name = bytes_eq name.uri (codes "http://www.w3.org/1999/XSL/Transform")
