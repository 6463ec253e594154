-- Children that are compared.
use Rattle.std.specs.Prelude.{List, [], ◌∷◌, Bool, true, false}
use Rattle.xt_tree.specs.declared.trees.Tree.{Tree}
use Rattle.xt_tree.specs.declared.trees.Tree.TheVariants.{Doc, Elem, Text, Comment, Pi, Attr}

-- a comment and a processing instruction are passed over
abbrev pub is_compared : Tree → Bool
is_compared (Doc kids) = true
is_compared (Elem name attributes kids) = true
is_compared (Text t) = true
is_compared (Comment t) = false
is_compared (Pi target t) = false
is_compared (Attr name t) = true

abbrev pub begins_compared : List Tree → Bool
begins_compared [] = true
begins_compared (t ∷ ts) = is_compared t
