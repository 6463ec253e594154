-- The trees that a reader gives back, with the prefixes that are written.
use Rattle.std.specs.Prelude.{ℕ, ◌+◌, List, [], ◌∷◌, Bool, true, false, not, ◌&&◌, ◌==◌}
use Rattle.std.specs.List.{list_any}
use Rattle.xt_names.specs.declared.names.Binding.{Binding}
use Rattle.xt_names.specs.declared.names.Name.{Name}
use Rattle.xt_tree.specs.declared.attributes.Attribute.{Attribute}
use Rattle.xt_tree.specs.declared.trees.Tree.{Tree}
use Rattle.xt_tree.specs.declared.trees.Tree.TheVariants.{Doc, Elem, Text, Comment, Pi, Attr}
use Rattle.xt_tree.specs.Forest.{Forest, end, doc, elem, text, comment, pi, attr}
use Rattle.xt_tree.specs.Sound.{is_sound_tree}
use Rattle.doc_writer.specs.Heads.{head_of}
use Rattle.doc_writer.specs.Scopes.{first_scope}
use Rattle.doc_writer.specs.Written.{later_prefixes}

abbrev pub renamed : List ℕ → Name → Name
renamed prefix name = record { prefix = prefix; uri = name.uri; local = name.local }

abbrev pub renamed_attributes : List (List ℕ) → List Attribute → List Attribute
renamed_attributes prefixes [] = []
renamed_attributes [] (a ∷ rest) = []
renamed_attributes (p ∷ prefixes) (a ∷ rest) = record { name = renamed p a.name; value = a.value } ∷ renamed_attributes prefixes rest

-- the trees with the prefixes that are written; elements keep theirs
abbrev pub as_written_forest : List Binding → Forest → Forest
as_written_forest scope end = end
as_written_forest scope (doc kids rest) = doc (as_written_forest scope kids) (as_written_forest scope rest)
as_written_forest scope (elem name attributes kids rest) =
    elem name (renamed_attributes (later_prefixes (head_of scope name attributes).used) attributes)
    (as_written_forest (head_of scope name attributes).scope kids) (as_written_forest scope rest)
as_written_forest scope (text t rest) = text t (as_written_forest scope rest)
as_written_forest scope (comment t rest) = comment t (as_written_forest scope rest)
as_written_forest scope (pi target t rest) = pi target t (as_written_forest scope rest)
as_written_forest scope (attr name t rest) = attr name t (as_written_forest scope rest)

abbrev pub as_written : Tree → Tree
as_written (Doc kids) = Doc (as_written_forest first_scope kids)
as_written (Elem name attributes kids) =
    Elem name (renamed_attributes (later_prefixes (head_of first_scope name attributes).used) attributes)
    (as_written_forest (head_of first_scope name attributes).scope kids)
as_written (Text t) = Text t
as_written (Comment t) = Comment t
as_written (Pi target t) = Pi target t
as_written (Attr name t) = Attr name t

-- a line end of one CR, which a reader would change
abbrev pub has_return : List ℕ → Bool
has_return t = list_any (λ c. c == 0xD) t

-- comments and processing instructions, at any depth, hold no CR
abbrev pub keep_returns : Forest → Bool
keep_returns end = true
keep_returns (doc kids rest) = keep_returns kids && keep_returns rest
keep_returns (elem name attributes kids rest) = keep_returns kids && keep_returns rest
keep_returns (text t rest) = keep_returns rest
keep_returns (comment t rest) = not (has_return t) && keep_returns rest
keep_returns (pi target t rest) = not (has_return t) && keep_returns rest
keep_returns (attr name t rest) = keep_returns rest

-- the elements among the trees
abbrev pub element_count : Forest → ℕ
element_count end = 0
element_count (doc kids rest) = element_count rest
element_count (elem name attributes kids rest) = 1 + element_count rest
element_count (text t rest) = element_count rest
element_count (comment t rest) = element_count rest
element_count (pi target t rest) = element_count rest
element_count (attr name t rest) = element_count rest

abbrev pub has_text : Forest → Bool
has_text end = false
has_text (doc kids rest) = has_text rest
has_text (elem name attributes kids rest) = has_text rest
has_text (text t rest) = true
has_text (comment t rest) = has_text rest
has_text (pi target t rest) = has_text rest
has_text (attr name t rest) = has_text rest

-- a document of one element and no text, that is sound and whose comments and instructions hold no CR
abbrev pub is_readable_kids : Forest → Bool
is_readable_kids kids = element_count kids == 1 && not (has_text kids) && keep_returns kids

abbrev pub is_readable : Tree → Bool
is_readable (Doc kids) = is_sound_tree (Doc kids) && is_readable_kids kids
is_readable (Elem name attributes kids) = false
is_readable (Text t) = false
is_readable (Comment t) = false
is_readable (Pi target t) = false
is_readable (Attr name t) = false
