-- The text of a tree (Serialization, 5), without indentation.
use Rattle.std.specs.Prelude.{ℕ, List, [], ◌∷◌, ◌++◌, Bool, true, false, if◌then◌else◌, Option, Some, None, codes, encode_utf8_all}
use Rattle.xt_names.specs.Allowed.{is_empty_text}
use Rattle.xt_names.specs.declared.names.Binding.{Binding}
use Rattle.xt_names.specs.declared.names.Name.{Name}
use Rattle.xt_tree.specs.declared.attributes.Attribute.{Attribute}
use Rattle.xt_tree.specs.declared.trees.Tree.{Tree}
use Rattle.xt_tree.specs.declared.trees.Tree.TheVariants.{Doc, Elem, Text, Comment, Pi, Attr}
use Rattle.xt_tree.specs.Forest.{Forest, end, doc, elem, text, comment, pi, attr}
use Rattle.doc_writer.specs.Escapes.{escaped_text, escaped_value}
use Rattle.doc_writer.specs.Heads.{Head, head_of}
use Rattle.doc_writer.specs.Scopes.{first_scope}

abbrev pub xml_declaration : List ℕ
xml_declaration = codes "<?xml version=\"1.0\" encoding=\"UTF-8\"?>"

-- a name with its prefix; `:` is 58
unfoldable pub qualified : List ℕ → List ℕ → List ℕ
qualified prefix local = if is_empty_text prefix then local else prefix ++ codes ":" ++ local

-- a value in double quotes
unfoldable pub quoted : List ℕ → List ℕ
quoted value = codes "=\"" ++ escaped_value value ++ codes "\""

unfoldable pub declaration : Binding → List ℕ
declaration b = (if is_empty_text b.prefix then codes " xmlns" else codes " xmlns:" ++ b.prefix) ++ quoted b.uri

abbrev pub declarations : List Binding → List ℕ
declarations [] = []
declarations (b ∷ rest) = declaration b ++ declarations rest

unfoldable pub written_attribute : List ℕ → Attribute → List ℕ
written_attribute prefix a = codes " " ++ qualified prefix a.name.local ++ quoted a.value

-- the attributes with the prefixes that are written
abbrev pub written_attributes : List (List ℕ) → List Attribute → List ℕ
written_attributes prefixes [] = []
written_attributes [] (a ∷ rest) = []
written_attributes (p ∷ prefixes) (a ∷ rest) = written_attribute p a ++ written_attributes prefixes rest

abbrev pub later_prefixes : List (List ℕ) → List (List ℕ)
later_prefixes [] = []
later_prefixes (p ∷ prefixes) = prefixes

-- `<`, the name, the declarations, and then the attributes
unfoldable pub start_tag : Head → Name → List Attribute → List ℕ
start_tag h name attributes =
    codes "<" ++ qualified name.prefix name.local ++ declarations h.declared ++ written_attributes (later_prefixes h.used) attributes

abbrev pub is_end : Forest → Bool
is_end end = true
is_end (doc kids rest) = false
is_end (elem name attributes kids rest) = false
is_end (text t rest) = false
is_end (comment t rest) = false
is_end (pi target t rest) = false
is_end (attr name t rest) = false

-- what follows the start tag of an element: the rest of an empty tag, or the children and the end tag
unfoldable pub element_rest : Name → Bool → List ℕ → List ℕ
element_rest name is_empty kids =
    if is_empty then codes "/>" else codes ">" ++ kids ++ codes "</" ++ qualified name.prefix name.local ++ codes ">"

abbrev pub element : List ℕ → Name → Bool → List ℕ → List ℕ
element start name is_empty kids = start ++ element_rest name is_empty kids

unfoldable pub written_comment : List ℕ → List ℕ
written_comment t = codes "<!--" ++ t ++ codes "-->"

unfoldable pub written_pi : List ℕ → List ℕ → List ℕ
written_pi target t = codes "<?" ++ target ++ (if is_empty_text t then [] else codes " " ++ t) ++ codes "?>"

-- the trees one after another, in a scope; an attribute is no child and has no text
abbrev pub written_forest : List Binding → Forest → List ℕ
written_forest scope end = []
written_forest scope (doc kids rest) = written_forest scope kids ++ written_forest scope rest
written_forest scope (elem name attributes kids rest) =
    element (start_tag (head_of scope name attributes) name attributes) name (is_end kids)
    (written_forest (head_of scope name attributes).scope kids)
    ++ written_forest scope rest
written_forest scope (text t rest) = escaped_text t ++ written_forest scope rest
written_forest scope (comment t rest) = written_comment t ++ written_forest scope rest
written_forest scope (pi target t rest) = written_pi target t ++ written_forest scope rest
written_forest scope (attr name t rest) = written_forest scope rest

-- a tree in a scope
abbrev pub written_node : List Binding → Tree → List ℕ
written_node scope (Doc kids) = written_forest scope kids
written_node scope (Elem name attributes kids) =
    element (start_tag (head_of scope name attributes) name attributes) name (is_end kids)
    (written_forest (head_of scope name attributes).scope kids)
written_node scope (Text t) = escaped_text t
written_node scope (Comment t) = written_comment t
written_node scope (Pi target t) = written_pi target t
written_node scope (Attr name t) = []

abbrev pub written_text : Tree → List ℕ
written_text t = xml_declaration ++ written_node first_scope t

-- the bytes of a tree; an attribute alone has none
abbrev pub written_tree : Tree → Option (List ℕ)
written_tree (Doc kids) = Some (encode_utf8_all (written_text (Doc kids)))
written_tree (Elem name attributes kids) = Some (encode_utf8_all (written_text (Elem name attributes kids)))
written_tree (Text t) = Some (encode_utf8_all (written_text (Text t)))
written_tree (Comment t) = Some (encode_utf8_all (written_text (Comment t)))
written_tree (Pi target t) = Some (encode_utf8_all (written_text (Pi target t)))
written_tree (Attr name t) = None

-- the same without the XML declaration
abbrev pub written_bare : Tree → Option (List ℕ)
written_bare (Doc kids) = Some (encode_utf8_all (written_node first_scope (Doc kids)))
written_bare (Elem name attributes kids) = Some (encode_utf8_all (written_node first_scope (Elem name attributes kids)))
written_bare (Text t) = Some (encode_utf8_all (written_node first_scope (Text t)))
written_bare (Comment t) = Some (encode_utf8_all (written_node first_scope (Comment t)))
written_bare (Pi target t) = Some (encode_utf8_all (written_node first_scope (Pi target t)))
written_bare (Attr name t) = None
