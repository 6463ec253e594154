-- Which template of a stylesheet of the first form is run for a node.
use Rattle.std.specs.Prelude.{◌≡◌, ℕ, List, [], ◌∷◌, ◌++◌, Bool, true, false, ◌&&◌, if◌then◌else◌, Option, Some, None, MatchOption, All, codes}
use Rattle.std.specs.Option.{option_or}
use Rattle.std.specs.Str.{bytes_eq}
use Rattle.xt_names.specs.Allowed.{is_empty_text}
use Rattle.xt_tree.specs.declared.attributes.Attribute.{Attribute}
use Rattle.xt_tree.specs.declared.trees.Tree.{Tree}
use Rattle.xt_tree.specs.declared.trees.Tree.TheVariants.{Doc, Elem, Text, Comment, Pi, Attr}
use Rattle.xt_tree.specs.Forest.{Forest, end, doc, elem, text, comment, pi, attr}

-- a template: its pattern and its content
pub record Template : Type 0 where
  pub pattern : List ℕ
  pub content : Forest

-- `/` matches a document, and a name an element of that name without uri (XSLT 2.0, 5.5)
abbrev pub pattern_matches : List ℕ → Tree → Bool
pattern_matches pattern (Doc kids) = bytes_eq pattern (codes "/")
pattern_matches pattern (Elem name attributes kids) = is_empty_text name.uri && bytes_eq pattern name.local
pattern_matches pattern (Text t) = false
pattern_matches pattern (Comment t) = false
pattern_matches pattern (Pi target t) = false
pattern_matches pattern (Attr name t) = false

-- the template of an element, whose only attribute is the pattern
abbrev pub template_of : List Attribute → Forest → List Template
template_of [] kids = []
template_of (a ∷ rest) kids = record { pattern = a.value; content = kids } ∷ []

-- the templates among the children of the root, in order
abbrev pub templates_among : Forest → List Template
templates_among end = []
templates_among (doc kids rest) = templates_among rest
templates_among (elem name attributes kids rest) = template_of attributes kids ++ templates_among rest
templates_among (text t rest) = templates_among rest
templates_among (comment t rest) = templates_among rest
templates_among (pi target t rest) = templates_among rest
templates_among (attr name t rest) = templates_among rest

-- the children of the root element
abbrev pub root_content : Forest → Forest
root_content end = end
root_content (doc kids rest) = root_content rest
root_content (elem name attributes kids rest) = kids
root_content (text t rest) = root_content rest
root_content (comment t rest) = root_content rest
root_content (pi target t rest) = root_content rest
root_content (attr name t rest) = root_content rest

-- the templates of a stylesheet
abbrev pub templates_of : Tree → List Template
templates_of (Doc kids) = templates_among (root_content kids)
templates_of (Elem name attributes kids) = []
templates_of (Text t) = []
templates_of (Comment t) = []
templates_of (Pi target t) = []
templates_of (Attr name t) = []

-- The content of the best rule for a node: all have the same import precedence, and those that match one node the same
-- priority, so it is the last that matches (XSLT 2.0, 6.4).
abbrev pub best_rule : List Template → Tree → Option Forest
best_rule [] node = None
best_rule (t ∷ rest) node = option_or (best_rule rest node) (if pattern_matches t.pattern node then Some t.content else None)

-- the template with this content matches, and none after it does
pub record IsLastMatch (templates : List Template) (node : Tree) (content : Forest) : Type 0 where
  pub before : List Template
  pub chosen : Template
  pub after : List Template
  pub parts : templates ≡ before ++ chosen ∷ after
  pub content_is : chosen.content ≡ content
  pub matches : pattern_matches chosen.pattern node ≡ true
  pub none_after : All (λ t. pattern_matches t.pattern node ≡ false) after

-- what the best rule is, in the words of the Recommendation
abbrev pub IsBestRule : List Template → Tree → Option Forest → Type 0
IsBestRule templates node best =
    MatchOption best (All (λ t. pattern_matches t.pattern node ≡ false) templates) (IsLastMatch templates node)
