-- The first form of stylesheets, as trees.
use Rattle.std.specs.Prelude.{ℕ, ◌-◌, List, [], ◌∷◌, Bool, true, false, not, ◌&&◌, ◌||◌, nat_lt, if◌then◌else◌, codes}
use Rattle.std.specs.Str.{bytes_eq}
use Rattle.xt_names.specs.Allowed.{is_empty_text}
use Rattle.xt_names.specs.Classes.{is_ncname_text}
use Rattle.xt_names.specs.declared.names.Name.{Name}
use Rattle.xt_tree.specs.declared.attributes.Attribute.{Attribute}
use Rattle.xt_tree.specs.declared.trees.Tree.{Tree}
use Rattle.xt_tree.specs.declared.trees.Tree.TheVariants.{Doc, Elem, Text, Comment, Pi, Attr}
use Rattle.xt_tree.specs.White.{is_white_text}
use Rattle.xt_tree.specs.Forest.{Forest, end, doc, elem, text, comment, pi, attr}
use Rattle.xt_names.specs.Names.{is_in_xslt}

unfoldable pub is_named_stylesheet : Name → Bool
is_named_stylesheet name = is_in_xslt name && bytes_eq name.local (codes "stylesheet")

unfoldable pub is_named_template : Name → Bool
is_named_template name = is_in_xslt name && bytes_eq name.local (codes "template")

unfoldable pub is_named_apply_templates : Name → Bool
is_named_apply_templates name = is_in_xslt name && bytes_eq name.local (codes "apply-templates")

-- exactly `version="2.0"`
unfoldable pub is_version : List Attribute → Bool
is_version [] = false
is_version (a ∷ []) = is_empty_text a.name.uri && bytes_eq a.name.local (codes "version") && bytes_eq a.value (codes "2.0")
is_version (a ∷ b ∷ rest) = false

-- `/` or an NCName
unfoldable pub is_first_pattern : List ℕ → Bool
is_first_pattern pattern = bytes_eq pattern (codes "/") || is_ncname_text pattern

-- exactly one attribute, `match`, with such a pattern
unfoldable pub is_match : List Attribute → Bool
is_match [] = false
is_match (a ∷ []) = is_empty_text a.name.uri && bytes_eq a.name.local (codes "match") && is_first_pattern a.value
is_match (a ∷ b ∷ rest) = false

unfoldable pub is_no_attribute : List Attribute → Bool
is_no_attribute [] = true
is_no_attribute (a ∷ rest) = false

-- texts of white space alone
abbrev pub is_blank : Forest → Bool
is_blank end = true
is_blank (doc kids rest) = false
is_blank (elem name attributes kids rest) = false
is_blank (text t rest) = is_white_text t && is_blank rest
is_blank (comment t rest) = false
is_blank (pi target t rest) = false
is_blank (attr name t rest) = false

-- What a template or a literal element holds (XSLT 2.0, 5.7), where literal elements may be nested so many deep: texts,
-- literal elements without uri and attributes, and apply-templates without attributes and content.
abbrev pub is_content : ℕ → Forest → Bool
is_content room end = true
is_content room (doc kids rest) = false
is_content room (elem name attributes kids rest) =
    (if is_in_xslt name then is_named_apply_templates name && is_no_attribute attributes && is_blank kids
    else is_empty_text name.uri && is_no_attribute attributes && nat_lt 0 room && is_content (room - 1) kids)
    && is_content room rest
is_content room (text t rest) = is_content room rest
is_content room (comment t rest) = false
is_content room (pi target t rest) = false
is_content room (attr name t rest) = false

-- one template (XSLT 2.0, 6.1), whose literal elements are nested at most 40 deep
abbrev pub is_template : Name → List Attribute → Forest → Bool
is_template name attributes kids = is_named_template name && is_match attributes && is_content 40 kids

-- The children of the root: templates, beside which comments, processing instructions and white space may stand.
abbrev pub are_templates : Forest → Bool
are_templates end = true
are_templates (doc kids rest) = false
are_templates (elem name attributes kids rest) = is_template name attributes kids && are_templates rest
are_templates (text t rest) = is_white_text t && are_templates rest
are_templates (comment t rest) = are_templates rest
are_templates (pi target t rest) = are_templates rest
are_templates (attr name t rest) = false

-- the root (XSLT 2.0, 3.6)
abbrev pub is_stylesheet : Name → List Attribute → Forest → Bool
is_stylesheet name attributes kids = is_named_stylesheet name && is_version attributes && are_templates kids

-- The children of the document, of which an earlier one was the root or not: in all exactly one root, beside which
-- comments, processing instructions and white space may stand.
abbrev pub is_rooted : Bool → Forest → Bool
is_rooted seen end = seen
is_rooted seen (doc kids rest) = false
is_rooted seen (elem name attributes kids rest) = (not seen && is_stylesheet name attributes kids) && is_rooted true rest
is_rooted seen (text t rest) = is_white_text t && is_rooted seen rest
is_rooted seen (comment t rest) = is_rooted seen rest
is_rooted seen (pi target t rest) = is_rooted seen rest
is_rooted seen (attr name t rest) = false

-- a stylesheet of the first form
abbrev pub is_first_sheet : Tree → Bool
is_first_sheet (Doc kids) = is_rooted false kids
is_first_sheet (Elem name attributes kids) = false
is_first_sheet (Text t) = false
is_first_sheet (Comment t) = false
is_first_sheet (Pi target t) = false
is_first_sheet (Attr name t) = false
