-- A stylesheet as the standard sees it (XSLT 2.0, 4.2): comments and processing instructions go,
-- texts that then stand beside each other are one, and texts of white space alone go, but for those
-- in xsl:text.
use Rattle.std.specs.Prelude.{ℕ, ◌+◌, List, [], ◌∷◌, ◌++◌, Bool, true, false, if◌then◌else◌, drop, Option, Some}
use Rattle.xt_names.specs.Allowed.{is_empty_text}
use Rattle.xt_names.specs.declared.names.Name.{Name}
use Rattle.xt_names.specs.declared.names.Binding.{Binding}
use Rattle.xt_tree.specs.Forest.{Forest, end, doc, elem, text, comment, pi, attr}
use Rattle.xt_tree.specs.White.{is_white_text}
use Rattle.xt_tree.specs.declared.attributes.Attribute.{Attribute}
use Rattle.sheet_table.specs.declared.elements.XslElement.{XslElement}
use Rattle.sheet_table.specs.declared.elements.XslElement.TheVariants as element
use Rattle.sheet_table.specs.Elements.{xsl_element}
use Rattle.sheet_table.specs.declared.sheet_nodes.nodes.Node.{Node}
use Rattle.sheet_table.specs.declared.sheet_nodes.nodes.Node.TheVariants as node

abbrev pub elements_in : Forest → ℕ
elements_in end = 0
elements_in (doc kids rest) = elements_in rest
elements_in (elem name attributes kids rest) = 1 + elements_in kids + elements_in rest
elements_in (text t rest) = elements_in rest
elements_in (comment t rest) = elements_in rest
elements_in (pi target t rest) = elements_in rest
elements_in (attr name t rest) = elements_in rest

abbrev pub is_text_element : Option XslElement → Bool
is_text_element (Some element.Text) = true
is_text_element e = false

unfoldable pub is_text : Name → Bool
is_text name = is_text_element (xsl_element name)

abbrev pub goes : Bool → List ℕ → Bool
goes keep t = if keep then is_empty_text t else is_white_text t

-- a whole text, where it stays
unfoldable pub flushed : Bool → List ℕ → List Node
flushed keep t = if goes keep t then [] else node.Chars t ∷ []

-- the declarations of the first element
abbrev pub own : List (List Binding) → List Binding
own [] = []
own (d ∷ ds) = d

-- The nodes that a list of trees stands for, after a text that is not at its end yet. The
-- declarations of their elements stand in the order of the document.
abbrev pub cleaned : Bool → List (List Binding) → List ℕ → Forest → List Node
cleaned keep declared before end = flushed keep before
cleaned keep declared before (elem name attributes kids rest) =
    flushed keep before
    ++ (node.Elem (own declared) name attributes (cleaned (is_text name) (drop 1 declared) [] kids)
    ∷ cleaned keep (drop (1 + elements_in kids) declared) [] rest)
cleaned keep declared before (text t rest) = cleaned keep declared (before ++ t) rest
cleaned keep declared before (doc kids rest) = cleaned keep declared before rest
cleaned keep declared before (comment t rest) = cleaned keep declared before rest
cleaned keep declared before (pi target t rest) = cleaned keep declared before rest
cleaned keep declared before (attr name t rest) = cleaned keep declared before rest

abbrev pub element_node : List (List Binding) → Name → List Attribute → Forest → Node
element_node declared name attributes kids =
    node.Elem (own declared) name attributes (cleaned (is_text name) (drop 1 declared) [] kids)
