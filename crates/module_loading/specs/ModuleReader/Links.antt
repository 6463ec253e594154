-- Links to other modules (XSLT 2.0, 3.10): the elements xsl:import and xsl:include among the
-- children of the root that have an href.
use Rattle.std.specs.Prelude.{ℕ, ◌+◌, min, List, [], ◌∷◌, ◌++◌, Bool, true, false, Option, Some}
use Rattle.std.specs.Prelude.{None, codes}
use Rattle.xt_tree.specs.Forest.{Forest, end, doc, elem, text, comment, pi, attr}
use Rattle.xt_tree.specs.declared.trees.Tree.{Tree}
use Rattle.xt_tree.specs.declared.trees.Tree.TheVariants.{Doc, Elem, Text, Comment, Pi, Attr}
use Rattle.sheet_table.specs.declared.elements.XslElement.{XslElement}
use Rattle.sheet_table.specs.declared.elements.XslElement.TheVariants as element
use Rattle.sheet_table.specs.Attributes.{attribute}
use Rattle.sheet_table.specs.Elements.{xsl_element}
use Rattle.sheet_modules.specs.declared.links.Link.{Link}

-- what a document holds
abbrev pub document_content : Tree → Forest
document_content (Doc kids) = kids
document_content (Elem name attributes kids) = end
document_content (Text t) = end
document_content (Comment t) = end
document_content (Pi target t) = end
document_content (Attr name t) = end

-- what its root element holds
abbrev pub root_content : Forest → Forest
root_content end = end
root_content (doc kids rest) = root_content rest
root_content (elem name attributes kids rest) = kids
root_content (text t rest) = root_content rest
root_content (comment t rest) = root_content rest
root_content (pi target t rest) = root_content rest
root_content (attr name t rest) = root_content rest

abbrev pub link : Bool → ℕ → Option (List ℕ) → List Link
link import before None = []
link import before (Some href) = record { import = import; href = href; before = before } ∷ []

-- the link that an element is, where so many elements come before it
abbrev pub link_of : Option XslElement → ℕ → Option (List ℕ) → List Link
link_of (Some element.Import) before href = link true before href
link_of (Some element.Include) before href = link false before href
link_of e before href = []

-- one more, up to the greatest number of 32 bits
abbrev pub one_more : ℕ → ℕ
one_more n = min (n + 1) 4294967295

abbrev pub links_in : ℕ → Forest → List Link
links_in before end = []
links_in before (elem name attributes kids rest) =
    link_of (xsl_element name) before (attribute attributes (codes "href")) ++ links_in (one_more before) rest
links_in before (doc kids rest) = links_in before rest
links_in before (text t rest) = links_in before rest
links_in before (comment t rest) = links_in before rest
links_in before (pi target t rest) = links_in before rest
links_in before (attr name t rest) = links_in before rest

unfoldable pub links_of : Tree → List Link
links_of tree = links_in 0 (root_content (document_content tree))
