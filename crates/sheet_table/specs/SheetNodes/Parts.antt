-- The content of an element, part by part (XSLT 2.0, 2.2 and appendix D).
use Rattle.std.specs.Prelude.{List, [], ◌∷◌, Bool, true, false, if◌then◌else◌, Option, Some, None}
use Rattle.xt_names.specs.declared.codes.Code.{Code}
use Rattle.xt_names.specs.declared.codes.Code.TheVariants.{SheetStatic}
use Rattle.xt_names.specs.declared.codes.SheetStaticCode.{SheetStaticCode}
use Rattle.xt_names.specs.declared.codes.SheetStaticCode.TheVariants.{XTSE0010}
use Rattle.sheet_table.specs.declared.elements.XslElement.{XslElement}
use Rattle.sheet_table.specs.declared.elements.XslElement.TheVariants as element
use Rattle.sheet_table.specs.declared.contents.Content.{Content}
use Rattle.sheet_table.specs.Elements.{xsl_element, misplaced}
use Rattle.sheet_table.specs.Contents.{leads}
use Rattle.sheet_table.specs.declared.sheet_nodes.nodes.Node.{Node}
use Rattle.sheet_table.specs.declared.sheet_nodes.nodes.Node.TheViews.{out-Node}
use Rattle.sheet_table.specs.declared.sheet_nodes.nodes.Node.TheOpen.{Node-F, Elem, Chars}

abbrev pub xsl_in : Node-F Node → Option XslElement
xsl_in (Elem own name attributes kids) = xsl_element name
xsl_in (Chars t) = None

-- the element of XSLT that the node is
unfoldable pub xsl_of : Node → Option XslElement
xsl_of n = xsl_in (out-Node n)

-- the node may be at the front of such content
unfoldable pub is_lead : Content → Node → Bool
is_lead content n = leads content (xsl_of n)

-- the nodes at the front that pass the test, and the others: so content is "params, then body" or
-- "sorts, then body"
abbrev pub leading : (Node → Bool) → List Node → List Node
leading test [] = []
leading test (n ∷ ns) = if test n then n ∷ leading test ns else []

abbrev pub behind : (Node → Bool) → List Node → List Node
behind test [] = []
behind test (n ∷ ns) = if test n then behind test ns else n ∷ ns

abbrev pub is_sort_element : Option XslElement → Bool
is_sort_element (Some element.Sort) = true
is_sort_element e = false

unfoldable pub is_sort : Node → Bool
is_sort n = is_sort_element (xsl_of n)

abbrev pub is_with_param_element : Option XslElement → Bool
is_with_param_element (Some element.WithParam) = true
is_with_param_element e = false

unfoldable pub is_with_param : Node → Bool
is_with_param n = is_with_param_element (xsl_of n)

abbrev pub is_variable_element : Option XslElement → Bool
is_variable_element (Some element.Variable) = true
is_variable_element e = false

unfoldable pub is_variable : Node → Bool
is_variable n = is_variable_element (xsl_of n)

abbrev pub misplaced_in : Node-F Node → SheetStaticCode
misplaced_in (Elem own name attributes kids) = misplaced name
misplaced_in (Chars t) = XTSE0010

-- the code of a node that stands where it may not
unfoldable pub misplaced_node : Node → SheetStaticCode
misplaced_node n = misplaced_in (out-Node n)

-- no node may stand here
abbrev pub none_faults : List Node → List Code
none_faults [] = []
none_faults (n ∷ ns) = SheetStatic (misplaced_node n) ∷ []
