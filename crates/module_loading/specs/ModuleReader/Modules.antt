-- A module (XSLT 2.0, 3.6), and the rules that it breaks by itself, in the order in which they are
-- met.
use Rattle.std.specs.Prelude.{◌≤◌, length, List, [], ◌∷◌, ◌++◌, map, Bool, true, false, not}
use Rattle.std.specs.Prelude.{◌&&◌, ◌||◌}
use Rattle.std.specs.Prelude.{Option, Some, codes}
use Rattle.xt_names.specs.Allowed.{xml_uri}
use Rattle.xt_names.specs.declared.names.Name.{Name}
use Rattle.xt_names.specs.declared.names.Binding.{Binding}
use Rattle.xt_names.specs.declared.names.ExprName.{ExprName}
use Rattle.xt_names.specs.declared.codes.Code.{Code}
use Rattle.xt_names.specs.declared.codes.Code.TheVariants.{SheetStatic}
use Rattle.xt_names.specs.declared.codes.SheetStaticCode.TheVariants.{XTSE0200, XTUN0001}
use Rattle.xt_tree.specs.declared.attributes.Attribute.{Attribute}
use Rattle.xt_tree.specs.declared.trees.Tree.{Tree}
use Rattle.sheet_table.specs.declared.elements.XslElement.{XslElement}
use Rattle.sheet_table.specs.declared.elements.XslElement.TheVariants as element
use Rattle.sheet_table.specs.Elements.{xsl_element}
use Rattle.sheet_table.specs.Rules.{attribute_faults}
use Rattle.sheet_table.specs.SheetNodes.Cleaned.{cleaned, elements_in}
use Rattle.sheet_table.specs.declared.sheet_nodes.nodes.Node.{Node}
use Rattle.sheet_table.specs.declared.sheet_nodes.nodes.Node.TheViews.{out-Node}
use Rattle.sheet_table.specs.declared.sheet_nodes.nodes.Node.TheOpen.{Node-F, Elem, Chars}
use Rattle.sheet_values.specs.Rules.{broken}
use Rattle.sheet_values.specs.Modes.{default_mode}
use Rattle.sheet_values.specs.declared.sheet_texts.places.StaticContext.{StaticContext}
use Rattle.sheet_values.specs.SheetTexts.Readings.{Reading}
use Rattle.sheet_modules.specs.declared.modules.Module.{Module}
use Rattle.sheet_modules.specs.declared.modules.Part.{Part}
use Rattle.sheet_parts.specs.Tops.{top_faults, top_value}
use Rattle.module_loading.specs.ModuleReader.Links.{document_content}
use Rattle.module_loading.specs.ModuleReader.Mentions.{top_walk}
use Rattle.module_loading.specs.declared.module_reader.mentions.Mention.{Mention}
use Rattle.module_loading.specs.declared.module_reader.mentions.Mention.TheVariants as mention

abbrev pub is_import_element : Option XslElement → Bool
is_import_element (Some element.Import) = true
is_import_element e = false

abbrev pub is_import_in : Node-F Node → Bool
is_import_in (Elem own name attributes kids) = is_import_element (xsl_element name)
is_import_in (Chars t) = false

-- the node is xsl:import (3.10.3)
unfoldable pub is_import : Node → Bool
is_import n = is_import_in (out-Node n)

abbrev pub is_other_in : Node-F Node → Bool
is_other_in (Elem own name attributes kids) = not (is_import_element (xsl_element name))
is_other_in (Chars t) = false

-- the node is another element
unfoldable pub is_other : Node → Bool
is_other n = is_other_in (out-Node n)

-- such as are no imports come before what is after the node
unfoldable pub is_late : Bool → Node → Bool
is_late late n = late || is_other n

module _ {E P : Type 0} (r : Reading E P) (p : StaticContext) where
  -- a child of the root, after such as are no imports or not
  unfoldable pub placed_faults : Bool → Node → List Code
  placed_faults late n = broken XTSE0200 (late && is_import n) ++ top_faults r p n

  abbrev pub tops_faults : Bool → List Node → List Code
  tops_faults late [] = []
  tops_faults late (n ∷ ns) = placed_faults late n ++ tops_faults (is_late late n) ns

  abbrev pub tops_value : List Node → List (Part E P)
  tops_value nodes = map (top_value r p) nodes

-- the one prefix that is bound everywhere (Namespaces in XML 1.0, 3)
abbrev pub xml_binding : Binding
xml_binding = record { prefix = codes "xml"; uri = xml_uri }

abbrev pub root_bound : List Binding → List Binding
root_bound own = own ++ xml_binding ∷ []

-- where the children of the root stand
abbrev pub root_place : List Binding → List ExprName → List ExprName → StaticContext
root_place own modes called = record {
  bound = root_bound own;
  in_group = false;
  modes = modes;
  called = called;
}

abbrev pub is_stylesheet : Option XslElement → Bool
is_stylesheet (Some element.Stylesheet) = true
is_stylesheet e = false

-- The names that have numbers, given those before them.
abbrev pub root_names : Mention → Node-F Node → List ExprName → List ExprName
root_names m (Elem own name attributes kids) table = top_walk m kids (root_bound own) table
root_names m (Chars t) table = table

abbrev pub nodes_names : Mention → List Node → List ExprName → List ExprName
nodes_names m [] table = table
nodes_names m (n ∷ ns) table = root_names m (out-Node n) table

module _ {E P : Type 0} (r : Reading E P) (p : StaticContext) where
  -- the root is xsl:stylesheet or xsl:transform
  abbrev pub stylesheet_faults : Name → List Attribute → List Node → List Code
  stylesheet_faults name attributes kids =
      broken XTUN0001 (not (is_stylesheet (xsl_element name)))
      ++ (attribute_faults element.Stylesheet attributes
      ++ tops_faults r p false kids)

-- The rules that are broken, and what is declared, given the names that have numbers.
module _ {E P : Type 0} (r : Reading E P) (modes called : List ExprName) where
  abbrev pub root_layer_faults : Node-F Node → List Code
  root_layer_faults (Elem own name attributes kids) =
      stylesheet_faults r (root_place own modes called) name attributes kids
  root_layer_faults (Chars t) = SheetStatic XTUN0001 ∷ []

  abbrev pub root_layer_value : Node-F Node → List (Part E P)
  root_layer_value (Elem own name attributes kids) = tops_value r (root_place own modes called) kids
  root_layer_value (Chars t) = []

  -- there is one root
  abbrev pub nodes_faults : List Node → List Code
  nodes_faults [] = SheetStatic XTUN0001 ∷ []
  nodes_faults (n ∷ []) = root_layer_faults (out-Node n)
  nodes_faults (n ∷ m ∷ ns) = SheetStatic XTUN0001 ∷ []

  abbrev pub nodes_value : List Node → List (Part E P)
  nodes_value [] = []
  nodes_value (n ∷ ns) = root_layer_value (out-Node n)

-- the nodes of a document with the declarations of its elements, of which none lacks
abbrev pub CanBeRead : Tree → List (List Binding) → Type 0
CanBeRead tree declared = elements_in (document_content tree) ≤ length declared

abbrev pub module_nodes : Tree → List (List Binding) → List Node
module_nodes tree declared = cleaned false declared [] (document_content tree)

-- the modes that a module names, at the end of others where they are not there; the same of the
-- templates that it calls
unfoldable pub with_modes : Tree → List (List Binding) → List ExprName → List ExprName
with_modes tree declared table = nodes_names mention.Modes (module_nodes tree declared) table

unfoldable pub with_called : Tree → List (List Binding) → List ExprName → List ExprName
with_called tree declared table = nodes_names mention.Called (module_nodes tree declared) table

-- all rules that a module breaks by itself, and what it declares, by the numbers of these names
unfoldable pub parts_faults : {E P : Type 0} → Reading E P → List ExprName → List ExprName
    → Tree → List (List Binding) → List Code
parts_faults r modes called tree declared = nodes_faults r modes called (module_nodes tree declared)

unfoldable pub parts_value : {E P : Type 0} → Reading E P → List ExprName → List ExprName
    → Tree → List (List Binding) → List (Part E P)
parts_value r modes called tree declared = nodes_value r modes called (module_nodes tree declared)

-- the same by the numbers of its own names, the default mode first
abbrev pub own_modes : Tree → List (List Binding) → List ExprName
own_modes tree declared = with_modes tree declared (default_mode ∷ [])

abbrev pub own_called : Tree → List (List Binding) → List ExprName
own_called tree declared = with_called tree declared []

abbrev pub module_faults : {E P : Type 0} → Reading E P → Tree → List (List Binding) → List Code
module_faults r tree declared =
    parts_faults r (own_modes tree declared) (own_called tree declared) tree declared

abbrev pub module_value : {E P : Type 0} → Reading E P → Tree → List (List Binding) → Module E P
module_value r tree declared = record {
  parts = parts_value r (own_modes tree declared) (own_called tree declared) tree declared;
  modes = own_modes tree declared;
  called = own_called tree declared;
}
