-- xsl:sort (XSLT 2.0, 13.1).
use Rattle.std.specs.Prelude.{ℕ, List, [], ◌∷◌, ◌++◌, Bool}
use Rattle.std.specs.Prelude.{false, Option, Some, None, unwrap_or, codes, if◌then◌else◌}
use Rattle.std.specs.Str.{bytes_eq}
use Rattle.xt_names.specs.declared.names.Binding.{Binding}
use Rattle.xt_names.specs.declared.codes.Code.{Code}
use Rattle.xt_names.specs.declared.codes.Code.TheVariants.{SheetStatic}
use Rattle.xt_tree.specs.declared.attributes.Attribute.{Attribute}
use Rattle.xt_sheets.specs.declared.values.Sort.{Sort}
use Rattle.sheet_table.specs.declared.elements.XslElement.TheVariants as element
use Rattle.sheet_table.specs.Attributes.{attribute}
use Rattle.sheet_table.specs.Rules.{attribute_faults}
use Rattle.sheet_table.specs.SheetNodes.Parts.{none_faults, misplaced_node, is_sort}
use Rattle.sheet_table.specs.declared.sheet_nodes.nodes.Node.{Node}
use Rattle.sheet_table.specs.declared.sheet_nodes.nodes.Node.TheViews.{out-Node}
use Rattle.sheet_table.specs.declared.sheet_nodes.nodes.Node.TheOpen.{Node-F, Elem, Chars}
use Rattle.sheet_values.specs.declared.sheet_texts.places.StaticContext.{StaticContext}
use Rattle.sheet_values.specs.SheetTexts.Places.{within}
use Rattle.sheet_values.specs.SheetTexts.Readings.{Reading}

unfoldable pub is_descending : Option (List ℕ) → Bool
is_descending None = false
is_descending (Some order) = bytes_eq order (codes "descending")

-- whether keys are compared as numbers; nothing where the attribute is missing
unfoldable pub number_of : Option (List ℕ) → Option Bool
number_of None = None
number_of (Some kind) = Some (bytes_eq kind (codes "number"))

-- items are sorted by themselves where `select` is missing
abbrev pub key_text : List Attribute → List ℕ
key_text attributes = unwrap_or (attribute attributes (codes "select")) (codes ".")

module _ {E P : Type 0} (r : Reading E P) (p : StaticContext) where
  abbrev pub key_faults : List Attribute → List Code
  key_faults attributes = r.expr_faults p (key_text attributes)

  abbrev pub key_value : List Attribute → E
  key_value attributes = r.expr_value p (key_text attributes)

module _ {E P : Type 0} (r : Reading E P) (p : StaticContext) where
  -- the attributes are those of the table, there is no content, and the key is read
  abbrev pub sort_faults : List Binding → List Attribute → List Node → List Code
  sort_faults own attributes kids =
      attribute_faults element.Sort attributes
      ++ (none_faults kids
      ++ key_faults r (within p own) attributes)

  abbrev pub sort_value : List Binding → List Attribute → Sort E
  sort_value own attributes = record {
    key = key_value r (within p own) attributes;
    descending = is_descending (attribute attributes (codes "order"));
    number = number_of (attribute attributes (codes "data-type"));
  }

  -- the key of characters alone, which is none
  abbrev pub no_sort : Sort E
  no_sort = record { key = r.expr_value p []; descending = false; number = None }

  abbrev pub sort_layer_faults : Node → Node-F Node → List Code
  sort_layer_faults n (Elem own name attributes kids) = sort_faults own attributes kids
  sort_layer_faults n (Chars t) = SheetStatic (misplaced_node n) ∷ []

  abbrev pub sort_layer_value : Node-F Node → Sort E
  sort_layer_value (Elem own name attributes kids) = sort_value own attributes
  sort_layer_value (Chars t) = no_sort

  abbrev pub sort_node_faults : Node → List Code
  sort_node_faults n = sort_layer_faults n (out-Node n)

  abbrev pub sort_node_value : Node → Sort E
  sort_node_value n = sort_layer_value (out-Node n)

module _ {E P : Type 0} (r : Reading E P) (p : StaticContext) where
  -- the elements xsl:sort among the nodes
  abbrev pub keys_faults : List Node → List Code
  keys_faults [] = []
  keys_faults (n ∷ ns) = if is_sort n then sort_node_faults r p n ++ keys_faults ns else keys_faults ns

  abbrev pub keys_value : List Node → List (Sort E)
  keys_value [] = []
  keys_value (n ∷ ns) = if is_sort n then sort_node_value r p n ∷ keys_value ns else keys_value ns
