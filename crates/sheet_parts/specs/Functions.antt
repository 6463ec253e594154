-- Stylesheet functions (XSLT 2.0, 10.3).
use Rattle.std.specs.Prelude.{List, ◌++◌, codes}
use Rattle.xt_names.specs.declared.codes.Code.{Code}
use Rattle.xt_tree.specs.declared.attributes.Attribute.{Attribute}
use Rattle.sheet_table.specs.declared.elements.XslElement.TheVariants as element
use Rattle.sheet_table.specs.Attributes.{attribute}
use Rattle.sheet_table.specs.Rules.{attribute_faults}
use Rattle.sheet_table.specs.declared.sheet_nodes.nodes.Node.{Node}
use Rattle.sheet_values.specs.Names.{function_faults, qname_value}
use Rattle.sheet_values.specs.declared.sheet_texts.places.StaticContext.{StaticContext}
use Rattle.sheet_values.specs.SheetTexts.Readings.{Reading}
use Rattle.sheet_bodies.specs.SheetHeads.Attributes.{optional_faults, optional_value}
use Rattle.sheet_bodies.specs.SheetHeads.Attributes.{needed_faults, needed_value}
use Rattle.sheet_modules.specs.declared.modules.FunctionPart.{FunctionPart}
use Rattle.sheet_modules.specs.declared.modules.Part.{Part}
use Rattle.sheet_modules.specs.declared.modules.Part.TheVariants.{Function}
use Rattle.sheet_parts.specs.declared.functions.FunctionHead.{FunctionHead}
use Rattle.sheet_parts.specs.Parameters.{front, arguments_faults, arguments_value}
use Rattle.sheet_parts.specs.Parameters.{behind_faults, behind_value}

module _ {E P : Type 0} (r : Reading E P) (p : StaticContext) where
  -- the name has a prefix
  abbrev pub head_faults : List Attribute → List Code
  head_faults attributes =
      attribute_faults element.Function attributes
      ++ (needed_faults (function_faults p.bound) (attribute attributes (codes "name"))
      ++ optional_faults (r.type_faults p) (attribute attributes (codes "as")))

  abbrev pub head_value : List Attribute → FunctionHead
  head_value attributes = record {
    name = needed_value (qname_value p.bound) (attribute attributes (codes "name"));
    kind = optional_value (r.type_value p) (attribute attributes (codes "as"));
  }

module _ {E P : Type 0} (r : Reading E P) (p : StaticContext) where
  abbrev pub element_faults : List Attribute → List Node → List Code
  element_faults attributes kids =
      head_faults r p attributes
      ++ (arguments_faults r p (front kids)
      ++ behind_faults r p (arguments_value r p (front kids)) kids)

  abbrev pub element_value : List Attribute → List Node → Part E P
  element_value attributes kids = Function (record {
    name = needed_value (qname_value p.bound) (attribute attributes (codes "name"));
    params = arguments_value r p (front kids);
    kind = optional_value (r.type_value p) (attribute attributes (codes "as"));
    body = behind_value r p kids;
  })
