-- What is at the top of a stylesheet (XSLT 2.0, 3.6.2).
use Rattle.std.specs.Prelude.{List, [], ◌∷◌, Bool, true, false, if◌then◌else◌, Option, Some, None}
use Rattle.xt_names.specs.Allowed.{is_empty_text}
use Rattle.xt_names.specs.declared.names.Name.{Name}
use Rattle.xt_names.specs.declared.codes.Code.{Code}
use Rattle.xt_names.specs.declared.codes.Code.TheVariants.{SheetStatic}
use Rattle.xt_names.specs.declared.codes.SheetStaticCode.TheVariants.{XTSE0010, XTSE0120, XTSE0130}
use Rattle.xt_tree.specs.declared.attributes.Attribute.{Attribute}
use Rattle.sheet_table.specs.declared.elements.XslElement.{XslElement}
use Rattle.sheet_table.specs.declared.elements.XslElement.TheVariants as element
use Rattle.sheet_table.specs.Elements.{xsl_element, misplaced}
use Rattle.sheet_table.specs.declared.sheet_nodes.nodes.Node.{Node}
use Rattle.sheet_table.specs.declared.sheet_nodes.nodes.Node.TheViews.{out-Node}
use Rattle.sheet_table.specs.declared.sheet_nodes.nodes.Node.TheOpen.{Node-F, Elem, Chars}
use Rattle.sheet_values.specs.Rules.{broken}
use Rattle.sheet_values.specs.declared.sheet_texts.places.StaticContext.{StaticContext}
use Rattle.sheet_values.specs.SheetTexts.Places.{within}
use Rattle.sheet_values.specs.SheetTexts.Readings.{Reading}
use Rattle.sheet_modules.specs.declared.modules.Part.{Part}
use Rattle.sheet_modules.specs.declared.modules.Part.TheVariants.{Ignored, Linked}
use Rattle.sheet_parts.specs.Templates.{template_faults, template_value}
use Rattle.sheet_parts.specs.Functions as function
use Rattle.sheet_parts.specs.Globals.{variable_faults, variable_value, parameter_faults, parameter_value}
use Rattle.sheet_parts.specs.Keys as key
use Rattle.sheet_parts.specs.Outputs.{empty_faults, space_faults, space_value, output_value}
use Rattle.xt_names.specs.Names.{is_in_xslt}

module _ {E P : Type 0} (r : Reading E P) (p : StaticContext) where
  -- the declarations; no other element of XSLT is at the top
  abbrev pub declaration_faults : XslElement → List Attribute → List Node → List Code
  declaration_faults element.Import attributes kids = empty_faults element.Import attributes kids
  declaration_faults element.Include attributes kids = empty_faults element.Include attributes kids
  declaration_faults element.Template attributes kids = template_faults r p attributes kids
  declaration_faults element.Function attributes kids = function.element_faults r p attributes kids
  declaration_faults element.Variable attributes kids = variable_faults r p attributes kids
  declaration_faults element.Param attributes kids = parameter_faults r p attributes kids
  declaration_faults element.Key attributes kids = key.element_faults r p attributes kids
  declaration_faults element.StripSpace attributes kids = space_faults p element.StripSpace attributes kids
  declaration_faults element.PreserveSpace attributes kids = space_faults p element.PreserveSpace attributes kids
  declaration_faults element.Output attributes kids = empty_faults element.Output attributes kids
  declaration_faults e attributes kids = SheetStatic XTSE0010 ∷ []

  abbrev pub declaration_value : XslElement → List Attribute → List Node → Part E P
  declaration_value element.Template attributes kids = template_value r p attributes kids
  declaration_value element.Function attributes kids = function.element_value r p attributes kids
  declaration_value element.Variable attributes kids = variable_value r p attributes kids
  declaration_value element.Param attributes kids = parameter_value r p attributes kids
  declaration_value element.Key attributes kids = key.element_value r p attributes
  declaration_value element.StripSpace attributes kids = space_value p true attributes
  declaration_value element.PreserveSpace attributes kids = space_value p false attributes
  declaration_value element.Output attributes kids = output_value attributes
  declaration_value e attributes kids = Linked

  abbrev pub xsl_faults : Option XslElement → Name → List Attribute → List Node → List Code
  xsl_faults None name attributes kids = SheetStatic (misplaced name) ∷ []
  xsl_faults (Some e) name attributes kids = declaration_faults e attributes kids

  abbrev pub xsl_value : Option XslElement → List Attribute → List Node → Part E P
  xsl_value None attributes kids = Ignored
  xsl_value (Some e) attributes kids = declaration_value e attributes kids

  -- an element of another namespace is passed over, and one of none may not stand here
  abbrev pub any_faults : Name → List Attribute → List Node → List Code
  any_faults name attributes kids =
      if is_in_xslt name then xsl_faults (xsl_element name) name attributes kids
      else broken XTSE0130 (is_empty_text name.uri)

  abbrev pub any_value : Name → List Attribute → List Node → Part E P
  any_value name attributes kids =
      if is_in_xslt name then xsl_value (xsl_element name) attributes kids else Ignored

module _ {E P : Type 0} (r : Reading E P) (p : StaticContext) where
  -- and no text either
  abbrev pub layer_faults : Node-F Node → List Code
  layer_faults (Elem own name attributes kids) = any_faults r (within p own) name attributes kids
  layer_faults (Chars t) = SheetStatic XTSE0120 ∷ []

  abbrev pub layer_value : Node-F Node → Part E P
  layer_value (Elem own name attributes kids) = any_value r (within p own) name attributes kids
  layer_value (Chars t) = Ignored

  abbrev pub top_faults : Node → List Code
  top_faults n = layer_faults (out-Node n)

  abbrev pub top_value : Node → Part E P
  top_value n = layer_value (out-Node n)
